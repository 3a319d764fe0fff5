use Rattle.std.proofs.Common.{ap, sym, ◌∙◌, subst}
use Rattle.mvd_sync.specs.Walking.{ComeAfter, Walking}
use Rattle.mvd_sync.proofs.Opening.{ends_mine, ends_theirs, fills_to}
use Rattle.mvd_sync.proofs.walking.BucketWalk.take.Goals as goal

pub returns-then-not-comes_after-clause-ended : goal.returns-then-not-comes_after-clause-ended
returns-then-not-comes_after-clause-ended c = ends_mine c.args.self.now c.args.mine.items c.args.theirs.items c.in-Some.entry
    (sym (ap (λ (w : Walking). w.entry) c.self.view_is) ∙ c.in-Some.is) c.self.inside.bucket (sym (ap (λ (w : Walking). w.bucket) c.self.view_is))
    (λ none. let no = (c.self.invariant.2 none).1 in let yes = c.in-Some.is in absurd (cc))
    (λ after. let t = c.comes_after.ensures.1 (subst (ComeAfter c.in-Some.entry.key) (sym c.deref.ensures.value) after) in let f = c.if-not-comes_after.true in absurd (cc))

pub returns-then-not-comes_after-2-clause-ended : goal.returns-then-not-comes_after-2-clause-ended
returns-then-not-comes_after-2-clause-ended c = ends_theirs c.args.self.now c.args.mine.items c.args.theirs.items c.in-Some.entry
    (sym (ap (λ (w : Walking). w.entry) c.self.view_is) ∙ c.in-Some.is) c.self.inside.bucket (sym (ap (λ (w : Walking). w.bucket) c.self.view_is))
    (λ none. let no = (c.self.invariant.2 none).1 in let yes = c.in-Some.is in absurd (cc))
    (λ after. let t = c.comes_after-2.ensures.1 (subst (ComeAfter c.in-Some.entry.key) (sym c.deref-2.ensures.value) after) in let f = c.if-not-comes_after-2.true in absurd (cc))

pub returns-clause-told : goal.returns-clause-told
returns-clause-told c = fills_to c.args.self.now c.args.mine.items c.args.theirs.items c.in-Some.entry
    (sym (ap (λ (w : Walking). w.entry) c.self.view_is) ∙ c.in-Some.is) c.self.inside.bucket (sym (ap (λ (w : Walking). w.bucket) c.self.view_is))
    (λ none. let no = (c.self.invariant.2 none).1 in let yes = c.in-Some.is in absurd (cc)) c.fill.result c.fill.new.self
    (subst (ComeAfter c.in-Some.entry.key) c.deref.ensures.value (c.comes_after.ensures.0 c.if-not-comes_after.false))
    (subst (ComeAfter c.in-Some.entry.key) c.deref-2.ensures.value (c.comes_after-2.ensures.0 c.if-not-comes_after-2.false))
    c.fill.ensures.told c.fill.ensures.filled
