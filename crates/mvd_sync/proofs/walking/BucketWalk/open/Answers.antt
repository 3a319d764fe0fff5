use Rattle.std.proofs.Common.{◌≡◌, ◌≤◌, ◌+◌, ◌∙◌, ap, sym, subst, arith, None, [], map, take, drop, length}
use Rattle.std.proofs.lemmas.Grind.{common_steps}
use Rattle.mvd_sync.specs.Walking.{IsTold, Walking, first_page, opened_buckets, pages_next}
use Rattle.mvd_sync.proofs.Opening.{opens_quiet, opens_sure, opens_to, opens_within, some_window}
use Rattle.mvd_sync.proofs.walking.BucketWalk.open.Goals as goal

pub invariant_of-self : goal.invariant_of-self
invariant_of-self c =
    let d = c.self.inside in
    let at = c.args.self.now in
    let mine = c.args.mine.items in
    let theirs = c.args.theirs.items in
    let bucket : d.bucket ≡ None = ap (λ (w : Walking). w.bucket) c.self.view_is ∙ c.requires.none in
    let none = (c.self.invariant.2 bucket).1 in
    let is = c.self.invariant.1 ∙ ap (λ o. pages_next o d.entry (drop d.begun d.paths.items)) bucket in
    let items : c.in-Ok.buckets.items ≡ opened_buckets d.asked.items mine theirs = c.in-Ok.ensures.opened ∙ ap (λ qs. opened_buckets qs mine theirs) c.deref.ensures.value in
    let view : record { rest = drop d.begun d.paths.items; bucket = None; later = d.later.items; entry = d.entry } ≡ at = (λ i. record { rest = drop d.begun d.paths.items; bucket = sym bucket i; later = d.later.items; entry = d.entry }) ∙ c.self.view_is in
    let rest = ap (λ (w : Walking). w.rest) view in
    let some = some_window at d.asked.items mine theirs (is ∙ ap (λ r. map first_page (take 64 r)) rest) c.requires.some c.requires.mine c.requires.theirs in
    let last : c.pop_front.result ≡ None → opened_buckets d.asked.items mine theirs ≡ [] = λ ended. sym items ∙ grind (arith, common_steps) in
    let all = sym items ∙ c.pop_front.ensures.items in
    let wide : c.len.result ≡ length d.asked.items = grind (arith, common_steps) in (
      subst (λ n. d.begun + n ≤ length d.paths.items) (sym wide) (opens_within at d.begun d.paths.items d.later.items d.entry d.asked.items mine theirs view none is c.pop_front.result c.pop_front.new.self.items all last some c.self.invariant.0),
      c.new.ensures.items ∙ opens_quiet at d.begun d.paths.items d.later.items d.entry d.asked.items mine theirs view none is c.pop_front.result c.pop_front.new.self.items all last some _,
      opens_sure at d.begun d.paths.items d.later.items d.entry d.asked.items mine theirs view none is c.pop_front.result c.pop_front.new.self.items all last some,
    )

pub returns-clause-told : goal.returns-clause-told
returns-clause-told c =
    let d = c.self.inside in
    let at = c.args.self.now in
    let mine = c.args.mine.items in
    let theirs = c.args.theirs.items in
    let bucket : d.bucket ≡ None = ap (λ (w : Walking). w.bucket) c.self.view_is ∙ c.requires.none in
    let none = (c.self.invariant.2 bucket).1 in
    let is = c.self.invariant.1 ∙ ap (λ o. pages_next o d.entry (drop d.begun d.paths.items)) bucket in
    let items : c.in-Ok.buckets.items ≡ opened_buckets d.asked.items mine theirs = c.in-Ok.ensures.opened ∙ ap (λ qs. opened_buckets qs mine theirs) c.deref.ensures.value in
    let view : record { rest = drop d.begun d.paths.items; bucket = None; later = d.later.items; entry = d.entry } ≡ at = (λ i. record { rest = drop d.begun d.paths.items; bucket = sym bucket i; later = d.later.items; entry = d.entry }) ∙ c.self.view_is in
    let rest = ap (λ (w : Walking). w.rest) view in
    let some = some_window at d.asked.items mine theirs (is ∙ ap (λ r. map first_page (take 64 r)) rest) c.requires.some c.requires.mine c.requires.theirs in
    let last : c.pop_front.result ≡ None → opened_buckets d.asked.items mine theirs ≡ [] = λ ended. sym items ∙ grind (arith, common_steps) in
    let all = sym items ∙ c.pop_front.ensures.items in
    let wide : c.len.result ≡ length d.asked.items = grind (arith, common_steps) in
    subst (λ n. IsTold at mine theirs None (record { rest = drop (d.begun + n) d.paths.items; bucket = c.pop_front.result; later = c.pop_front.new.self.items; entry = d.entry })) (sym wide)
    (opens_to at d.begun d.paths.items d.later.items d.entry d.asked.items mine theirs view none is c.pop_front.result c.pop_front.new.self.items all last some)
