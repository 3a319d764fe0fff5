use Rattle.std.proofs.Common.{◌∷◌, ◌++◌, [], ◌↔◌, ◌≡◌, append_assoc, subst, sym, ap, ◌∙◌, arith}
use Rattle.std.specs.Prelude.{IsTrue}
use Rattle.std.proofs.lemmas.List.{append-nil}
use Rattle.std.proofs.lemmas.Grind.{common_steps}
use Rattle.mvd_sync.specs.Meetings.{ArePlans, or_empty}
use Rattle.mvd_sync.specs.Olds.{HasUnseen}
use Rattle.mvd_sync.proofs.Plans.{plans_more}
use Rattle.mvd_sync.proofs.meetings.plan_all.Goals as goal

pub loop-entry-preserved : goal.loop-entry-preserved
loop-entry-preserved c = λ ms more.
    let number = c.args.number in
    let own = c.next_if-own.result in
    let other = c.next_if-other.result in
    let r = c.has_unseen-is_old.result in
    let m = c.in_ok-plan.field-0 in
    let seen : IsTrue r ↔ HasUnseen number (or_empty own) (or_empty other) = subst (λ x. IsTrue r ↔ HasUnseen number (or_empty x) (or_empty other)) c.as_ref.ensures.value
    (subst (λ y. IsTrue r ↔ HasUnseen number (or_empty (Rattle.std.specs.Option.option_copied c.as_ref.result)) (or_empty y)) c.as_ref-in-Some.ensures.value c.has_unseen-is_old.ensures) in
    let here = plans_more number c.in-Some.entry c.pop_front.new.self.items c.loop-entry.mine.items c.loop-entry.theirs.items c.next_if-own.new.states.items c.next_if-other.new.states.items own other r m ms
    c.next_if-own.ensures.first c.next_if-own.ensures.rest c.next_if-other.ensures.first c.next_if-other.ensures.rest c.in_ok-plan.ensures.plan seen more in
    let all = c.loop-entry.invariant (m ∷ ms) (subst (λ es. ArePlans number es c.loop-entry.mine.items c.loop-entry.theirs.items (m ∷ ms)) (sym c.in-Some.ensures.items) here) in
    subst (λ v. ArePlans number c.args.entries.items c.args.mine.items c.args.theirs.items v) (sym (append_assoc c.loop-entry.meetings.items (m ∷ []) ms) ∙ ap (λ v. v ++ ms) (sym c.in_ok-push.ensures.items)) all

pub returns-clause-plans : goal.returns-clause-plans
returns-clause-plans c =
    let number = c.args.number in
    let none : c.loop-entry.entries.items ≡ [] = grind (arith, common_steps) in
    subst (λ v. ArePlans number c.args.entries.items c.args.mine.items c.args.theirs.items v) (append-nil c.loop-entry.meetings.items)
    (c.loop-entry.invariant [] (subst (λ es. ArePlans number es c.loop-entry.mine.items c.loop-entry.theirs.items []) (sym none) tt))
