use Rattle.std.proofs.Common.{ℕ, subst}
use Rattle.mvd_sync.specs.Fronts.{IsCut}
use Rattle.mvd_sync.specs.Machines.{cut, whole}
use Rattle.mvd_sync.proofs.hearing.hear_states.Goals as goal

pub returns-in-Some : goal.returns-in-Some
returns-in-Some c = cut c.in-Some.count (subst (λ es. IsCut es c.args.shares c.args.answers c.in-Some.count) c.deref.ensures.value c.in-Some.ensures.some) c.hear_first.ensures

pub returns-in-None : goal.returns-in-None
returns-in-None c = whole (subst (λ es. (n : ℕ) → IsCut es c.args.shares c.args.answers n → ⊥) c.deref.ensures.value c.in-None.ensures.none) c.hear_window.ensures
