-- A step of the world, from what its kind leads to.
use Rattle.std.proofs.Common.{◌≡◌, ℕ, ◌≤◌, Bool, true, false, ◌&&◌, nat_lt, nat_le, length, MatchBool, refl, sym, ap, ap₂, ◌∙◌, subst, arith, true≢false}
use Rattle.std.proofs.lemmas.Bool.Decides.{nat_tests}
use Rattle.std.proofs.lemmas.List.{length-map}
use Rattle.mvd_world.specs.declared.steps.Step.{Step}
use Rattle.mvd_world.specs.declared.steps.Step.TheVariants.{Receive}
use Rattle.mvd_world.specs.declared.steps.Outcome.{Outcome}
use Rattle.mvd_world.specs.declared.steps.Outcome.TheVariants.{NoSuch}
use Rattle.mvd_world.specs.declared.worlds.World.{World}
use Rattle.mvd_world.specs.Machine.{Knowledge, Setting, Takes, is_numbered, is_site, may_be}
use Rattle.mvd_world.specs.Worlds.{IsWorld, KnownChangesNothing, Leads, StaysTheSame, Steps, message_of}

pub may_be_same : (setting : Setting) (old : World) (before : Knowledge) (step : Step) → IsWorld setting old before →
    may_be (is_numbered (length old.sites.items)) (length old.messages.items) step ≡ may_be (is_site setting) (length before.messages) step
may_be_same setting old before step world = ap₂ (λ a b. may_be a b step) (λ i number. world.all number i) (ap length world.messages ∙ length-map before.messages message_of)

pub step_takes : (old new : World) (step : Step) (outcome : Outcome) → may_be (is_numbered (length old.sites.items)) (length old.messages.items) step ≡ true → Leads old new (λ setting before after. Takes setting before step outcome after) → Steps old new step outcome
step_takes old new step outcome may leads setting before world =
    let end = leads setting before world in
    (end.0, (subst (λ b. MatchBool b (Takes setting before step outcome end.0) ((outcome ≡ NoSuch) × (end.0 ≡ before))) (sym (sym (may_be_same setting old before step world) ∙ may)) end.1.0, end.1.1))

pub step_none : (old : World) (step : Step) → may_be (is_numbered (length old.sites.items)) (length old.messages.items) step ≡ false → Steps old old step NoSuch
step_none old step none setting before world =
    (before, (subst (λ b. MatchBool b (Takes setting before step NoSuch before) ((NoSuch ≡ NoSuch) × (before ≡ before))) (sym (sym (may_be_same setting old before step world) ∙ none)) (refl, refl), world))

pub and_both : (a b : Bool) → (a && b) ≡ true → (a ≡ true) × (b ≡ true)
and_both true true h = (refl, refl)
and_both true false h = absurd (cc)
and_both false b h = absurd (cc)

pub numbered : (count number : ℕ) → is_numbered count number ≡ true → (1 ≤ number) × (number ≤ count)
numbered count number h =
    let both = and_both (nat_lt 0 number) (nat_le number count) h in
    let low : 1 ≤ number = let e = both.0 in grind (arith, nat_tests) in
    let high : number ≤ count = let e = both.1 in grind (arith, nat_tests) in
    (low, high)

-- the same, of a step that is known to be this one
pub step_as : (old new : World) (step is : Step) (outcome : Outcome) → step ≡ is → may_be (is_numbered (length old.sites.items)) (length old.messages.items) step ≡ true → Leads old new (λ setting before after. Takes setting before is outcome after) → Steps old new step outcome
step_as old new step is outcome same may leads =
    subst (λ x. Steps old new x outcome) (sym same) (step_takes old new is outcome (ap (may_be (is_numbered (length old.sites.items)) (length old.messages.items)) (sym same) ∙ may) leads)

-- ---- where there is no such step

pub none_same : (old : World) (step : Step) → StaysTheSame old old step
none_same old (Receive site message) = λ s m at at' nothing. refl
none_same old step = tt

pub none_known : (old : World) (step : Step) → may_be (is_numbered (length old.sites.items)) (length old.messages.items) step ≡ false → KnownChangesNothing old old step NoSuch
none_known old (Receive site message) none = λ setting before world may knows. absurd (true≢false (sym may ∙ sym (may_be_same setting old before (Receive site message) world) ∙ none))
none_known old step none = tt

pub there_is : (b : Bool) (outcome : Outcome) (old new : World) → b ≡ true → b ≡ false → (outcome ≡ NoSuch) × (new ≡ old)
there_is b outcome old new may none = absurd (true≢false (sym may ∙ none))
