-- A world after many steps.
use Rattle.std.proofs.Common.{◌≡◌, ◌+◌, List, [], ◌∷◌, ◌++◌, refl, ap, ◌∙◌, subst}
use Rattle.std.specs.List.{AllByRecursion}
use Rattle.mvd_keys.proofs.Standing.{Stands-SameWrites, Stands-one}
use Rattle.mvd_site.specs.FromStates.{answer_from}
use Rattle.mvd_site.proofs.Alike.{from_states}
use Rattle.mvd_world.specs.declared.steps.Step.{Step}
use Rattle.mvd_world.specs.declared.steps.Outcome.{Outcome}
use Rattle.mvd_world.specs.declared.worlds.World.{World}
use Rattle.mvd_world.specs.Machine.{IsNoClash, Knowledge, MayStep, RunsSteps, Setting, nothing_yet}
use Rattle.mvd_world.specs.Worlds.{AlikeWhereSame, AreShort, IsWorld, StandForKnown, Steps}
use Rattle.mvd_world.proofs.Apart.{agree_within, step_apart}

runs_push : (setting : Setting) (before middle after : Knowledge) (steps : List Step) (step : Step) (outcomes : List Outcome) (outcome : Outcome) → RunsSteps setting before steps outcomes middle → MayStep setting middle step outcome after →
    RunsSteps setting before (steps ++ step ∷ []) (outcomes ++ outcome ∷ []) after
runs_push setting before middle after [] step [] outcome runs may = (after, subst (λ w. MayStep setting w step outcome after) runs may, refl)
runs_push setting before middle after (s ∷ steps) step (o ∷ outcomes) outcome runs may = (runs.0, runs.1, runs_push setting runs.0 middle after steps step outcomes outcome runs.2 may)
runs_push setting before middle after [] step (o ∷ outcomes) outcome runs may = absurd runs
runs_push setting before middle after (s ∷ steps) step [] outcome runs may = absurd runs

all_push : {X : Type 0} (P : X → Type 0) (xs : List X) (x : X) → AllByRecursion P xs → P x → AllByRecursion P (xs ++ x ∷ [])
all_push P [] x all here = (here, tt)
all_push P (y ∷ xs) x all here = (all.0, all_push P xs x all.1 here)

-- what is known of a world after some steps
pub record SoFar (setting : Setting) (steps : List Step) (outcomes : List Outcome) (world : World) : Type 0 where
  pub end : Knowledge
  pub runs : RunsSteps setting nothing_yet steps outcomes end
  pub stands : IsWorld setting world end
  pub apart : AllByRecursion IsNoClash outcomes
  pub short : AreShort world

pub at_first : (setting : Setting) (world : World) → IsWorld setting world nothing_yet → AreShort world → SoFar setting [] [] world
at_first setting world is short = record { end = nothing_yet; runs = refl; stands = is; apart = tt; short = short }

pub one_more : (setting : Setting) (steps : List Step) (step : Step) (outcomes : List Outcome) (outcome : Outcome) (old new : World) → SoFar setting steps outcomes old → Steps old new step outcome → (AreShort old → AreShort new) → SoFar setting (steps ++ step ∷ []) (outcomes ++ outcome ∷ []) new
one_more setting steps step outcomes outcome old new so_far takes short =
    let more = takes setting so_far.end so_far.stands in
    record {
      end = more.0;
      runs = runs_push setting nothing_yet so_far.end more.0 steps step outcomes outcome so_far.runs more.1.0;
      stands = more.1.1;
      apart = all_push IsNoClash outcomes outcome so_far.apart (step_apart setting so_far.end step outcome more.0 so_far.stands.sound more.1.0);
      short = short so_far.short;
    }

-- ---- what follows

pub leads_to : (setting : Setting) (steps : List Step) (outcomes : List Outcome) (world : World) (Holds : Knowledge → Type 0) → SoFar setting steps outcomes world → ((end : Knowledge) → IsWorld setting world end → Holds end)
    → (end : Knowledge) × (RunsSteps setting nothing_yet steps outcomes end × (IsWorld setting world end × Holds end))
leads_to setting steps outcomes world Holds so_far follows = (so_far.end, (so_far.runs, (so_far.stands, follows so_far.end so_far.stands)))

pub stand : (setting : Setting) (world : World) (end : Knowledge) → IsWorld setting world end → StandForKnown world end
stand setting world end is i site found whole = ((is.sites i site found).stands whole, is.sound.known (i + 1))

pub alike : (setting : Setting) (world : World) (end : Knowledge) → IsWorld setting world end → AlikeWhereSame world end
alike setting world end is i j a b at at' whole whole' defs same =
    let mine = is.sites i a at in
    let theirs = is.sites j b at' in
    let V = end.known (i + 1) in
    let states : a.states ≡ b.states = Stands-one a.states b.states (end.known (j + 1))
    (Stands-SameWrites a.states V (end.known (j + 1)) (mine.stands whole) same (agree_within end V is.sound (is.sound.known (i + 1))))
    (theirs.stands whole') in
    record {
      states = states;
      answers = λ request asks. ap (λ m. answer_from a.config m request) states
          ∙ from_states a.config b.config b.states request defs asks;
    }
