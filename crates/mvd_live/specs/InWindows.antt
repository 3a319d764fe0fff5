-- A session of a world that ran in windows, among writers and other sessions.
use Rattle.std.specs.Prelude.{ℕ, List}
use Rattle.mvd_tree.specs.Hashed.{HashesTellApart}
use Rattle.mvd_site.specs.Answer.{spelled, states_of}
use Rattle.mvd_site.specs.Held.{AreHeld}
use Rattle.mvd_peer.specs.PushedStates.{Each}
use Rattle.mvd_sync.specs.declared.report.Report.{Report}
use Rattle.mvd_world.specs.declared.acts.Act.{Act}
use Rattle.mvd_world.specs.declared.acts.Act.TheVariants.{Begin, Go}
use Rattle.mvd_world.specs.declared.acts.Came.{Came}
use Rattle.mvd_world.specs.declared.acts.Came.TheVariants.{Began, Met}
use Rattle.mvd_world.specs.declared.steps.Outcome.{Outcome}
use Rattle.mvd_world.specs.declared.steps.Step.{Step}
use Rattle.mvd_world.specs.Agreeing.{RanToItsEnd}
use Rattle.mvd_world.specs.Machine.{Knowledge, RunsSteps, Setting}
use Rattle.mvd_world.specs.OpenWorlds.{MayAct, RunsActs, Scene}

-- A SESSION THAT RAN IN WINDOWS: it began, went on among any acts, and at last told that it is done
pub record RanInWindows (setting : Setting) (before after : Scene) (local peer : ℕ) (report : Report) : Type 0 where
  pub number : ℕ
  pub begun : Scene
  pub ended : Scene
  pub acts : List Act
  pub cames : List Came
  pub begins : MayAct setting before (Begin local peer) (Began number) begun
  pub runs : RunsActs setting begun acts cames ended
  pub ends : MayAct setting ended (Go number) (Met report) after

-- steps lead from the one to the other
abbrev pub LedTo : Setting → Knowledge → Knowledge → Type 0
LedTo setting before after =
    (steps : List Step) × (outcomes : List Outcome) × RunsSteps setting before steps outcomes after

-- a moment from the first to the last
abbrev pub IsBetween : Setting → Knowledge → Knowledge → Knowledge → Type 0
IsBetween setting first last mid = LedTo setting first mid × LedTo setting mid last

-- what both sites hold at this moment is in form, as each site of a world keeps it
abbrev pub AreInForm : ℕ → ℕ → Knowledge → Type 0
AreInForm local peer k = AreHeld (states_of (k.known local)) × AreHeld (states_of (k.known peer))

-- THE HASH PREMISE: SHA-256 tells the texts apart that are hashed for what the local site holds at one of these
-- moments, and the peer at another
abbrev pub TellApartAt : ℕ → ℕ → List Knowledge → Type 0
TellApartAt local peer moments =
    Each (λ (a : Knowledge). Each (λ (b : Knowledge).
    HashesTellApart spelled (states_of (a.known local)) (states_of (b.known peer))) moments) moments

-- IT RAN TO ITS END, where so at some moments of it: those at which the sites answered, and the first and the last
pub record EndsOver (setting : Setting) (first last : Knowledge) (local peer : ℕ) : Type 0 where
  pub moments : List Knowledge
  pub between : Each (IsBetween setting first last) moments
  pub ran : Each (AreInForm local peer) moments → TellApartAt local peer moments → RanToItsEnd first last local peer
