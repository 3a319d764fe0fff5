-- A file over many runs of programs, as one behaviour of the store. No type of a store stands in what a run comes to,
-- so runs of different programs, each with its own, follow one another.
use Rattle.std.specs.Prelude.{◌≡◌, ◌≢◌, ◌⊎◌, ⊤, false, ℕ, List, [], ◌∷◌, ◌++◌, Ok}
use Rattle.std.specs.List.{AllByRecursion}
use Rattle.mvd_keys.specs.Writes.{Stands, Write}
use Rattle.mvd_wire.specs.declared.request.Request.{Request}
use Rattle.mvd_records.specs.Records.{HasNone, IsOurs, IsSound, new_states, old_states}
use Rattle.mvd_site.specs.Config.{ConfigValue}
use Rattle.mvd_site.specs.Held.{States}
use Rattle.mvd_site.specs.Known.{IsValidRequest}
use Rattle.mvd_model.specs.TheStore.{AddAll, AreAmong, Event, Happen, Knows, Opened, Setup, config}
use Rattle.mvd_replica.specs.File.{HoldsFile, IsFoundAt, OpensFile}
use Rattle.mvd_replica.specs.Holds.{HoldsSite, HoldsStates}
use Rattle.mvd_replica.specs.Replicas.{StoredSite}
use Rattle.mvd_replica.specs.Restarts.{Run, left_in, opened_in}
use Rattle.mvd_replica.specs.Turns.{IsToldElse, Turn}
use Rattle.mvd_replica.specs.Whole.{IsAtRest, LeavesWhole}
use Rattle.sqlite.specs.Effect.{Database}
use Rattle.sqlite.specs.Files.{HoldsDatabase}
use Rattle.sqlite.specs.Recovery.{Image}
use Rattle.sqlite.specs.State.{HasCleanDisk, State}
use Rattle.sqlite.specs.Tree.{Trees}
use Rattle.mvd_runs.specs.Calls.{AreUndoneAtOnce, CallsFollow, all_turns}
use Rattle.mvd_runs.specs.Events.{AreTurns, events_of}

-- The image is the file of this site: it holds states that stand for what the store knows of the site, and for what
-- some requests add that the site refused with 21 or broke with, if for any
pub record IsFile (a : Knows) (i : ℕ) (image : Image) : Type 0 where
  pub some : List Request
  pub among : AreAmong some (a i).refused
  pub added : List Write
  pub adds : AddAll (config i (a i).setup) (a i).known some added
  pub states : States
  pub holds : HoldsFile image i states
  pub stands : Stands states ((a i).known ++ added)

-- The image is a new file of this site: nothing is known of the site, and a database that is found in the image has
-- none of our tables or is ours, and no state is stored in it
pub record IsNewFile (a : Knows) (i : ℕ) (image : Image) : Type 0 where
  pub nothing : (a i).known ≡ []
  pub ours : (was : Database) → IsFoundAt image was → IsOurs was
  pub none : (was : Database) → IsFoundAt image was → HasNone (old_states was) × HasNone (new_states was)

abbrev pub setup_of : ConfigValue → Setup
setup_of c = record { max_keys = c.max_keys; defs = c.defs }

-- It was opened, the turns of these calls were events, and the image after is the file of the site then; all other
-- sites are as they were
abbrev pub PassesFrom : Knows → ℕ → Setup → List (List Turn) → Image → Type 0
PassesFrom a i setup calls after =
    (some : List Request) × (end : Knows) × Happen a (Opened i setup some ∷ events_of i false calls) end
    × IsFile end i after × ((j : ℕ) → j ≢ i → end j ≡ a j)

-- so, whatever the store knew, where the image before is the file of the site, or a new one
abbrev pub Passes : ℕ → Setup → List (List Turn) → Image → Image → Type 0
Passes i setup calls before after = (a : Knows) → IsFile a i before ⊎ IsNewFile a i before
    → PassesFrom a i setup calls after

-- ---- one run

-- if a request of the turn pushes a state, some writes have that state
abbrev pub IsValidTurn : Turn → Type 0
IsValidTurn turn = (request : Request) → turn.asked ≡ Ok request → IsValidRequest request

-- How a run begins, and the turns that it takes, in these calls: `open_file` opened the file
pub record Begins {C : Type 0} (f : C → State) (calls : List (List Turn)) (run : Run C) : Type 0 where
  pub all : run.turns ≡ all_turns calls
  pub config : run.old.config ≡ run.config
  pub whole : run.old.broken ≡ false
  pub opens : IsSound (f run.before) → OpensFile run.image run.config run.old (f run.before).committed
  pub turns : AreTurns run.turns run.old run.new
  pub valid : AllByRecursion IsValidTurn run.turns

-- It ends with a close (`IsClosed`): the store is sound, and the file holds what the database held
pub record Closes {C : Type 0} (f : C → State) (calls : List (List Turn)) (run : Run C) : Type 0 where
  pub follows : CallsFollow calls (opened_in f run) (left_in f run)
  pub sound : IsSound (f run.after)
  pub closes : (site : ℕ) (states : States) → HoldsStates site states (f run.after).committed
      → HoldsFile run.left site states
  pub holds : run.new.broken ≡ false → HoldsSite run.new (f run.after).committed →
      HoldsStates run.new.config.site run.new.states (f run.after).committed

-- Or it was stopped after these calls or within the last of them, and nobody else has written the file
pub record Stops {C : Type 0} (f : C → State) (calls : List (List Turn)) (run : Run C) : Type 0 where
  pub opened : IsSound (f run.before)
  pub rests : (was : Database) × IsFoundAt run.image was × (IsOurs was → IsAtRest (opened_in f run))
  pub leaves : LeavesWhole (AreUndoneAtOnce calls) (opened_in f run) (left_in f run)
  pub clean : HasCleanDisk (f run.after)
  pub trees : Trees
  pub may : (f run.after).may_leave trees
  pub holds : ∥ HoldsDatabase run.left trees ∥₁

-- What work on a replica did between the open of its file and the close: calls with turns of valid requests; 22 is told
-- only where the site is broken then; and the records followed
pub record WorksBy (calls : List (List Turn)) (old new : StoredSite) : Type 0 where
  pub site : AreTurns (all_turns calls) old.site new.site
  pub valid : AllByRecursion IsValidTurn (all_turns calls)
  pub told : new.site.broken ≡ false → AllByRecursion IsToldElse (all_turns calls)
  pub follows : CallsFollow calls old new

-- ---- many runs, one after the other

pub record Passed : Type 0 where
  pub setup : Setup
  pub calls : List (List Turn)
  pub before : Image
  pub after : Image

-- each on the file as the one before left it, the first on this one
abbrev pub AreChained : ℕ → Image → List Passed → Type 0
AreChained i image [] = ⊤
AreChained i image (run ∷ runs) =
    (run.before ≡ image) × Passes i run.setup run.calls run.before run.after × AreChained i run.after runs

abbrev pub last_image : Image → List Passed → Image
last_image image [] = image
last_image image (run ∷ runs) = last_image run.after runs

-- each run opened the file, and then took the turns of its calls
abbrev pub TellAll : ℕ → List Passed → List Event → Type 0
TellAll i [] events = events ≡ []
TellAll i (run ∷ runs) events =
    (some : List Request) × (rest : List Event)
    × (events ≡ Opened i run.setup some ∷ events_of i false run.calls ++ rest) × TellAll i runs rest

-- what they come to
pub record CarriedRuns (a : Knows) (i : ℕ) (image : Image) (runs : List Passed) : Type 0 where
  pub events : List Event
  pub end : Knows
  pub happen : Happen a events end
  pub tell : TellAll i runs events
  pub file : IsFile end i (last_image image runs)
  pub others : (j : ℕ) → j ≢ i → end j ≡ a j
