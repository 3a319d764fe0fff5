-- A site over several runs of a program. Each run opens the file as the run before left it, answers requests, and
-- closes it.
use Rattle.std.specs.Prelude.{◌≡◌, ℕ, List, [], ◌∷◌, ◌++◌, ⊤, false, true, Option, Result}
use Rattle.mvd_dots.specs.declared.refusals.Refusal.{Refusal}
use Rattle.mvd_keys.specs.Writes.{Stands, Write}
use Rattle.mvd_wire.specs.declared.request.Request.{Request}
use Rattle.mvd_records.specs.Records.{IsSound}
use Rattle.mvd_site.specs.Answer.{answer}
use Rattle.mvd_site.specs.Config.{ConfigValue}
use Rattle.mvd_site.specs.Held.{AreHeld, States}
use Rattle.mvd_site.specs.Known.{Adds}
use Rattle.mvd_site.specs.Sites.{SiteValue}
use Rattle.mvd_replica.specs.Batch.{HoldsLost, TurnsFollow, lost_requests}
use Rattle.mvd_replica.specs.File.{HoldsFile, OpensFile}
use Rattle.mvd_replica.specs.Holds.{HoldsStates}
use Rattle.mvd_replica.specs.Replicas.{StoredSite, stored_by}
use Rattle.mvd_replica.specs.Served.{Served}
use Rattle.mvd_replica.specs.declared.serving.Ended.{Ended}
use Rattle.mvd_replica.specs.Turns.{AllTold, AreUndoneIn, TurnEvent, LeavesTurns, Replies, StandsOn, TellsTurns, Turn, known_after_turns}
use Rattle.mvd_replica.specs.Whole.{IsAtRest}
use Rattle.sqlite.specs.Held.{Held, state}
use Rattle.sqlite.specs.Files.{HoldsDatabase}
use Rattle.sqlite.specs.Recovery.{Image}
use Rattle.sqlite.specs.State.{HasCleanDisk, State}
use Rattle.sqlite.specs.Tree.{Trees}
use Rattle.sqlite_trees.specs.declared.store.Store.{Ghosts}

-- One run: what the file held, the site and its connection as it was opened, the turns that it took, both at the end,
-- and what the file held then
pub record Run (C : Type 0) : Type 0 where
  pub config : ConfigValue
  pub image : Image
  pub old : SiteValue
  pub before : C
  pub turns : List Turn
  pub new : SiteValue
  pub after : C
  pub left : Image

-- the site with its store, as the run opened it and as it left it
abbrev pub opened_in : {C : Type 0} → (C → State) → Run C → StoredSite
opened_in f run = record { site = run.old; store = f run.before }

abbrev pub left_in : {C : Type 0} → (C → State) → Run C → StoredSite
left_in f run = record { site = run.new; store = f run.after }

-- What the calls of a run promise. `open_file` opened the file. `serve`, or a host of many clients in its rounds, took
-- the turns. `stands` tells that the states are held ones. `close` left the file. And the store is sound: nobody else
-- has written the file, its disk has returned what was written, and no failure has shut it.
pub record IsFileRun {C : Type 0} (f : C → State) (run : Run C) : Type 0 where
  pub config : run.old.config ≡ run.config
  pub whole : run.old.broken ≡ false
  pub opens : IsSound (f run.before) → OpensFile run.image run.config run.old (f run.before).committed
  pub replies : Replies run.old run.new run.turns
  pub stands : StandsOn run.old run.new run.turns
  pub follows : TurnsFollow run.turns (opened_in f run) (left_in f run)
  pub held : AreHeld run.new.states
  pub closes : (site : ℕ) (states : States) → HoldsStates site states (f run.after).committed
      → HoldsFile run.left site states
  pub sound : IsSound (f run.after)

-- runs of one site, each on the file that the one before left, the first on this one
abbrev pub AreRuns : {C : Type 0} → (C → State) → ℕ → Image → List (Run C) → Type 0
AreRuns f site image [] = ⊤
AreRuns f site image (run ∷ runs) =
    (run.image ≡ image) × (run.config.site ≡ site) × IsFileRun f run × AreRuns f site run.left runs

-- what requests add, each answered from the writes known before it
abbrev pub AddAll : ConfigValue → List Write → List Request → List Write → Type 0
AddAll config known [] added = added ≡ []
AddAll config known (request ∷ requests) added =
    (first rest : List Write) × (added ≡ first ++ rest) × Adds request (answer config known request) first
    × AddAll config (known ++ first) requests rest

-- In each run every reply is one that may be given from the writes known then, those of all runs before among them; and
-- the last file holds states that stand for all that is known. A run in which the site broke has stored what was lost:
-- the change of the first request that was told 22, and those of some later ones. Their writes are known to the runs
-- after it.
abbrev pub AllRunsAnswered : {C : Type 0} → (C → State) → ℕ → List Write → Image → List (Run C) → Type 0
AllRunsAnswered f site known image [] = (states : States) × HoldsFile image site states × Stands states known
AllRunsAnswered f site known image (run ∷ runs) = (events : List TurnEvent) → TellsTurns events run.turns →
    AllTold run.config known false events run.new.broken
    × (run.new.broken ≡ false → AllRunsAnswered f site (known ++ known_after_turns events) run.left runs)
    × (run.new.broken ≡ true → (it : HoldsLost run.turns run.new (f run.after).committed)
    × ((added : List Write) → AddAll run.config (known ++ known_after_turns events) (lost_requests it.lost) added
    → AllRunsAnswered f site ((known ++ known_after_turns events) ++ added) run.left runs))

-- What runs of a site come to, from a file whose states stand for some writes
abbrev pub AnswersAcrossRestarts : {C : Type 0} → (C → State) → Type 0
AnswersAcrossRestarts {C} f =
    (site : ℕ) (image : Image) (states : States) (known : List Write) (runs : List (Run C)) →
    HoldsFile image site states → Stands states known → AreRuns f site image runs
    → AllRunsAnswered f site known image runs

-- the turns of a connection that was served are turns of a run
abbrev pub ServesInRun : {S : Type 0} → Ghosts S → Type 0
ServesInRun {S} g =
    (old new : SiteValue) (before after : Held S) (input input' output output' : Option (List ℕ))
    (result : Result Ended Refusal) →
    (it : Served (record { stored = stored_by g old before; input = input; output = output })
    (record { stored = stored_by g new after; input = input'; output = output' }) result) →
    TurnsFollow it.turns (stored_by g old before) (stored_by g new after)

-- A stop after turns, or within the last of them (`LeavesTurns`): a file that holds what it leaves holds states that
-- stand for all that was known, for what the turns added, and for what some requests add that were told 21 or 22, if
-- for any
abbrev pub LeavesWholeTurns : {S : Type 0} → Ghosts S → Type 0
LeavesWholeTurns {S} g =
    (turns : List Turn) (old new : SiteValue) (before after : Held S) (known : List Write) (events : List TurnEvent)
    (trees : Trees) →
    LeavesTurns turns (stored_by g old before) (stored_by g new after) → StandsOn old new turns
    → Stands old.states known →
    TellsTurns events turns → IsAtRest (stored_by g old before) → HasCleanDisk (state g after)
    → (state g after).may_leave trees →
    (undone : List Request) × AreUndoneIn turns undone
    × ((image : Image) (added : List Write) → ∥ HoldsDatabase image trees ∥₁ →
    AddAll new.config (known ++ known_after_turns events) undone added →
    (states : States) × HoldsFile image new.config.site states
    × Stands states ((known ++ known_after_turns events) ++ added))
