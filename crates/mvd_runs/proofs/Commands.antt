-- What the calls of a command promise of its file is a run.
use Rattle.std.proofs.Common.{◌≡◌, ℕ, List, Ok, refl}
use Rattle.mvd_site.specs.Config.{ConfigValue}
use Rattle.mvd_site.specs.Held.{States}
use Rattle.sqlite_disk.specs.declared.Disk.{Ghosts}
use Rattle.sqlite_disk.specs.declared.Files.{Files}
use Rattle.sqlite_store.specs.declared.store.FileStore.{FileStore}
use Rattle.sqlite_trees.specs.declared.store.Store as store
use Rattle.sqlite.specs.Files.{HoldsDatabase, file_state, image_of}
use Rattle.sqlite.specs.Held.{Held}
use Rattle.sqlite.specs.Recovery.{Image}
use Rattle.sqlite.specs.State.{HasCleanDisk}
use Rattle.sqlite.specs.Tree.{Trees}
use Rattle.sqlite.specs.WalFiles.{outcomes}
use Rattle.mvd_replica.specs.declared.replica.Replica.{Replica}
use Rattle.mvd_replica.specs.File.{HoldsFile, IsFoundAt}
use Rattle.mvd_replica.specs.FileCalls.{IsClosed, OpensAsSite, file_database, file_of}
use Rattle.mvd_replica.specs.Holds.{HoldsStates}
use Rattle.mvd_replica.specs.Replicas.{conn_of, site_of}
use Rattle.mvd_replica.specs.Restarts.{Run}
use Rattle.mvd_replica.specs.Turns.{Turn}
use Rattle.mvd_replica.specs.Whole.{IsAtRest}
use Rattle.mvd_records.specs.Records.{IsOurs}
use Rattle.sqlite.specs.Effect.{Database}
use Rattle.mvd_runs.specs.Calls.{all_turns}
use Rattle.mvd_runs.specs.Files.{Begins, Passes, WorksBy, setup_of}
use Rattle.mvd_runs.proofs.Filing.{run_closed, run_stopped}

module _ {D : Type 0} {g : Ghosts D} {f : store.Ghosts (FileStore D g)} (i : ℕ) (image : Image) (config : ConfigValue) (calls : List (List Turn)) (old new : Replica (FileStore D g) f)
    (number : config.site ≡ i) (opens : OpensAsSite image config (Ok old)) (works : WorksBy calls (record { site = site_of old; store = file_of old }) (record { site = site_of new; store = file_of new })) where
  abbrev run_to : Image → Run (Held (FileStore D g))
  run_to left = record { config = config; image = image; old = site_of old; before = conn_of old; turns = all_turns calls; new = site_of new; after = conn_of new; left = left }

  begins : (left : Image) → Begins (file_state {g = g}) calls (run_to left)
  begins left = record { all = refl; config = opens.site.0; whole = opens.site.1; opens = λ sound. opens.opens sound.clean; turns = works.site; valid = works.valid }

  ends : (files : Files D) → IsClosed new files → (left : Image) → ((site : ℕ) (states : States) → HoldsStates site states (file_database new) → HoldsFile left site states) → Passes i (setup_of config) calls image left
  ends files it left holds =
      run_closed (file_state {g = g}) i calls (run_to left) (begins left) number (record { follows = works.follows; sound = it.sound; closes = holds; holds = it.holds })

  pub closed_run : (files : Files D) → IsClosed new files → Passes i (setup_of config) calls image (image_of g files)
  closed_run files it = ends files it (image_of g files) (λ site states held. (it.file.seen site states held).both)

  pub left_run : (files : Files D) → IsClosed new files → (after : Image) → outcomes g files.log files.db after → Passes i (setup_of config) calls image after
  left_run files it after may = ends files it after (λ site states held. (it.file.left after may site states held).both)

  -- a stop, where the store was at rest when it was opened
  abbrev Rests : Type 0
  Rests = HasCleanDisk (file_of old) → (was : Database) × IsFoundAt image was × (IsOurs was → IsAtRest (record { site = site_of old; store = file_of old }))

  pub stopped_run : Rests → (after : Image) (trees : Trees) → HasCleanDisk (file_of new) → (file_of new).may_leave trees → ∥ HoldsDatabase after trees ∥₁ → Passes i (setup_of config) calls image after
  stopped_run rests after trees clean may holds =
      let was_clean : HasCleanDisk (file_of old) = works.follows.store.clean clean in
      run_stopped (file_state {g = g}) i calls (run_to after) (begins after) number
      (record {
        opened = record { clean = was_clean; is_open = opens.is_open was_clean };
        rests = rests was_clean;
        leaves = works.follows.leaves;
        clean = clean;
        trees = trees;
        may = may;
        holds = holds;
      })
