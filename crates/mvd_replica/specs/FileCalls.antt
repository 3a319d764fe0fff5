-- What opening a file as a site does, and what closing it does.
use Rattle.std.specs.Prelude.{◌≡◌, false, ℕ, Result, IfErr, IfOk, IsTrue}
use Rattle.mvd_records.specs.Records.{IsOurs, IsSound}
use Rattle.mvd_site.specs.Config.{ConfigValue}
use Rattle.mvd_site.specs.Held.{AreHeld, States}
use Rattle.sqlite_disk.specs.declared.Disk.{Ghosts}
use Rattle.sqlite_disk.specs.declared.Files.{Files}
use Rattle.sqlite_store.specs.declared.store.FileStore.{FileStore}
use Rattle.sqlite_store.specs.FileStore.{recovers, view}
use Rattle.sqlite_trees.specs.declared.error.StoreError.{StoreError}
use Rattle.sqlite_trees.specs.declared.store.Store as store
use Rattle.sqlite_trees.specs.View.{IsClean}
use Rattle.sqlite.specs.declared.error.Error.{Error}
use Rattle.sqlite.specs.declared.error.Error.TheVariants.{SqliteFailure}
use Rattle.sqlite.specs.declared.error.ErrorCode.TheVariants.{CannotOpen}
use Rattle.sqlite.specs.Effect.{Database}
use Rattle.sqlite.specs.Files.{FailsToClose, file_state}
use Rattle.sqlite.specs.Recovery.{Image}
use Rattle.sqlite.specs.State.{HasCleanDisk, State, store_error}
use Rattle.sqlite.specs.Tree.{Trees}
use Rattle.sqlite.specs.WalReads.{AreClean}
use Rattle.mvd_replica.specs.declared.file.FileFault.{FileFault}
use Rattle.mvd_replica.specs.declared.file.FileFault.TheVariants.{File}
use Rattle.mvd_replica.specs.declared.replica.Replica.{Replica}
use Rattle.mvd_replica.specs.File.{ClosesFile, IsFoundAt, OpensFile}
use Rattle.mvd_replica.specs.Holds.{HoldsSite, HoldsStates}
use Rattle.mvd_replica.specs.Refused.{FailsFile}
use Rattle.mvd_replica.specs.Replicas.{conn_of, site_of, stored_of}
use Rattle.mvd_replica.specs.Restored.{HasWrites, IsFresh}
use Rattle.mvd_replica.specs.Whole.{IsAtRest, LeavesStates}

-- there is no such file to open
abbrev pub IsNoFile : {D : Type 0} {g : Ghosts D} → FileFault D g → Type 0
IsNoFile fault = (left : _) × (fault ≡ File (SqliteFailure CannotOpen) left)

module _ {D : Type 0} {g : Ghosts D} {f : store.Ghosts (FileStore D g)} where
  -- what the connection of a replica shows whose records stand in a file
  abbrev pub file_of : Replica (FileStore D g) f → State
  file_of replica = file_state {g = g} (conn_of replica)

  -- the database of that file
  abbrev pub file_database : Replica (FileStore D g) f → Database
  file_database replica = (file_of replica).committed

  -- the replica of the site that a file holds, or why there is none
  pub record OpensAsSite (image : Image) (config : ConfigValue)
      (result : Result (Replica (FileStore D g) f) (FileFault D g)) : Type 0 where
    -- the site is set up so, and not broken
    pub site : IfOk result (λ replica. IsFresh config (site_of replica))
    -- there is a set of writes that it stands for, and the states that it holds are in form
    pub stands : IfOk result (λ replica. HasWrites (site_of replica))
    pub held : IfOk result (λ replica. AreHeld (site_of replica).states)
    -- where nobody else has written the files, and the disk has returned what was written, it is the site that they
    -- hold
    pub opens : IfOk result (λ replica. HasCleanDisk (file_of replica) →
        OpensFile image config (site_of replica) (file_database replica))
    -- and no failure has shut the store, where the disk has returned what was written
    pub is_open : IfOk result (λ replica. HasCleanDisk (file_of replica) → IsTrue (file_of replica).is_open)
    -- then, of new files and of files of ours in either version, a stop leaves the site's states
    pub rests : IfOk result (λ replica. HasCleanDisk (file_of replica) →
        (was : Database) × IsFoundAt image was × (IsOurs was → IsAtRest (stored_of replica)))
    -- a refusal has its cause in what the file and its log hold, in the disk, in want of memory, or in a program that
    -- has the file open
    pub refused : IfErr result (FailsFile image config)

  -- What a close leaves. The store was sound to its end; what the database held of a site, the files hold, as they read
  -- now and after a crash; and where the records held the site, its states are what the database held
  pub record IsClosed (replica : Replica (FileStore D g) f) (files : Files D) : Type 0 where
    pub sound : IsSound (file_of replica)
    pub file : ClosesFile g (file_database replica) files
    pub holds : (site_of replica).broken ≡ false → HoldsSite (site_of replica) (file_database replica) →
        HoldsStates (site_of replica).config.site (site_of replica).states (file_database replica)

  -- if nobody else has written the files, and their disk has returned what was written
  abbrev pub ClosesInto : Replica (FileStore D g) f → Files D → Type 0
  ClosesInto replica files = AreClean g files.log files.db → IsClosed replica files

  -- why a replica was not closed, and what a crash leaves of the store that comes back
  pub record FailsClosing (replica : Replica (FileStore D g) f) (failed : Error × FileStore D g) : Type 0 where
    -- the error is the store's
    pub named : (cause : StoreError) × (failed.0 ≡ store_error cause)
    -- where the disk has returned what was written, memory was refused, or the disk failed, or the store was shut
    -- before
    pub cause : IsClean (view failed.1) → FailsToClose (conn_of replica) failed.1 failed.0
    -- a crash leaves nothing that it could not leave before the close
    pub crash : (trees : Trees) → recovers failed.1 trees → (file_of replica).may_leave trees
    -- of a store that was open these are the states that the records held
    pub left : IsTrue (file_of replica).is_open →
        (site : ℕ) (states : States) → HoldsStates site states (file_database replica) →
        (trees : Trees) → recovers failed.1 trees → LeavesStates site states trees

  -- the files, or a refusal with the store
  pub record ClosesReplica (replica : Replica (FileStore D g) f) (result : Result (Files D) (Error × FileStore D g))
      : Type 0 where
    -- Ok: the file with its log, and the file alone, hold what the records held
    pub closed : IfOk result (ClosesInto replica)
    -- a refusal leaves no more than a crash could leave before the call
    pub failed : IfErr result (FailsClosing replica)
