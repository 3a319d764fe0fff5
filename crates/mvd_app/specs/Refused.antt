-- Why a file is refused, and what its command is stopped with.
use Rattle.std.specs.Prelude.{ℕ, ◌≡◌, ◌≢◌, ◌⊎◌, IsTrue, List, Option, Some, None}
use Rattle.std.specs.Borrow.{Bor}
use Rattle.mvd_dots.specs.declared.refusals.Refusal.{Refusal}
use Rattle.mvd_dots.specs.declared.refusals.Refusal.TheVariants.{Damaged, Full, Memory, SiteMismatch, Store}
use Rattle.mvd_input.specs.declared.fault.Fault.TheVariants.{Stopped}
use Rattle.mvd_records.specs.Calls.{TellsOwner}
use Rattle.mvd_records.specs.Causes.{NamesNone}
use Rattle.mvd_records.specs.Foreign.{HoldsForeign}
use Rattle.mvd_records.specs.Records.{OnlyReads}
use Rattle.mvd_replica.specs.declared.file.FileFault.{FileFault}
use Rattle.mvd_replica.specs.declared.file.FileFault.TheVariants as faults
use Rattle.sqlite.specs.Held.{Held, state}
use Rattle.sqlite.specs.State.{State}
use Rattle.sqlite.specs.declared.error.Error.{Error}
use Rattle.sqlite.specs.declared.error.Error.TheVariants.{SqliteFailure}
use Rattle.sqlite.specs.declared.error.ErrorCode.TheVariants.{OutOfMemory}
use Rattle.sqlite_disk.specs.declared.Disk as disk
use Rattle.sqlite_store.specs.declared.store.FileStore.{FileStore}
use Rattle.sqlite_trees.specs.declared.store.Store.{Ghosts}
use Rattle.mvd_hint.specs.declared.hint.Hint.TheVariants as Hint
use Rattle.mvd_hint.specs.declared.hint.Stop.{Stop}

-- the file is another program's: it stays as it is, and the hint says so
pub record TellsForeign {C : Type 0} (file : Bor (List ℕ)) (old new : C) (stop : Stop) : Type 0 where
  pub stays : new ≡ old
  pub fault : stop.fault ≡ Stopped Damaged
  pub hint : stop.hint ≡ Some (Hint.Foreign file)

-- the command is stopped with the refusal; the hint names the file, and the site whose it is where that is known
pub record TellsRefusal (file : Bor (List ℕ)) (refusal : Refusal) (owner : Option ℕ) (stop : Stop) : Type 0 where
  pub fault : stop.fault ≡ Stopped refusal
  pub damaged : refusal ≡ Damaged → stop.hint ≡ Some (Hint.Damaged file)
  pub full : refusal ≡ Full → stop.hint ≡ Some Hint.Full
  pub store : refusal ≡ Store → stop.hint ≡ Some (Hint.NoDatabase file)
  pub other : (site : ℕ) → refusal ≡ SiteMismatch → owner ≡ Some site →
      stop.hint ≡ Some (Hint.OtherSite file site)

-- it is told as another program's, or its refusal is told, with the site whose it is or without one
abbrev pub TellsEither : Bor (List ℕ) → Refusal → Stop → Type 0
TellsEither file refusal stop =
    ((stop.fault ≡ Stopped Damaged) × (stop.hint ≡ Some (Hint.Foreign file)))
    ⊎ ((owner : Option ℕ) × TellsRefusal file refusal owner stop)

-- the file is one of ours: the refusal is told, with the site that its marks name; none is named only where they cannot
-- be read, or name none
pub record TellsOurs (file : Bor (List ℕ)) (refusal : Refusal) (old new : State) (stop : Stop) : Type 0 where
  pub owner : Option ℕ
  pub named : TellsOwner old new owner
  pub unnamed : NamesNone old new owner
  pub told : TellsRefusal file refusal owner stop

-- no database could be opened: for want of memory, which is of no file; or for another cause
pub record TellsUnusable (error : Error) (stop : Stop) : Type 0 where
  pub memory : error ≡ SqliteFailure OutOfMemory → (stop.fault ≡ Stopped Memory) × (stop.hint ≡ None)
  pub other : error ≢ SqliteFailure OutOfMemory → stop.fault ≡ Stopped Store

-- What is told of a file that was not opened as a site: that no database could be opened; or why its records are
-- refused, which are read for that
module _ {D : Type 0} {g : disk.Ghosts D} (f : Ghosts (FileStore D g)) where
  pub record TellsRecords (file : Bor (List ℕ)) (refusal : Refusal) (old new : Held (FileStore D g)) (stop : Stop)
      : Type 0 where
    pub reads : OnlyReads (state f old) (state f new)
    pub either : TellsEither file refusal stop
    pub foreign : HoldsForeign (state f old) → TellsForeign file old new stop
    pub ours : IsTrue (state f old).is_open → ¬ HoldsForeign (state f old)
        → TellsOurs file refusal (state f old) (state f new) stop

  abbrev pub TellsFileFault : Bor (List ℕ) → FileFault D g → Stop → Type 0
  TellsFileFault file (faults.File error left) stop = TellsUnusable error stop
  TellsFileFault file (faults.Records refusal conn) stop =
      (after : Held (FileStore D g)) × TellsRecords file refusal conn after stop
