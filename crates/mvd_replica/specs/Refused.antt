-- Why a file is not opened as a site.
use Rattle.std.specs.Prelude.{◌≡◌, ◌⊎◌, IsTrue, Some, None}
use Rattle.mvd_site.specs.Config.{ConfigValue}
use Rattle.mvd_records.specs.Records.{IsSound}
use Rattle.sqlite_disk.specs.declared.Disk.{Ghosts}
use Rattle.sqlite_disk.specs.declared.Files.{Files}
use Rattle.sqlite.specs.declared.error.Error.{Error}
use Rattle.sqlite.specs.declared.error.Error.TheVariants.{SqliteFailure}
use Rattle.sqlite.specs.declared.error.ErrorCode.TheVariants.{CannotOpen, DatabaseBusy, OutOfMemory}
use Rattle.sqlite.specs.Files.{FailsToOpenFiles, IsCleanLeft, LeavesFiles, file_state, image_of}
use Rattle.sqlite.specs.Opening.{is_open_error}
use Rattle.sqlite.specs.Recovery.{Image}
use Rattle.mvd_replica.specs.declared.file.FileFault.{FileFault}
use Rattle.mvd_replica.specs.declared.file.FileFault.TheVariants as fault
use Rattle.mvd_replica.specs.File.{RefusesFile}
use Rattle.mvd_replica.specs.Opened.{IsOpeningRefusal}

-- no files were to be had at a path, memory was refused, or a program has them open
abbrev pub HasNoFiles : Error → Type 0
HasNoFiles e = (e ≡ SqliteFailure CannotOpen) ⊎ ((e ≡ SqliteFailure OutOfMemory) ⊎ (e ≡ SqliteFailure DatabaseBusy))

module _ {D : Type 0} {g : Ghosts D} where
  -- The files at the path were not to be had. Or they were opened: where what is left of them is clean, want of memory,
  -- a failure of the disk that is named, a limit of the format, or files that hold no database have refused it, and
  -- they recover as before. Or the records were refused: where the store is sound, for the reason that the database
  -- gives
  abbrev pub FailsFile : Image → ConfigValue → FileFault D g → Type 0
  FailsFile image config (fault.File e None) =
      IsTrue (is_open_error e)
      × ((e ≡ SqliteFailure CannotOpen) ⊎ ((e ≡ SqliteFailure OutOfMemory) ⊎ (e ≡ SqliteFailure DatabaseBusy)))
  FailsFile image config (fault.File e (Some left)) =
      IsTrue (is_open_error e)
      × ((files : Files D)
      × (IsCleanLeft {g = g} left → (image_of g files ≡ image) × FailsToOpenFiles {g = g} files left e
      × LeavesFiles {g = g} files left))
  FailsFile image config (fault.Records e conn) =
      IsOpeningRefusal e
      × (IsSound (file_state {g = g} conn) → RefusesFile image config e (file_state {g = g} conn).committed)
