-- Commands on one file, one after the other.
use Rattle.std.specs.Prelude.{◌≡◌, ⊤, ℕ, List, [], ◌∷◌}
use Rattle.mvd_app.specs.OnFile.{IsFileLeft, RanOnFile}
use Rattle.mvd_app.specs.Stored.{SiteLeft}
use Rattle.mvd_input.specs.declared.order.Setup.{Setup}
use Rattle.mvd_runs.specs.Files.{Passed, setup_of}
use Rattle.sqlite.specs.Recovery.{Image}
use Rattle.sqlite_disk.specs.declared.Disk as disk
use Rattle.sqlite_store.specs.declared.store.FileStore.{FileStore}
use Rattle.sqlite_trees.specs.declared.store.Store.{Ghosts}

module _ {D : Type 0} {g : disk.Ghosts D} (f : Ghosts (FileStore D g)) where
  -- A command that opened the site of this number, as clause `file` of `run` tells it: what it found in the file, and
  -- what stands there then
  pub record Command (site : ℕ) : Type 0 where
    pub before : Image
    pub setup : Setup
    pub number : setup.site ≡ site
    pub left : SiteLeft D g f
    pub ran : RanOnFile f before setup left
    pub after : Image
    pub stands : IsFileLeft ran.new left after

  abbrev pub run_of : {site : ℕ} → Command site → Passed
  run_of command = record {
    setup = setup_of command.ran.config;
    calls = command.ran.calls;
    before = command.before;
    after = command.after;
  }

  -- each found the file as the one before left it
  abbrev pub AreInTurn : {site : ℕ} → Image → List (Command site) → Type 0
  AreInTurn image [] = ⊤
  AreInTurn image (command ∷ commands) = (command.before ≡ image) × AreInTurn command.after commands
