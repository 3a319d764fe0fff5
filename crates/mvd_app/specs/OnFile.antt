-- What stands in the file of a command's site afterwards, whatever the command was.
use Rattle.std.specs.Prelude.{◌≡◌, ◌⊎◌, ℕ, List, Option, Some, None, Err}
use Rattle.mvd_app.specs.Stored.{SiteLeft}
use Rattle.mvd_app.specs.declared.closing.Left.TheVariants.{Closed, Open, Unclosed}
use Rattle.mvd_app.specs.declared.closing.Ran.{Ran}
use Rattle.mvd_hint.specs.declared.hint.Stop.{Stop}
use Rattle.mvd_input.specs.declared.order.Order.{Order}
use Rattle.mvd_input.specs.declared.order.Order.TheVariants as order
use Rattle.mvd_input.specs.declared.order.Setup.{Setup}
use Rattle.mvd_replica.specs.FileCalls.{file_of}
use Rattle.mvd_replica.specs.Turns.{Turn}
use Rattle.mvd_replica.specs.declared.replica.Replica.{Replica}
use Rattle.mvd_runs.specs.Files.{Passes, setup_of}
use Rattle.mvd_site.specs.Config.{ConfigValue}
use Rattle.sqlite.specs.Files.{HoldsDatabase, image_of}
use Rattle.sqlite.specs.Recovery.{Image}
use Rattle.sqlite.specs.State.{HasCleanDisk}
use Rattle.sqlite.specs.Tree.{Trees}
use Rattle.sqlite.specs.WalFiles.{outcomes}
use Rattle.sqlite.specs.WalReads.{AreClean}
use Rattle.sqlite_disk.specs.declared.Disk as disk
use Rattle.sqlite_store.specs.declared.store.FileStore.{FileStore}
use Rattle.sqlite_store.specs.FileStore.{recovers}
use Rattle.sqlite_trees.specs.declared.store.Store.{Ghosts}

module _ {D : Type 0} {g : disk.Ghosts D} {f : Ghosts (FileStore D g)} where
  -- What stands in the file then, if nobody else has written it, and the disk has returned what was written: what was
  -- closed, as it reads now or after a stop; or what a stop leaves of the site that is left, or of its store
  abbrev pub IsFileLeft : Replica (FileStore D g) f → SiteLeft D g f → Image → Type 0
  IsFileLeft replica (Closed files) image =
      AreClean g files.log files.db × ((image ≡ image_of g files) ⊎ outcomes g files.log files.db image)
  IsFileLeft replica (Open site) image =
      HasCleanDisk (file_of site) × (trees : Trees) × (file_of site).may_leave trees
      × ∥ HoldsDatabase image trees ∥₁
  IsFileLeft replica (Unclosed store) image =
      HasCleanDisk (file_of replica) × (trees : Trees) × recovers store trees × ∥ HoldsDatabase image trees ∥₁

  -- The turns of these calls are a run of the store on the file: from what the file held, to what it holds then
  abbrev pub IsRunOf : Image → ℕ → ConfigValue → List (List Turn) → Replica (FileStore D g) f → SiteLeft D g f → Type 0
  IsRunOf image site config calls new left =
      (after : Image) → IsFileLeft new left after → Passes site (setup_of config) calls image after

-- what the site of an order is set up with, whose file the order names
abbrev pub setup_in : Order → Option Setup
setup_in (order.Serve db setup address conns idle http clients peers named quiet token) = Some setup
setup_in (order.Shell db setup) = Some setup
setup_in (order.Sync db setup address idle verbose token) = Some setup
setup_in _ = None

module _ {D : Type 0} {g : disk.Ghosts D} (f : Ghosts (FileStore D g)) where
  -- The site was opened, set up so (with which indexes and views, `told` says), and took the turns of these calls: what
  -- stands in its file is what they come to
  pub record RanOnFile (image : Image) (setup : Setup) (left : SiteLeft D g f) : Type 0 where
    pub config : ConfigValue
    pub keys : config.max_keys ≡ setup.max_keys
    pub new : Replica (FileStore D g) f
    pub calls : List (List Turn)
    pub runs : IsRunOf image setup.site config calls new left

  -- WHAT STANDS IN THE FILE of an order's site, if it has one. Or the site was not opened, and the command was stopped
  abbrev pub RunsOnFile : Image → Option Setup → Ran (SiteLeft D g f) → Type 0
  RunsOnFile image None ran = ran.left ≡ None
  RunsOnFile image (Some setup) ran =
      ((ran.left ≡ None) × ((stop : Stop) × (ran.ended ≡ Err stop)))
      ⊎ ((left : SiteLeft D g f) × (ran.left ≡ Some left) × RanOnFile image setup left)
