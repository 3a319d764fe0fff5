-- What the commands do to a stored site, and what comes back of its file.
use Rattle.std.specs.Prelude.{◌≡◌, ◌⊎◌, true, false, if◌then◌else◌, ℕ, Bool, IsTrue, List, Option, Some, None, Result, Ok, Err, IsErrAnd}
use Rattle.std.specs.Borrow.{Bor}
use Rattle.std.specs.FinMap.{empty as no_states}
use Rattle.mvd_app.specs.Named.{StopsAtDefs, StopsAtToken}
use Rattle.mvd_app.specs.Refused.{TellsFileFault}
use Rattle.mvd_app.specs.Tasks.{Serving, Syncing, Task, Typing}
use Rattle.mvd_app.specs.declared.closing.Left.{Left}
use Rattle.mvd_app.specs.declared.closing.Left.TheVariants.{Closed, Open, Unclosed}
use Rattle.mvd_app.specs.declared.closing.Ran.{Ran}
use Rattle.mvd_dots.specs.declared.refusals.Refusal.TheVariants.{Broken, Store}
use Rattle.mvd_hint.specs.Harm.{bars_closing}
use Rattle.mvd_hint.specs.Stops.{stop_at_harm}
use Rattle.mvd_hint.specs.declared.harm.Harm.{Harm}
use Rattle.mvd_hint.specs.declared.hint.Hint.TheVariants as Hint
use Rattle.mvd_hint.specs.declared.hint.Stop.{Stop}
use Rattle.mvd_input.specs.declared.fault.Fault.TheVariants.{Stopped}
use Rattle.mvd_input.specs.declared.order.Order.{Order}
use Rattle.mvd_input.specs.declared.order.Order.TheVariants as order
use Rattle.mvd_input.specs.declared.order.Setup.{Setup}
use Rattle.mvd_replica.specs.FileCalls.{ClosesInto, FailsClosing}
use Rattle.mvd_replica.specs.Refused.{FailsFile}
use Rattle.mvd_replica.specs.Replicas.{site_of}
use Rattle.mvd_replica.specs.declared.file.FileFault.{FileFault}
use Rattle.mvd_replica.specs.declared.replica.Replica.{Replica}
use Rattle.mvd_rows.specs.Defs.{no_definitions}
use Rattle.mvd_site.specs.Config.{ConfigValue}
use Rattle.mvd_site.specs.Sites.{SiteValue}
use Rattle.sqlite.specs.Recovery.{Image}
use Rattle.sqlite.specs.declared.error.Error.{Error}
use Rattle.sqlite_disk.specs.declared.Disk as disk
use Rattle.sqlite_disk.specs.declared.Files.{Files}
use Rattle.sqlite_store.specs.declared.store.FileStore.{FileStore}
use Rattle.sqlite_trees.specs.declared.store.Store.{Ghosts}

-- the site that is set up so, without a key
abbrev pub site_without_keys : ConfigValue → SiteValue
site_without_keys config = record { config = config; states = no_states; broken = false }

-- ---- what an order works on

-- the file that an order works on, what the site in it is set up with, the file with the command's token, if it names
-- one, and what is to be done
pub record Filed : Type 0 where
  pub db : Bor (List ℕ)
  pub setup : Setup
  pub token : Option (Bor (List ℕ))
  pub task : Task

abbrev pub filed : Bor (List ℕ) → Setup → Option (Bor (List ℕ)) → Task → Filed
filed db setup token task = record { db = db; setup = setup; token = token; task = task }

abbrev pub file_in : Order → Option Filed
file_in (order.Serve db setup address conns idle http clients peers named quiet token) =
    Some (filed db setup token Serving)
file_in (order.Shell db setup) = Some (filed db setup None Typing)
file_in (order.Sync db setup address idle verbose token) = Some (filed db setup token (Syncing address))
file_in _ = None

-- a file that is read before the site's own stops the command: the one of definitions, or the one with a token
abbrev pub StopsBefore : Filed → Stop → Type 0
StopsBefore filed stop = StopsAtDefs filed.setup.defs stop ⊎ StopsAtToken filed.token stop

-- a site is set up so
pub record IsConfigFor (setup : Setup) (config : ConfigValue) : Type 0 where
  pub site : config.site ≡ setup.site
  pub keys : config.max_keys ≡ setup.max_keys
  pub none : setup.defs ≡ None → config.defs ≡ no_definitions

-- ---- the end of the work

-- a command is stopped with what its work was stopped with; else, where no file was closed, since the site is broken or
-- its file cannot be
abbrev pub EndsAsWorked : {F R S : Type 0} → Result (Unit {0}) Stop → Left F R S → Bool → Result (Unit {0}) Stop
    → Type 0
EndsAsWorked (Err stop) left broken ended = ended ≡ Err stop
EndsAsWorked (Ok done) (Closed files) broken ended = ended ≡ Ok tt
EndsAsWorked (Ok done) left broken ended =
    IsErrAnd ended (λ stop. stop.fault ≡ Stopped (if broken then Broken else Store))

-- the harm that came to its file goes first: no command ends well then
abbrev pub EndsAs : {F R S : Type 0} → Bor (List ℕ) → Option Harm → Result (Unit {0}) Stop → Left F R S → Bool
    → Result (Unit {0}) Stop → Type 0
EndsAs db (Some harm) worked left broken ended = ended ≡ Err (stop_at_harm db harm)
EndsAs db None worked left broken ended = EndsAsWorked worked left broken ended

-- its harm bars a close
abbrev pub BarsClosing : Option Harm → Type 0
BarsClosing None = ⊥
BarsClosing (Some harm) = IsTrue (bars_closing harm)

-- what may be left of a site: its file, closed; the site; or its store
abbrev pub SiteLeft : (D : Type 0) (g : disk.Ghosts D) → Ghosts (FileStore D g) → Type 0
SiteLeft D g f = Left (Files D) (Replica (FileStore D g) f) (FileStore D g)

-- the file that was closed
abbrev pub closed_in : {F R S : Type 0} → Left F R S → Option F
closed_in (Closed files) = Some files
closed_in left = None

module _ {D : Type 0} {g : disk.Ghosts D} {f : Ghosts (FileStore D g)} where
  -- The site is whole, no harm bars a close, and its file is closed; or the site is left as it is, since it is broken or
  -- its harm bars that; or its store is, whose file cannot be closed
  abbrev pub LeavesSite : Replica (FileStore D g) f → Option Harm → SiteLeft D g f → Type 0
  LeavesSite replica harm (Closed files) =
      ((site_of replica).broken ≡ false) × ((¬ BarsClosing harm) × ClosesInto replica files)
  LeavesSite replica harm (Open site) =
      (site ≡ replica) × (((site_of replica).broken ≡ true) ⊎ BarsClosing harm)
  LeavesSite replica harm (Unclosed store) = (error : Error) × FailsClosing replica (error, store)

-- ---- what comes back

-- nothing is left of a site
pub record IsWithoutFile {L : Type 0} (how : Result (Unit {0}) Stop) (ran : Ran L) : Type 0 where
  pub left : ran.left ≡ None
  pub ended : ran.ended ≡ how

-- a file is lost, and its log is still there
pub record TellsLost (file : Bor (List ℕ)) (stop : Stop) : Type 0 where
  pub fault : stop.fault ≡ Stopped Store
  pub hint : stop.hint ≡ Some (Hint.Lost file)

module _ {D : Type 0} {g : disk.Ghosts D} (f : Ghosts (FileStore D g)) where
  -- the files refuse the site, for a cause, which is told
  abbrev pub StopsAtFile : Image → ConfigValue → Bor (List ℕ) → Stop → Type 0
  StopsAtFile image config db stop =
      (fault : FileFault D g) × FailsFile image config fault × TellsFileFault f db fault stop

  -- The site was not opened: its file is lost; or the files refuse it
  abbrev pub CannotOpen : Image → ConfigValue → Bor (List ℕ) → Stop → Type 0
  CannotOpen image config db stop = TellsLost db stop ⊎ StopsAtFile image config db stop
