-- What a command that told its turns leaves in its file is a run of the store.
use Rattle.std.proofs.Common.{◌≡◌, ℕ, List, Option, Ok, inl, inr, subst, sym}
use Rattle.mvd_app.specs.OnFile.{IsFileLeft, IsRunOf}
use Rattle.mvd_app.specs.Stored.{LeavesSite, SiteLeft}
use Rattle.mvd_app.specs.declared.closing.Left.TheVariants.{Closed, Open, Unclosed}
use Rattle.mvd_hint.specs.declared.harm.Harm.{Harm}
use Rattle.mvd_records.specs.Records.{IsOurs}
use Rattle.mvd_replica.specs.File.{IsFoundAt}
use Rattle.mvd_replica.specs.FileCalls.{OpensAsSite, file_of}
use Rattle.mvd_replica.specs.Replicas.{StoredSite, site_of}
use Rattle.mvd_replica.specs.Turns.{Turn}
use Rattle.mvd_replica.specs.Whole.{IsAtRest}
use Rattle.mvd_replica.specs.declared.replica.Replica.{Replica}
use Rattle.mvd_runs.proofs.Commands.{closed_run, left_run, stopped_run}
use Rattle.mvd_runs.specs.Files.{Passes, WorksBy, setup_of}
use Rattle.mvd_site.specs.Config.{ConfigValue}
use Rattle.sqlite.specs.Effect.{Database}
use Rattle.sqlite.specs.Recovery.{Image}
use Rattle.sqlite.specs.State.{HasCleanDisk}
use Rattle.sqlite_disk.specs.declared.Disk as disk
use Rattle.sqlite_store.specs.declared.store.FileStore.{FileStore}
use Rattle.sqlite_trees.specs.declared.store.Store.{Ghosts}

module _ {D : Type 0} {g : disk.Ghosts D} {f : Ghosts (FileStore D g)} where
  -- a site with the store of its file
  abbrev in_file : Replica (FileStore D g) f → StoredSite
  in_file replica = record { site = site_of replica; store = file_of replica }

module _ {D : Type 0} {g : disk.Ghosts D} {f : Ghosts (FileStore D g)} (image : Image) (i : ℕ) (config : ConfigValue) (number : config.site ≡ i) (old new : Replica (FileStore D g) f)
    (opened : OpensAsSite image config (Ok old)) (rests : HasCleanDisk (file_of old) → (was : Database) × IsFoundAt image was × (IsOurs was → IsAtRest (in_file old))) where
  passes : (calls : List (List Turn)) → WorksBy calls (in_file old) (in_file new) → (harm : Option Harm) (left : SiteLeft D g f) → LeavesSite new harm left → (after : Image) → IsFileLeft new left after →
      Passes i (setup_of config) calls image after
  passes calls works harm (Closed files) closed after (clean, inl is) =
      subst (λ (m : Image). Passes i (setup_of config) calls image m) (sym is) (closed_run i image config calls old new number opened works files (closed.1.1 clean))
  passes calls works harm (Closed files) closed after (clean, inr may) = left_run i image config calls old new number opened works files (closed.1.1 clean) after may
  passes calls works harm (Open site) closed after (clean, trees, may, holds) =
      stopped_run i image config calls old new number opened works rests after trees (subst (λ (r : Replica (FileStore D g) f). HasCleanDisk (file_of r)) closed.0 clean)
      (subst (λ (r : Replica (FileStore D g) f). (file_of r).may_leave trees) closed.0 may) holds
  passes calls works harm (Unclosed store) closed after (clean, trees, may, holds) =
      stopped_run i image config calls old new number opened works rests after trees clean (closed.1.crash trees may) holds

  pub runs_of : (calls : List (List Turn)) → WorksBy calls (in_file old) (in_file new) → (harm : Option Harm) (left : SiteLeft D g f) → LeavesSite new harm left → IsRunOf image i config calls new left
  runs_of calls works harm left closed = λ after is. passes calls works harm left closed after is
