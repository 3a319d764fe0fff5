-- What a command is stopped with, and what comes back of its file.
use Rattle.std.proofs.Common.{◌≡◌, ℕ, Bool, Option, Result, Ok, Err, false, subst, true}
use Rattle.std.specs.Prelude.{IfSome}
use Rattle.std.specs.Result.{result_and}
use Rattle.mvd_app.specs.Stored.{EndsAsWorked, Filed, IsConfigFor, LeavesSite, SiteLeft, closed_in}
use Rattle.mvd_app.specs.declared.closing.Left.TheVariants.{Closed, Open, Unclosed}
use Rattle.mvd_dots.specs.declared.refusals.Refusal.TheVariants.{Broken, Store}
use Rattle.mvd_hint.specs.declared.harm.Harm.{Harm}
use Rattle.mvd_hint.specs.declared.hint.Stop.{Stop}
use Rattle.mvd_input.specs.declared.fault.Fault.TheVariants.{Stopped}
use Rattle.mvd_replica.proofs.Programs.{leaves_file}
use Rattle.mvd_replica.specs.FileCalls.{OpensAsSite, file_of}
use Rattle.mvd_replica.specs.Programs.{KeepsFile, LeavesFile, WorksOn}
use Rattle.mvd_replica.specs.Replicas.{site_of}
use Rattle.mvd_replica.specs.declared.replica.Replica.{Replica}
use Rattle.mvd_site.specs.Config.{ConfigValue}
use Rattle.sqlite.specs.Recovery.{Image}
use Rattle.sqlite_disk.specs.declared.Disk as disk
use Rattle.sqlite_disk.specs.declared.Files.{Files}
use Rattle.sqlite_store.specs.declared.store.FileStore.{FileStore}
use Rattle.sqlite_trees.specs.declared.store.Store.{Ghosts}

-- ---- what it is stopped with

module _ (F R S : Type 0) (broken : Bool) (ended : Result (Unit {0}) Stop) where
  -- it is left as it is
  pub stops_broken : (worked : Result (Unit {0}) Stop) (stop : Stop) (site : R) → ended ≡ result_and worked (Err stop) → broken ≡ true → stop.fault ≡ Stopped Broken →
      EndsAsWorked {F = F} {R = R} {S = S} worked (Open site) broken ended
  stops_broken (Ok done) stop site is broke says = rw is (rw broke says)
  stops_broken (Err other) stop site is broke says = is

  -- its store is left
  pub stops_unclosed : (worked : Result (Unit {0}) Stop) (stop : Stop) (store : S) → ended ≡ result_and worked (Err stop) → broken ≡ false → stop.fault ≡ Stopped Store →
      EndsAsWorked {F = F} {R = R} {S = S} worked (Unclosed store) broken ended
  stops_unclosed (Ok done) stop store is whole says = rw is (rw whole says)
  stops_unclosed (Err other) stop store is whole says = is

  -- its file was closed
  pub stops_same : (worked : Result (Unit {0}) Stop) (files : F) → ended ≡ worked → EndsAsWorked {F = F} {R = R} {S = S} worked (Closed files) broken ended
  stops_same (Ok done) files is = is
  stops_same (Err other) files is = is

-- ---- what comes back

module _ {D : Type 0} {g : disk.Ghosts D} {f : Ghosts (FileStore D g)} (image : Image) (filed : Filed) (config : ConfigValue)
    (is : IsConfigFor filed.setup config) (old new : Replica (FileStore D g) f) (opened : OpensAsSite image config (Ok old)) where
  -- a site that was opened, worked on and closed: its file
  pub file_back : (harm : Option Harm) (left : SiteLeft D g f) → WorksOn (record { site = site_of old; store = file_of old }) (record { site = site_of new; store = file_of new }) →
      LeavesSite new harm left → IfSome (closed_in left) (LeavesFile g image filed.setup.site)
  file_back harm (Closed files) works ends = λ clean. subst (λ (n : ℕ). KeepsFile g image n files) is.site (
      leaves_file image config old new files opened.site opened.stands (λ sound. opened.opens sound.clean) works ends.0 (ends.1.1 clean))
  file_back harm (Open site) works ends = tt
  file_back harm (Unclosed store) works ends = tt
