-- Commands on one file are runs of the store.
use Rattle.std.proofs.Common.{◌≡◌, ◌⊎◌, ℕ, List, [], ◌∷◌, map, subst, inl, inr}
use Rattle.mvd_app.specs.Commands.{AreInTurn, Command, run_of}
use Rattle.mvd_model.proofs.Runs.{promised}
use Rattle.mvd_model.specs.TheStore.{Knows, Promise}
use Rattle.mvd_runs.proofs.Filing.{chained, chained_new}
use Rattle.mvd_runs.specs.Files.{AreChained, CarriedRuns, IsFile, IsNewFile, Passes, setup_of}
use Rattle.sqlite.specs.Recovery.{Image}
use Rattle.sqlite_disk.specs.declared.Disk as disk
use Rattle.sqlite_store.specs.declared.store.FileStore.{FileStore}
use Rattle.sqlite_trees.specs.declared.store.Store.{Ghosts}

module _ {D : Type 0} {g : disk.Ghosts D} (f : Ghosts (FileStore D g)) (site : ℕ) where
  runs : (commands : List (Command f site)) (image : Image) → AreInTurn f image commands → AreChained site image (map (run_of f) commands)
  runs [] image are = tt
  runs (command ∷ commands) image (from, rest) = (
    from,
    subst (λ (n : ℕ). Passes n (setup_of command.ran.config) command.ran.calls command.before command.after) command.number (command.ran.runs command.after command.stands),
    runs commands command.after rest,
  )

  pub keep : (image : Image) (a : Knows) (first : Command f site) (commands : List (Command f site)) → IsFile a site image ⊎ IsNewFile a site image → AreInTurn f image (first ∷ commands) →
      (it : CarriedRuns a site image (map (run_of f) (first ∷ commands))) × Promise it.events it.end
  keep image a first commands (inl file) are = let it = chained site image a (map (run_of f) (first ∷ commands)) file (runs (first ∷ commands) image are) in (it, promised a it.events it.end it.happen)
  keep image a first commands (inr new) are = let it = chained_new site image a (run_of f first) (map (run_of f) commands) new (runs (first ∷ commands) image are) in (it, promised a it.events it.end it.happen)
