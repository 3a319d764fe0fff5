-- A file in which an empty database is found is a new one.
use Rattle.std.proofs.Common.{◌≡◌, ℕ, []}
use Rattle.mvd_replica.specs.File.{IsFoundAt}
use Rattle.mvd_replica.proofs.EmptyFiles.{none_ours, none_stored, none_tables}
use Rattle.mvd_model.specs.TheStore.{Knows}
use Rattle.mvd_runs.specs.Files.{IsNewFile}
use Rattle.sqlite.specs.Effect.{Database}
use Rattle.sqlite.specs.Files.{IsEmpty}
use Rattle.sqlite.specs.Recovery.{Image}

pub new_file : (a : Knows) (i : ℕ) (image : Image) → ((was : Database) → IsFoundAt image was → IsEmpty was.trees) → (a i).known ≡ [] → IsNewFile a i image
new_file a i image empties nothing = record {
  nothing = nothing;
  ours = λ was found. none_ours was (none_tables was found.sound (empties was found));
  none = λ was found. none_stored was (none_tables was found.sound (empties was found));
}
