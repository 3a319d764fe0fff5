-- A group that is gone over from its end, for the last change of each key.
use Rattle.std.specs.Prelude.{◌≡◌, List, ◌∷◌, reverse}
use Rattle.std.specs.BTreeSet.{contains}
use Rattle.std.specs.Borrow.{Bor}
use Rattle.mvd_digest.specs.declared.digest.Hashed.{Hashed}
use Rattle.mvd_keys.specs.Key.{key_cmp}
use Rattle.mvd_keys.specs.Writes.{Key}
use Rattle.mvd_kept.specs.Change.{ChangeValue}
use Rattle.mvd_kept.specs.Installs.{HashesChanges, digests_in, is_changed, last_changes}
use Rattle.mvd_kept.specs.declared.installing.Lasts.{Lasts}
use Rattle.mvd_kept.specs.declared.prepared.Prepared.{Prepared}
use Rattle.mvd_kept.specs.declared.prepared.Prepared.TheVariants.{Change}

-- these were gone over: their keys were met, and the last change of each is there, the last one first
pub record Gathers (lasts : Lasts) (group : List Prepared) : Type 0 where
  pub order : reverse lasts.changes.items ≡ digests_in (last_changes group)
  pub members : (q : Bor Key) → contains (λ a b. key_cmp a.now b.now) lasts.seen q ≡ is_changed group q.now

-- a change before others is gone over
abbrev pub GathersOne : Lasts → ChangeValue → Lasts → Type 0
GathersOne old change new = (later : List Prepared) → Gathers old later → Gathers new (Change change ∷ later)

-- what is hashed from the first moment on, with that change
abbrev pub HashesOne : Lasts → ChangeValue → Hashed → Hashed → Type 0
HashesOne lasts change old new = (first : Hashed) (later : List Prepared) → Gathers lasts later
    → HashesChanges (last_changes later) first old → HashesChanges (last_changes (Change change ∷ later)) first new
