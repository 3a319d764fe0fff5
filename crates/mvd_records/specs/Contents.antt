-- What records hold, as one value, and what a call makes of it.
--
-- The tables and the marks are this project's own format (docs/FORMATS.md, "Records").
use Rattle.std.specs.Prelude.{◌≡◌, ℕ, List, Some}
use Rattle.std.specs.FinMap.{get, insert, remove}
use Rattle.sqlite.specs.Effect.{Database}
use Rattle.mvd_records.specs.declared.loading.StateTable.{StateTable}
use Rattle.mvd_records.specs.declared.loading.StateTable.TheVariants.{Version1, Version2}
use Rattle.mvd_records.specs.States.{StoredStates}
use Rattle.mvd_records.specs.Records.{HoldsRecords, HasNone, IsWhole, old_states, new_states, with_pairs}

-- The version and the site that the marks name, and the two maps from a key's bytes to a state's bytes: that of
-- version 1, whose keys are not moved yet, and that of version 2
pub record Contents : Type 0 where
  pub version : ℕ
  pub site : ℕ
  pub old_map : StoredStates
  pub new_map : StoredStates

-- The database holds them: our tables are there and no others, and the marks and the rows are these
pub record Holds (db : Database) (it : Contents) : Type 0 where
  pub records : HoldsRecords it.version it.site db
  pub old_is : old_states db ≡ it.old_map
  pub new_is : new_states db ≡ it.new_map

-- ---- what a call makes of them

-- The keys of these pairs have these states, the last one where a key is there twice, and all else is as it was
abbrev pub SetsStates : List (List ℕ × List ℕ) → Contents → Contents → Type 0
SetsStates pairs was now = now ≡ record was { new_map = with_pairs was.new_map pairs }

-- An old key is a new one with this state, and all else is as it was
pub record MovesKey (key state : List ℕ) (was now : Contents) : Type 0 where
  pub there : (before : List ℕ) × (get was.old_map key ≡ Some before)
  pub is : now ≡ record was { old_map = remove was.old_map key; new_map = insert was.new_map key state }

-- No old key is left, and the version is 2
pub record EndsMoves (was now : Contents) : Type 0 where
  pub none : HasNone was.old_map
  pub is : now ≡ record was { version = 2 }

-- ---- what a load asks

-- the map in a table of states
abbrev pub map_of : StateTable → Contents → StoredStates
map_of Version1 it = it.old_map
map_of Version2 it = it.new_map

-- Of records that were opened in this version, which a later call may have raised: the keys of the map that is loaded
-- are in form, no key is in both maps, and in version 2 no old key is left
abbrev pub CanLoad : ℕ → StateTable → Contents → Type 0
CanLoad version table it = IsWhole version (map_of table it) it.old_map it.new_map
