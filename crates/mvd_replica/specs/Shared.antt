-- What storing the changes of requests that share a commit does to the records.
use Rattle.std.specs.Prelude.{◌≡◌, ◌⊎◌, ℕ, List, [], Result, IsTrue, OnErr, OnOk}
use Rattle.mvd_dots.specs.declared.refusals.Refusal.{Refusal}
use Rattle.mvd_dots.specs.declared.refusals.Refusal.TheVariants.{Memory, Store}
use Rattle.mvd_records.specs.Records.{HoldsRecords, IsSound, LeavesTrees, SavesStates}
use Rattle.mvd_records.specs.Seen.{RecordsValue}
use Rattle.sqlite.specs.Held.{state}
use Rattle.sqlite.specs.State.{HasCleanDisk, State, Survives}
use Rattle.sqlite.specs.Tree.{Trees}
use Rattle.sqlite_trees.specs.declared.store.Store.{Ghosts}
use Rattle.mvd_replica.specs.Restored.{committed}

-- the disk that is clean now was clean before
abbrev pub WereClean : {S : Type 0} → Ghosts S → RecordsValue S → RecordsValue S → Type 0
WereClean g old new = HasCleanDisk (state g new.conn) → HasCleanDisk (state g old.conn)

-- the store was open, and the trees are those of the records with these pairs, if the records were a site's
abbrev pub LeavesPairs : State → List (List ℕ × List ℕ) → Trees → Type 0
LeavesPairs s pairs trees =
    IsTrue s.is_open
    × LeavesTrees s (λ version site db. HoldsRecords version site db × SavesStates s.committed db pairs) trees

-- a crash leaves what it left before, or these
abbrev pub SurvivesPairs : {S : Type 0} → Ghosts S → RecordsValue S → List (List ℕ × List ℕ) → RecordsValue S → Type 0
SurvivesPairs g old pairs new = Survives (state g old.conn) (state g new.conn) (LeavesPairs (state g old.conn) pairs)

module _ {S A : Type 0} (g : Ghosts S) where
  -- after Ok the store is open, or there was nothing to store
  abbrev pub StoresOpen : List (List ℕ × List ℕ) → Result A Refusal → RecordsValue S → Type 0
  StoresOpen pairs result new = HasCleanDisk (state g new.conn)
      → OnOk result (IsTrue (state g new.conn).is_open ⊎ (pairs ≡ []))

  -- after Ok the pairs are stored
  abbrev pub StoresPairs : RecordsValue S → List (List ℕ × List ℕ) → Result A Refusal → RecordsValue S → Type 0
  StoresPairs old pairs result new =
      (site : ℕ) → IsSound (state g new.conn) → HoldsRecords 2 site (committed g old) →
      OnOk result (HoldsRecords 2 site (committed g new) × SavesStates (committed g old) (committed g new) pairs)

  -- after a refusal the last commit is as it was
  abbrev pub StoresNone : RecordsValue S → Result A Refusal → RecordsValue S → Type 0
  StoresNone old result new = IsSound (state g new.conn) → OnErr result (committed g new ≡ committed g old)

-- the store refused, or memory did, and then nothing was called
abbrev pub IsUnstored : {S : Type 0} → RecordsValue S → RecordsValue S → Refusal → Type 0
IsUnstored old new refusal = (refusal ≡ Store) ⊎ ((refusal ≡ Memory) × (new ≡ old))
