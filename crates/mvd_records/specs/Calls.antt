-- What each call of the records does: one relation for a call, over what it was called on and with, what it returned,
-- and what it left.
use Rattle.std.specs.Prelude.{◌≡◌, ◌⊎◌, false, ℕ, List, [], ◌∷◌, Vec, Result, Ok, Err, IsTrue, OnOk, OnErr, IfOk, IfErr}
use Rattle.std.specs.Prelude.{IfSome, MatchResult, Option}
use Rattle.std.specs.FinMap.{entries, is_sorted}
use Rattle.std.specs.declared.alloc.Global.{Global}
use Rattle.sqlite.specs.Held.{Held, state}
use Rattle.sqlite.specs.Effect.{Database, IsDatabase}
use Rattle.sqlite.specs.Tree.{Trees}
use Rattle.sqlite.specs.State.{State, HasCleanDisk, Survives}
use Rattle.sqlite_trees.specs.declared.store.Store.{Ghosts}
use Rattle.mvd_dots.specs.declared.refusals.Refusal.{Refusal}
use Rattle.mvd_dots.specs.declared.refusals.Refusal.TheVariants.{Damaged, Memory, Store}
use Rattle.mvd_keys.specs.Key.{key_cmp}
use Rattle.mvd_records.specs.declared.loading.StateTable.{StateTable}
use Rattle.mvd_records.specs.Records.{HasNone, HasTables, IsOpenRefusal, IsOurs, IsSound, LacksKey, LeavesOpened, LeavesRefused}
use Rattle.mvd_records.specs.Records.{OpensRecords, TellsVersion, marks_of}
use Rattle.mvd_records.specs.Foreign.{HoldsForeign}
use Rattle.mvd_records.specs.States.{AreMarks}
use Rattle.mvd_records.specs.Tables.{all_tables}
use Rattle.mvd_records.specs.Pairs.{Pair, pair_entries, pairs_rise}
use Rattle.mvd_records.specs.Contents.{CanLoad, Contents, EndsMoves, Holds, MovesKey, SetsStates, map_of}
use Rattle.mvd_records.specs.Seen.{RecordsValue, Seen, seen}

-- Of what the last commit held, where that was records of ours, and where the store is sound after the call: nobody
-- else has written it, it has returned what was written, and no failure has shut it
abbrev pub OfHeld : State → State → (Contents → Type 0) → Type 0
OfHeld old new P = (was : Contents) → IsSound new → Holds old.committed was → P was

-- the last commit is the same
abbrev pub SameCommit : State → State → Type 0
SameCommit old new = new.committed ≡ old.committed

-- the store was open, and, if it held records of ours, the trees are those of a database in which what was held is
-- changed so, and which lists its schema and obeys it
abbrev pub LeavesChange : (Contents → Contents → Type 0) → State → Trees → Type 0
LeavesChange Change s trees = IsTrue s.is_open × ((was : Contents) → Holds s.committed was →
    (now : Contents) × Change was now × (db : Database) × IsDatabase db × Holds db now × (trees ≡ db.trees))

-- A change of what is held: Ok makes it. On a clean disk a crash leaves what it could leave before the call, or the
-- change, all of it; also after an error, since the store may fail once the change is on its disk. Of a store that was
-- shut it leaves nothing new. After Ok, where the store is sound, it leaves the change alone: the last commit holds it
-- (`done`), and a store that is open leaves its last commit (`settled` of the kit's trait `Store`)
pub record Commits {A : Type 0} (Change : Contents → Contents → Type 0) (old : State) (result : Result A Refusal)
    (new : State) : Type 0 where
  pub before : IsSound new → IsSound old
  pub done : OfHeld old new (λ was. OnOk result ((now : Contents) × Change was now × Holds new.committed now))
  pub survives : Survives old new (LeavesChange Change old)

-- ---- save_all, and save, which is the same of one pair

pub record SavesAll {A : Type 0} (old : Seen) (pairs : List (List ℕ × List ℕ)) (result : Result A Refusal) (new : Seen)
    : Type 0 where
  pub commits : Commits (SetsStates pairs) old.store result new.store
  -- every refusal is 21, and no cause is claimed
  pub refusal : IfErr result (λ e. e ≡ Store)
  -- after it, where the store is sound, the last commit is the same, also of a database that is none of ours. Where it
  -- is not sound, the next open may find the whole change (`commits.survives`)
  pub unchanged : IsSound new.store → OnErr result (SameCommit old.store new.store)
  pub stays_open : HasCleanDisk new.store → OnOk result (IsTrue new.store.is_open)
  pub version : new.version ≡ old.version

abbrev pub Saves : {A : Type 0} → Seen → List ℕ → List ℕ → Result A Refusal → Seen → Type 0
Saves old key state result new = SavesAll old ((key, state) ∷ []) result new

-- ---- move_key

pub record MovesOldKey {A : Type 0} (old : Seen) (key state : List ℕ) (result : Result A Refusal)
    (new : Seen) : Type 0 where
  pub commits : Commits (MovesKey key state) old.store result new.store
  -- 17, where the key is no old one, or 21; after either, where the store is sound, nothing is changed
  pub refusal : IfErr result (λ e. (e ≡ Damaged) ⊎ (e ≡ Store))
  pub damaged : OfHeld old.store new.store (λ was. IfErr result (λ e. e ≡ Damaged → LacksKey was.old_map key))
  pub unchanged : IsSound new.store → OnErr result (SameCommit old.store new.store)
  pub version : new.version ≡ old.version

-- ---- finish

pub record Finishes {A : Type 0} (old : Seen) (result : Result A Refusal) (new : Seen) : Type 0 where
  pub commits : Commits EndsMoves old.store result new.store
  -- 17, where an old key is left, or 21; after either, of records of ours, where the store is sound, nothing is changed
  pub refusal : IfErr result (λ e. (e ≡ Damaged) ⊎ (e ≡ Store))
  pub damaged : OfHeld old.store new.store (λ was. IfErr result (λ e. e ≡ Damaged → ¬ HasNone was.old_map))
  pub unchanged : OfHeld old.store new.store (λ _. OnErr result (SameCommit old.store new.store))
  pub version : MatchResult result (λ _. new.version ≡ 2) (λ _. new.version ≡ old.version)

-- ---- load_all, which reads the new map, and load_old, which reads the old one

pub record Loads (table : StateTable) (old : Seen) (result : Result (Vec Pair Global) Refusal) (new : Seen)
    : Type 0 where
  pub before : IsSound new.store → IsSound old.store
  pub loaded : OfHeld old.store new.store (λ was. IfOk result (λ pairs. pair_entries pairs.items ≡
      entries (map_of table was)))
  -- the keys rise, whatever the store returned: by their bytes, and in the order in which a site takes its states
  pub rising : IfOk result (λ pairs. pairs_rise (pair_entries pairs.items))
  pub sorted : IfOk result (λ pairs. IsTrue (is_sorted key_cmp pairs.items))
  -- Ok only where the map can be loaded, 17 only where it cannot; 20 and 21 tell nothing of it
  pub whole : OfHeld old.store new.store (λ was. OnOk result (CanLoad old.version table was))
  pub damaged : OfHeld old.store new.store (λ was. IfErr result (λ e. e ≡ Damaged → ¬ CanLoad old.version table was))
  pub refusal : IfErr result (λ e. (e ≡ Damaged) ⊎ ((e ≡ Memory) ⊎ (e ≡ Store)))
  -- nothing is changed
  pub unchanged : OfHeld old.store new.store (λ _. SameCommit old.store new.store)
  -- nothing is loaded of a store that a failure has shut
  pub stays_open : HasCleanDisk new.store → OnOk result (IsTrue new.store.is_open)
  pub survives : Survives old.store new.store (LeavesChange (λ _ _. ⊥) old.store)
  pub version : new.version ≡ old.version

-- ---- open

pub record IsOpenedAs (store : State) (site : ℕ) (records : Seen) : Type 0 where
  pub before : IsSound records.store → IsSound store
  pub opened : IsSound records.store → IsOurs store.committed →
      OpensRecords records.version site store.committed records.store.committed
  -- no transaction is under way
  pub autocommit : records.store.in_transaction ≡ false
  pub survives : Survives store records.store (LeavesOpened store site)
  -- another program's database is never made one of ours
  pub own : ¬ HoldsForeign store

pub record IsRefusedAs (store : State) (site : ℕ) (e : Refusal) (after : State) : Type 0 where
  pub before : IsSound after → IsSound store
  -- 16, 17 or 21; of a database of ours `told` says why it is 16 or 17
  pub refusal : IsOpenRefusal e
  pub told : IsSound after → IsOurs store.committed → TellsVersion (marks_of store.committed) site (Err e)
  pub unchanged : IsSound after → SameCommit store after
  pub survives : Survives store after (LeavesRefused e store site)

-- another program's database is refused with 17, and the connection that comes back is the one that was handed in
abbrev pub SparesForeign : {S : Type 0} → Ghosts S → Held S → Refusal × Held S → Type 0
SparesForeign g conn refused = HoldsForeign (state g conn) → refused ≡ (Damaged, conn)

-- the records of the site, or a refusal with the connection
abbrev pub Opens : {S : Type 0} → Ghosts S → Held S → ℕ → Result (RecordsValue S) (Refusal × Held S) → Type 0
Opens g conn site (Ok records) = IsOpenedAs (state g conn) site (seen g records)
Opens g conn site (Err refused) =
    IsRefusedAs (state g conn) site refused.0 (state g refused.1) × SparesForeign g conn refused

-- ---- owner_in: where the store is sound and all our tables are there, the site is the one that the marks name
abbrev pub TellsOwner : State → State → Option ℕ → Type 0
TellsOwner old new result = IsSound new → HasTables all_tables old.committed →
    IfSome result (λ site. (version : ℕ) × AreMarks version site (marks_of old.committed))
