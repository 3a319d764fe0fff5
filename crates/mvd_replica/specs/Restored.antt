-- What the reading of a site's records comes to, step by step, where the records were some before and the store is
-- sound after.
use Rattle.std.specs.Prelude.{◌≡◌, ◌⊎◌, ◌↔◌, false, ℕ, List, Result, IfErr, IfOk, IsTrue, MatchResult, OnOk}
use Rattle.std.specs.FinMap.{entries}
use Rattle.mvd_dots.specs.declared.refusals.Refusal.{Refusal}
use Rattle.mvd_dots.specs.declared.refusals.Refusal.TheVariants.{Damaged, Full, Memory, Store}
use Rattle.mvd_keys.specs.Writes.{Key, Stands, Write}
use Rattle.mvd_records.specs.Records.{HasNone, HoldsRecords, IsSound, new_states, old_states}
use Rattle.mvd_records.specs.Seen.{RecordsValue}
use Rattle.mvd_records.specs.States.{StoredStates as Stored}
use Rattle.mvd_site.specs.Config.{ConfigValue}
use Rattle.mvd_site.specs.Sites.{SiteValue}
use Rattle.sqlite.specs.Effect.{Database}
use Rattle.sqlite.specs.Held.{state}
use Rattle.sqlite.specs.State.{HasCleanDisk}
use Rattle.sqlite_trees.specs.declared.store.Store.{Ghosts}
use Rattle.mvd_wire.specs.Codecs.{layout2}
use Rattle.mvd_replica.specs.Holds.{SpellStates}
use Rattle.mvd_replica.specs.Readable.{AreInOrder, AreStored, HoldsTooMany, Migrates, Resumes, SameStates}

-- ---- refusals

-- memory was refused, or what is stored is damaged
abbrev pub IsUnreadRecord : Refusal → Type 0
IsUnreadRecord e = (e ≡ Damaged) ⊎ (e ≡ Memory)

-- or the store refused
abbrev pub IsUnmoved : Refusal → Type 0
IsUnmoved e = (e ≡ Damaged) ⊎ ((e ≡ Memory) ⊎ (e ≡ Store))

-- or there are too many keys
abbrev pub IsUnloaded : Refusal → Type 0
IsUnloaded e = (e ≡ Damaged) ⊎ ((e ≡ Full) ⊎ ((e ≡ Memory) ⊎ (e ≡ Store)))

-- ---- what is read

-- the site is set up so, and not broken
abbrev pub IsFresh : ConfigValue → SiteValue → Type 0
IsFresh config site = (site.config ≡ config) × (site.broken ≡ false)

-- there is a set of writes that it stands for
abbrev pub HasWrites : SiteValue → Type 0
HasWrites site = (known : List Write) × Stands site.states known

-- 17 only where the bytes spell none
abbrev pub IfDamaged : {A : Type 0} → Result A Refusal → Type 0 → Type 0
IfDamaged result P = IfErr result (λ e. e ≡ Damaged → P)

-- 17 of a list of entries only where they are the entries of a map that is not all states
abbrev pub DamagedIn : {A : Type 0} → Result A Refusal → List (Key × List ℕ) → Type 0
DamagedIn result pairs = (stored : Stored) → pairs ≡ entries stored → IfDamaged result (¬ AreStored layout2 stored)

-- ---- the records before and after

-- the two maps are in order
abbrev pub InOrder : ℕ → Database → Type 0
InOrder version db = AreInOrder version (old_states db) (new_states db)

-- Ok only where they are, 17 only where they are not
abbrev pub TellsOrder : {A : Type 0} → Result A Refusal → ℕ → Database → Type 0
TellsOrder result version db = MatchResult result (λ _. InOrder version db) (λ e. e ≡ Damaged → ¬ InOrder version db)

module _ {S : Type 0} (g : Ghosts S) where
  -- the database as it was committed last
  abbrev pub committed : RecordsValue S → Database
  committed records = (state g records.conn).committed

  -- records whose store is sound now were sound before
  abbrev pub WereSound : RecordsValue S → RecordsValue S → Type 0
  WereSound old new = IsSound (state g new.conn) → IsSound (state g old.conn)

  -- of records of any version and site
  abbrev pub OfAny : RecordsValue S → RecordsValue S → (Database → Type 0) → Type 0
  OfAny old new P = (version number : ℕ) → IsSound (state g new.conn) → HoldsRecords version number (committed old)
      → P (committed old)

  -- of records of the version that they told
  abbrev pub OfTold : RecordsValue S → RecordsValue S → (Database → Database → Type 0) → Type 0
  OfTold old new P = (number : ℕ) → IsSound (state g new.conn) → HoldsRecords old.version number (committed old)
      → P (committed old) (committed new)

  -- ---- a load, of records of version 2

  -- nothing was loaded of a store that a failure has shut
  abbrev pub LeavesOpen : {A : Type 0} → Result A Refusal → RecordsValue S → Type 0
  LeavesOpen result new = HasCleanDisk (state g new.conn) → OnOk result (IsTrue (state g new.conn).is_open)

  -- nothing is committed
  abbrev pub LoadsOnly : RecordsValue S → RecordsValue S → Type 0
  LoadsOnly old new = OfAny old new (λ db. committed new ≡ db)

  -- the states are those that the new map spells
  abbrev pub LoadsStates : RecordsValue S → Result SiteValue Refusal → RecordsValue S → Type 0
  LoadsStates old result new = OfAny old new (λ db. IfOk result (λ site. SpellStates (new_states db) site.states))

  -- 10 only where there are too many keys, in order
  abbrev pub LoadsFull : ConfigValue → RecordsValue S → Result SiteValue Refusal → RecordsValue S → Type 0
  LoadsFull config old result new =
      OfAny old new (λ db. IfErr result (λ e. e ≡ Full → HoldsTooMany config.max_keys db × InOrder 2 db))

  -- Ok only where they are in order, 17 only where they are not
  abbrev pub LoadsOrder : RecordsValue S → Result SiteValue Refusal → RecordsValue S → Type 0
  LoadsOrder old result new = OfAny old new (TellsOrder result 2)

  -- ---- a move of the keys of version 1

  -- the records are in version 2 then, or still in theirs
  abbrev pub MovesVersion : {A : Type 0} → RecordsValue S → Result A Refusal → RecordsValue S → Type 0
  MovesVersion old result new =
      (number : ℕ) → IsSound (state g new.conn) → HoldsRecords old.version number (committed old) →
      MatchResult result (λ _. HoldsRecords 2 number (committed new))
      (λ _. HoldsRecords old.version number (committed new))

  -- the key states that the two maps spell are the same, also after a refusal
  abbrev pub MovesStates : RecordsValue S → RecordsValue S → Type 0
  MovesStates old new = OfTold old new SameStates

  -- every old key is moved; 17 only where they were not in order
  abbrev pub MovesAll : {A : Type 0} → RecordsValue S → Result A Refusal → RecordsValue S → Type 0
  MovesAll old result new =
      OfTold old new
      (λ was now. MatchResult result (λ _. Migrates old.version was now) (λ e. e ≡ Damaged
      → ¬ InOrder old.version was))

  -- after a refusal they are in order just where they were
  abbrev pub MovesAlike : {A : Type 0} → RecordsValue S → Result A Refusal → RecordsValue S → Type 0
  MovesAlike old result new =
      OfTold old new (λ was now. IfErr result (λ _. InOrder old.version was ↔ InOrder old.version now))

  -- ---- both

  -- the records are in version 2, and the site's states are those that their new map spells
  abbrev pub FindsStates : RecordsValue S → Result SiteValue Refusal → RecordsValue S → Type 0
  FindsStates old result new =
      (number : ℕ) → IsSound (state g new.conn) → HoldsRecords old.version number (committed old) →
      IfOk result (λ site. HoldsRecords 2 number (committed new) × SpellStates (new_states (committed new)) site.states)

  -- no key of version 1 is left
  abbrev pub FindsNone : RecordsValue S → Result SiteValue Refusal → RecordsValue S → Type 0
  FindsNone old result new = OfTold old new (λ _ now. IfOk result (λ _. HasNone (old_states now)))

  -- 10 only where too many keys are left, of records that were in order
  abbrev pub FindsFull : ConfigValue → RecordsValue S → Result SiteValue Refusal → RecordsValue S → Type 0
  FindsFull config old result new =
      OfTold old new
      (λ was now. IfErr result (λ e. e ≡ Full → HoldsTooMany config.max_keys now × InOrder old.version was))

  -- Ok only where they were in order, 17 only where they were not
  abbrev pub FindsOrder : RecordsValue S → Result SiteValue Refusal → RecordsValue S → Type 0
  FindsOrder old result new = OfTold old new (λ was _. TellsOrder result old.version was)

  -- the last commit is as it was where they told version 2
  abbrev pub StaysMoved : RecordsValue S → RecordsValue S → Type 0
  StaysMoved old new = old.version ≡ 2 → OfTold old new (λ was now. now ≡ was)

  -- opened again, they are found as they were
  abbrev pub FindsAgain : RecordsValue S → RecordsValue S → Type 0
  FindsAgain old new = (number : ℕ) → IsSound (state g new.conn) → HoldsRecords old.version number (committed old) →
      Resumes old.version number (committed old) (committed new)

  -- The site that the records hold, whose old keys are moved first; or why there is none
  pub record RestoresSite (setup : ConfigValue) (old : RecordsValue S) (result : Result SiteValue Refusal)
      (new : RecordsValue S) : Type 0 where
    -- it is set up so, and not broken; there is a set of writes that it stands for
    pub config : IfOk result (IsFresh setup)
    pub stands : IfOk result HasWrites
    -- Ok: the records are in version 2, and hold just its states
    pub version : IfOk result (λ _. new.version ≡ 2)
    pub holds : FindsStates old result new
    pub alone : FindsNone old result new
    -- Err: memory or the store was refused, the records are damaged, or hold too many keys
    pub refusal : IfErr result IsUnloaded
    pub order : FindsOrder old result new
    pub full : FindsFull setup old result new
    -- either way the key states are those of before, and the next call goes on from there
    pub states : MovesStates old new
    -- of records in version 2 the last commit is as it was
    pub still : StaysMoved old new
    pub resumes : FindsAgain old new
    pub before : WereSound old new
    pub stays_open : LeavesOpen result new
