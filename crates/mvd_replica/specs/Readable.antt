-- What is read of the records: this project's own format (docs/FORMATS.md, "Records").
use Rattle.std.specs.Prelude.{◌≡◌, ◌⊎◌, ◌<◌, ◌↔◌, ℕ, List, Some, Ok, Err, map}
use Rattle.std.specs.FinMap.{get, len}
use Rattle.mvd_dots.specs.declared.refusals.Refusal.TheVariants.{Damaged}
use Rattle.mvd_keys.specs.State.{State}
use Rattle.mvd_keys.specs.Writes.{Key}
use Rattle.mvd_wire.specs.Codec.{Spells}
use Rattle.mvd_wire.specs.Codecs.{Layout, layout1, layout2, spell_state, state_codec}
use Rattle.mvd_records.specs.States.{StoredStates as Stored}
use Rattle.mvd_records.specs.Records.{ShareNoKey, AreKeys, HasNone, HoldsRecords, IsWhole, TellsVersion, marks_of, new_states, old_states}
use Rattle.mvd_site.specs.Held.{IsHeldState, States}
use Rattle.sqlite.specs.Effect.{Database}

-- the bytes spell, in a layout, a state that a site may hold
abbrev pub SpellsHeldState : Layout → List ℕ → Type 0
SpellsHeldState layout bytes = (s : State) × Spells (state_codec layout) s bytes × IsHeldState s

-- at each key such bytes are stored
abbrev pub AreStored : Layout → Stored → Type 0
AreStored layout stored = (key : Key) (bytes : List ℕ) → get stored key ≡ Some bytes → SpellsHeldState layout bytes

-- The two maps of records of a version are in order: each key is one, none is in both, in version 2 no old one is left,
-- and what is stored are states that a site may hold
pub record AreInOrder (version : ℕ) (old new : Stored) : Type 0 where
  pub old_keys : AreKeys old
  pub new_keys : AreKeys new
  pub tables : ShareNoKey version old new
  pub old_stored : AreStored layout1 old
  pub new_stored : AreStored layout2 new

-- the marks tell this site a version, and what it tells is in order
abbrev pub AreReadable : ℕ → Database → Type 0
AreReadable site db =
    (version : ℕ) × TellsVersion (marks_of db) site (Ok version) × AreInOrder version (old_states db) (new_states db)

-- why records are damaged to a site: their marks are none of ours, or what their version tells is not in order
abbrev pub AreDamaged : ℕ → Database → Type 0
AreDamaged site db =
    TellsVersion (marks_of db) site (Err Damaged)
    ⊎ ((version : ℕ) × TellsVersion (marks_of db) site (Ok version)
    × ¬ AreInOrder version (old_states db) (new_states db))

-- The records are the site's, also where a move of old keys was broken off, and in order exactly where they were:
-- opened again they are found as they were
abbrev pub Resumes : ℕ → ℕ → Database → Database → Type 0
Resumes version site old new =
    (now : ℕ) × ((now ≡ version) ⊎ (now ≡ 2)) × HoldsRecords now site new
    × (AreInOrder version (old_states old) (new_states old) ↔ AreInOrder now (old_states new) (new_states new))

-- more keys are held than so many, and no old key is left
pub record HoldsTooMany (most : ℕ) (db : Database) : Type 0 where
  pub alone : HasNone (old_states db)
  pub more : most < len (new_states db)

-- the old keys were in order and are moved: each new state was there, or is at the key of an old one. That it is the
-- same state this does not say (`SameStates` below does)
pub record Migrates (version : ℕ) (old new : Database) : Type 0 where
  pub whole : IsWhole version (old_states old) (old_states old) (new_states old)
  pub stored : AreStored layout1 (old_states old)
  pub kept : (key : Key) (bytes : List ℕ) → get (new_states old) key ≡ Some bytes
      → get (new_states new) key ≡ Some bytes
  pub from : (key : Key) (bytes : List ℕ) → get (new_states new) key ≡ Some bytes →
      (get (new_states old) key ≡ Some bytes)
      ⊎ (SpellsHeldState layout2 bytes × ((was : List ℕ) × (get (old_states old) key ≡ Some was)))
  pub none : HasNone (old_states new)

-- keys with states, as they are spelled
abbrev pub spelled_entries : List (Key × State) → List (Key × List ℕ)
spelled_entries = map (λ e. (e.0, spell_state e.1))

-- the bytes of version 1 and those of version 2 spell one state, which a site may hold
abbrev pub Respells : List ℕ → List ℕ → Type 0
Respells old new = (s : State) × Spells (state_codec layout1) s old × Spells (state_codec layout2) s new × IsHeldState s

-- the key has this state among stored ones of a version
abbrev pub SpelledIn : Layout → Stored → Key → State → Type 0
SpelledIn layout stored key s = (bytes : List ℕ) × (get stored key ≡ Some bytes) × Spells (state_codec layout) s bytes

-- the key has this state in the records, as version 2 spells it or as version 1 does
abbrev pub HasState : Database → Key → State → Type 0
HasState db key s = SpelledIn layout2 (new_states db) key s ⊎ SpelledIn layout1 (old_states db) key s

-- The two maps of both databases spell the same states of the same keys, and hold the same bytes, but where an old
-- state became a new one: so what spells none stays as it is
pub record SameStates (a b : Database) : Type 0 where
  pub kept : (key : Key) (s : State) → HasState a key s → HasState b key s
  pub only : (key : Key) (s : State) → HasState b key s → HasState a key s
  pub new_kept : (key : Key) (bytes : List ℕ) → get (new_states a) key ≡ Some bytes
      → get (new_states b) key ≡ Some bytes
  pub new_only : (key : Key) (bytes : List ℕ) → get (new_states b) key ≡ Some bytes
      → (get (new_states a) key ≡ Some bytes) ⊎ SpellsHeldState layout2 bytes
  pub old_kept : (key : Key) (bytes : List ℕ) → get (old_states a) key ≡ Some bytes
      → (get (old_states b) key ≡ Some bytes) ⊎ SpellsHeldState layout1 bytes
  pub old_only : (key : Key) (bytes : List ℕ) → get (old_states b) key ≡ Some bytes
      → get (old_states a) key ≡ Some bytes

-- just these states are had, at just these keys
abbrev pub HasJust : Database → States → Type 0
HasJust db states = (key : Key) (s : State) → HasState db key s ↔ (get states key ≡ Some s)
