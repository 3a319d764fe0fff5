-- A database that is empty has none of the tables, and no key.
use Rattle.std.proofs.Common.{◌≡◌, ◌∙◌, List, [], ◌∷◌, ℕ, Some, ap, ap₂, inl, inr, refl, subst, sym}
use Rattle.std.proofs.lemmas.Option.{none-some}
use Rattle.std.specs.FinMap.{empty, from_entries, get, get-empty}
use Rattle.std.specs.List.{AllZip}
use Rattle.mvd_keys.specs.Key.{key_cmp}
use Rattle.mvd_keys.specs.State.{State as Keyed}
use Rattle.mvd_keys.specs.Writes.{Key}
use Rattle.mvd_records.specs.Records.{HasNone, IsOurs, new_states, old_states}
use Rattle.mvd_records.specs.States.{StoredStates as Stored}
use Rattle.mvd_records.specs.Tables.{no_tables}
use Rattle.sqlite_catalog.specs.Listing.{IsIndexRow, IsTableRow, IsViewRow, Lists}
use Rattle.sqlite.specs.Effect.{Database, IsDatabase}
use Rattle.sqlite.specs.Files.{IsEmpty}
use Rattle.sqlite.specs.Schema.{Schema}
use Rattle.mvd_replica.specs.Readable.{HasJust, HasState}

none_zipped : {A B : Type 0} (P : A → B → Type 0) (ys : List B) → AllZip P [] ys → ys ≡ []
none_zipped P [] zip = refl
none_zipped P (y ∷ ys) zip = absurd zip

none_listed : (schema : Schema) → Lists [] schema → schema ≡ no_tables
none_listed schema lists =
    ap (λ ts. record { tables = ts; indexes = schema.indexes; views = schema.views }) (none_zipped IsTableRow schema.tables lists.listed.tables)
    ∙ ap₂ (λ is vs. record { tables = []; indexes = is; views = vs }) (none_zipped (IsIndexRow schema.tables) schema.indexes lists.listed.indexes) (none_zipped IsViewRow schema.views lists.listed.views)

pub none_tables : (db : Database) → IsDatabase db → IsEmpty db.trees → db.schema ≡ no_tables
none_tables db sound is_empty = none_listed db.schema (subst (λ rows. Lists rows db.schema) is_empty.1 sound.lists)

pub none_ours : (db : Database) → db.schema ≡ no_tables → IsOurs db
none_ours db none = inl (record { schema = none; rows = λ t has. absurd has })

none_old : (db : Database) → db.schema ≡ no_tables → old_states db ≡ from_entries []
none_old db none = rw none refl

none_new : (db : Database) → db.schema ≡ no_tables → new_states db ≡ from_entries []
none_new db none = rw none refl

none_at : (stored : Stored) (key : Key) (bytes : List ℕ) → stored ≡ from_entries [] → get stored key ≡ Some bytes → ⊥
none_at stored key bytes none found = none-some bytes (sym (get-empty key_cmp key) ∙ ap (λ (m : Stored). get m key) (sym none) ∙ found)

pub none_stored : (db : Database) → db.schema ≡ no_tables → HasNone (old_states db) × HasNone (new_states db)
none_stored db none = (
  (λ key bytes found. none_at (old_states db) key bytes (none_old db none) found),
  (λ key bytes found. none_at (new_states db) key bytes (none_new db none) found),
)

-- what stores nothing has no state
none_had : (db : Database) (key : Key) (s : Keyed) → HasNone (old_states db) → HasNone (new_states db) → HasState db key s → ⊥
none_had db key s old new (inl has) = new key has.0 has.1
none_had db key s old new (inr has) = old key has.0 has.1

pub just_none : (db : Database) → HasNone (old_states db) → HasNone (new_states db) → HasJust db empty
just_none db old new key s = (
  (λ has. absurd (none_had db key s old new has)),
  (λ found. absurd (none-some s (sym (get-empty key_cmp key) ∙ found))),
)
