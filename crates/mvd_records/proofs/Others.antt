-- A database of another program is none of ours.
use Rattle.std.proofs.Common.{◌≡◌, ◌≢◌, ◌⊎◌, false, [], refl, sym, subst, inl, inr, true≢false, IsTrue}
use Rattle.sqlite.specs.Effect.{Database}
use Rattle.sqlite.specs.Schema.{Schema}
use Rattle.sqlite_schema.specs.Names.{same_name}
use Rattle.mvd_records.specs.Tables.{all_tables, no_tables, old_tables}
use Rattle.mvd_records.specs.Records.{IsOurs}
use Rattle.mvd_records.specs.Foreign.{IsForeign, has_meta, has_other, has_states}

module _ (s : Schema) where
  abbrev IsMissing : Type 0
  IsMissing = (has_states s.tables ≡ false) ⊎ (has_meta s.tables ≡ false)

  abbrev HasOther : Type 0
  HasOther = IsTrue (has_other s.tables) ⊎ (s.views ≢ [])

none_other : ¬ HasOther no_tables
none_other (inl bad) = true≢false (sym bad)
none_other (inr some) = some refl

old_there : ¬ IsMissing old_tables
unfolding same_name
old_there (inr bad) = true≢false bad
old_there (inl bad) = true≢false bad

all_there : ¬ IsMissing all_tables
unfolding same_name
all_there (inl bad) = true≢false bad
all_there (inr bad) = true≢false bad

pub not_ours : (db : Database) → IsForeign db → ¬ IsOurs db
not_ours db it (inl none) = none_other (subst HasOther none.schema it.other)
not_ours db it (inr (inl old)) = old_there (subst IsMissing old.schema it.missing)
not_ours db it (inr (inr all)) = all_there (subst IsMissing all.schema it.missing)
