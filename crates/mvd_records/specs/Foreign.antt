-- Databases of other programs.
--
-- Two names are one where they differ in the case of ASCII letters alone.
use Rattle.std.specs.Prelude.{◌≡◌, ◌≢◌, ◌⊎◌, ◌↔◌, ◌==◌, Bool, false, ◌||◌, ◌&&◌, ℕ, not, List, [], ◌∷◌, IsTrue, codes}
use Rattle.std.specs.List.{list_any}
use Rattle.sqlite.specs.Kind.{Kind}
use Rattle.sqlite.specs.Kind.TheVariants.{Blob, Integer, Text}
use Rattle.sqlite.specs.Table.{Table}
use Rattle.sqlite.specs.Effect.{Database}
use Rattle.sqlite.specs.State.{State}
use Rattle.sqlite_schema.specs.Names.{same_name}
use Rattle.sqlite_schema.specs.Rules.{kind_code}
use Rattle.sqlite_schema.specs.declared.schema.Column.{Column}

-- ---- our tables (docs/FORMATS.md, "Records")

-- a column of this name that takes values of this kind alone, and no NULL
abbrev pub is_column : List ℕ → Kind → Column → Bool
is_column name kind c = same_name c.name name && (kind_code c.kind == kind_code kind && (c.is_strict && c.not_null))

-- two columns: a text, and a value of this kind
abbrev pub are_columns : List ℕ → List ℕ → Kind → List Column → Bool
are_columns text value kind (c ∷ d ∷ []) = is_column text Text c && is_column value kind d
are_columns text value kind columns = false

-- the place of the first column alone
abbrev pub is_first : List ℕ → Bool
is_first (place ∷ []) = place == 1
is_first places = false

-- a table of this name with these columns, the first of which is its primary key
abbrev pub is_map : List ℕ → List ℕ → List ℕ → Kind → Table → Bool
is_map name text value kind t = same_name t.name name && (are_columns text value kind t.columns && is_first t.primary)

abbrev pub is_states : List ℕ → Table → Bool
is_states name = is_map name (codes "key") (codes "state") Blob

abbrev pub is_meta : Table → Bool
is_meta = is_map (codes "meta") (codes "name") (codes "value") Integer

abbrev pub is_ours : Table → Bool
is_ours t = is_states (codes "states") t || (is_meta t || is_states (codes "states2") t)

-- ---- databases

-- the tables that each version of ours makes, and a table that is none of ours
abbrev pub has_states : List Table → Bool
has_states = list_any (is_states (codes "states"))

abbrev pub has_meta : List Table → Bool
has_meta = list_any is_meta

abbrev pub has_other : List Table → Bool
has_other = list_any (λ t. not (is_ours t))

-- Another program's database: a table that is none of ours stands in it, or a view, and the tables that each version of
-- ours makes are not both there
pub record IsForeign (db : Database) : Type 0 where
  pub other : IsTrue (has_other db.schema.tables) ⊎ (db.schema.views ≢ [])
  pub missing : (has_states db.schema.tables ≡ false) ⊎ (has_meta db.schema.tables ≡ false)

-- such a database is open, and no transaction is under way
pub record HoldsForeign (s : State) : Type 0 where
  pub foreign : IsForeign s.committed
  pub autocommit : s.in_transaction ≡ false
  pub is_open : IsTrue s.is_open

-- true just of such a database, where the connection is open
abbrev pub FindsForeign : State → Bool → Type 0
FindsForeign s result = IsTrue s.is_open → IsTrue result ↔ HoldsForeign s
