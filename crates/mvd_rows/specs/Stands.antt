-- When kept rows are those of what is visible.
use Rattle.std.specs.Prelude.{List, map, ◌≡◌, ℕ, ◌==◌, Bool, false, true, Option, Some, None, is_some, ◌≤ℤ◌, negsuc, pos, ◌≤◌, ◌^◌, ℤ, if◌then◌else◌}
use Rattle.std.specs.List.{All}
use Rattle.std.specs.FinMap.{FinMap, get, len}
use Rattle.mvd_keys.specs.Key.{key_cmp}
use Rattle.mvd_keys.specs.Writes.{Key}
use Rattle.mvd_rows.specs.Changes.{IsRoomy, state_in}
use Rattle.mvd_rows.specs.Defs.{Definitions}
use Rattle.mvd_rows.specs.Siblings.{is_conflict}
use Rattle.mvd_rows.specs.declared.changes.Rows.{Rows}
use Rattle.mvd_rows.specs.declared.conflicts.Conflicts.{Conflicts}
use Rattle.mvd_rows.specs.declared.definitions.ViewDef.{ViewDef}
use Rattle.std.specs.BTreeMap as tree
use Rattle.std.specs.BTreeMap.{BTreeMap}
use Rattle.mvd_keys.specs.State.{Text, State}
use Rattle.mvd_docs.specs.declared.term.Term.{Term}
use Rattle.mvd_rows.specs.Names.{Field}
use Rattle.mvd_docs.specs.Term.{term_cmp}
use Rattle.mvd_rows.specs.Marks.{mark_cmp, tally_cmp, tally_of}
use Rattle.mvd_rows.specs.Visible.{Visible, visible_in}
use Rattle.mvd_rows.specs.Views.{has_term, members, wholes, times, row_of}
use Rattle.mvd_rows.specs.declared.index.Index.{Index}
use Rattle.mvd_rows.specs.declared.views.Row.{Row}
use Rattle.mvd_rows.specs.declared.views.View.{View}
use Rattle.mvd_rows.specs.declared.tallies.Tallies.{Tallies}
use Rattle.mvd_rows.specs.declared.marks.Mark.{Mark}
use Rattle.mvd_rows.specs.declared.marks.Tally.{Tally}
use Rattle.mvd_rows.specs.declared.marks.Spot.{Spot}

abbrev pub is_in_some : Field → Term → Option Text → Bool
is_in_some field term None = false
is_in_some field term (Some document) = has_term field term document

abbrev pub is_place_at : Field → Term → Option Spot → Visible → Bool
is_place_at field term None visible = false
is_place_at field term (Some spot) visible = is_in_some field term (get visible spot)

-- whether a sibling with the mark's term at the field is visible at the mark's spot
unfoldable pub is_place : Field → Visible → Mark → Bool
is_place field visible mark = is_place_at field mark.term mark.spot visible

-- the places of an index
pub record IsIndexOf (index : Index) (visible : Visible) : Type 0 where
  pub at : (mark : Mark)
      → tree.get mark_cmp index.places.map mark ≡ (if is_place index.field visible mark then Some tt else None)

abbrev pub unless_none : {X : Type 0} → ℕ → X → Option X
unless_none n x = if n == 0 then None else Some x

-- the row of a group, where it stands
unfoldable pub row_at : Field → Field → Visible → Term → Option Row
row_at group sum visible term = unless_none (row_of group sum term visible).count (row_of group sum term visible)

-- how often a whole number stands in a group
unfoldable pub tally_at : Field → Field → Visible → Tally → ℕ
tally_at group sum visible tally = times tally.whole (wholes sum (members group tally.term visible))

-- the whole numbers of each group, each as often as it stands there
pub record IsTallied (group sum : Field) (tallies : Tallies) (visible : Visible) : Type 0 where
  pub at : (tally : Tally)
      → tree.get tally_cmp tallies.kept.map tally
      ≡ unless_none (tally_at group sum visible tally) (tally_at group sum visible tally)

pub record IsI64 (w : ℤ) : Type 0 where
  pub least : negsuc 9223372036854775807 ≤ℤ w
  pub most : w ≤ℤ pos 9223372036854775807

-- whether the number stands in the group
abbrev pub stands_in : BTreeMap Tally ℕ → Term → ℤ → Bool
stands_in tallies group whole = is_some (tree.get tally_cmp tallies (tally_of group whole))

-- these are the least and the greatest of the i64s that stand in the group, or none do
pub data AreEnds (tallies : BTreeMap Tally ℕ) (group : Term) : Option (ℤ × ℤ) → Type 0 where
  no_ends : ((w : ℤ) → IsI64 w → stands_in tallies group w ≡ false) → AreEnds tallies group None
  two_ends : (least greatest : ℤ) → stands_in tallies group least ≡ true → stands_in tallies group greatest ≡ true →
      ((w : ℤ) → IsI64 w → stands_in tallies group w ≡ true → (least ≤ℤ w) × (w ≤ℤ greatest))
      → AreEnds tallies group (Some (least, greatest))

-- the rows of a view
pub record IsViewOf (view : View) (visible : Visible) : Type 0 where
  pub row : (term : Term) → tree.get term_cmp view.rows.map term ≡ row_at view.group view.sum visible term
  pub tallied : IsTallied view.group view.sum view.tallies visible

-- the two are of one name, group field and sum field
pub record HasSameFields (old new : View) : Type 0 where
  pub name : new.name ≡ old.name
  pub group : new.group ≡ old.group
  pub sum : new.sum ≡ old.sum

-- few enough that no count and no sum grows too large
abbrev pub IsSmall : Visible → Type 0
IsSmall visible = len visible ≤ 2 ^ 40

-- the places of each index, and the rows of each view
pub record AreRowsOf (indexes : List Index) (views : List View) (visible : Visible) : Type 0 where
  pub places : All (λ index. IsIndexOf index visible) indexes
  pub rows : All (λ view. IsViewOf view visible) views

-- a number of siblings, where they are in conflict
abbrev pub if_conflict : ℕ → Option ℕ
if_conflict count = if is_conflict count then Some count else None

-- the keys with two siblings or more, each with their number
pub record AreConflictsOf (conflicts : Conflicts) (states : FinMap key_cmp State) : Type 0 where
  pub at : (key : Key) → tree.get key_cmp conflicts.keys.map key ≡ if_conflict (len (state_in states key).siblings)

abbrev pub definition_of : View → ViewDef
definition_of view = record { name = view.name; group = view.group; sum = view.sum }

-- what the rows are kept of
abbrev pub definitions_of : Rows → Definitions
definitions_of rows =
    record { indexes = map (λ index. index.field) rows.indexes.items; views = map definition_of rows.views.items }

-- the rows are kept of these definitions, and stand for this map of key states
pub record IsRowsOf (kept : Rows) (definitions : Definitions) (states : FinMap key_cmp State) : Type 0 where
  pub defs : definitions_of kept ≡ definitions
  pub rows : AreRowsOf kept.indexes.items kept.views.items (visible_in states)
  pub conflicts : AreConflictsOf kept.conflicts states

-- rows that stand for what is visible
abbrev pub StandFor : Rows → Visible → Type 0
StandFor kept visible = AreRowsOf kept.indexes.items kept.views.items visible

-- whatever definitions and states the rows stand for, this holds of them
abbrev pub IfRowsOf : Rows → (Definitions → FinMap key_cmp State → Type 0) → Type 0
IfRowsOf kept Holds = (defs : Definitions) (states : FinMap key_cmp State) → IsRowsOf kept defs states
    → Holds defs states

-- rows that stand for states in which a key has the old state, with room for the new one
abbrev pub HasRoomFor : Rows → Key → State → State → Type 0
HasRoomFor kept key old new =
    (defs : Definitions) × (states : FinMap key_cmp State)
    × (IsRowsOf kept defs states × (state_in states key ≡ old) × IsRoomy states × (len new.siblings ≤ 2 ^ 17))
