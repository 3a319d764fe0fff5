-- Places, and the rows of a view, of what is visible.
use Rattle.std.specs.Prelude.{ℕ, ◌+◌, Bool, false, List, [], ◌∷◌, filter, filter_map, length, Option, Some, None, ℤ, pos, ◌+ℤ◌, if◌then◌else◌}
use Rattle.std.specs.FinMap.{entries}
use Rattle.std.specs.Ordering.{int_cmp, eq_by_cmp}
use Rattle.std.specs.Int.{int_min, int_max}
use Rattle.mvd_keys.specs.State.{Text}
use Rattle.mvd_docs.specs.Term.{term_cmp}
use Rattle.mvd_docs.specs.Document.{term_of, whole_of}
use Rattle.mvd_docs.specs.declared.term.Term.{Term}
use Rattle.mvd_rows.specs.Names.{Field}
use Rattle.mvd_rows.specs.declared.marks.Spot.{Spot}
use Rattle.mvd_rows.specs.Visible.{Visible}
use Rattle.mvd_rows.specs.declared.views.Row.{Row}

abbrev pub is_term : Term → Option Term → Bool
is_term term None = false
is_term term (Some other) = eq_by_cmp term_cmp term other

-- whether the document has the term at the field
abbrev pub has_term : Field → Term → Text → Bool
has_term field term document = is_term term (term_of field document)

-- the siblings of a group
unfoldable pub members : Field → Term → Visible → List (Spot × Text)
members group term visible = filter (λ e. has_term group term e.1) (entries visible)

-- the whole numbers that a field gives in some of them
abbrev pub wholes : Field → List (Spot × Text) → List ℤ
wholes field es = filter_map (λ e. whole_of field e.1) es

abbrev pub total : List ℤ → ℤ
total [] = pos 0
total (x ∷ xs) = x +ℤ total xs

abbrev pub widened : ℤ → Option (ℤ × ℤ) → Option (ℤ × ℤ)
widened x None = Some (x, x)
widened x (Some ends) = Some (int_min x ends.0, int_max x ends.1)

-- the least and the greatest
abbrev pub ends_of : List ℤ → Option (ℤ × ℤ)
ends_of [] = None
ends_of (x ∷ xs) = widened x (ends_of xs)

-- how often the number stands among them
abbrev pub times : ℤ → List ℤ → ℕ
times w [] = 0
times w (x ∷ xs) = if eq_by_cmp int_cmp w x then times w xs + 1 else times w xs

abbrev pub row_of_members : Field → List (Spot × Text) → Row
row_of_members sum es = record { count = length es; sum = total (wholes sum es); ends = ends_of (wholes sum es) }

-- the row of a group
abbrev pub row_of : Field → Field → Term → Visible → Row
row_of group sum term visible = row_of_members sum (members group term visible)

abbrev pub no_row : Row
no_row = record { count = 0; sum = pos 0; ends = None }

-- the row after a member comes that gives this whole number, or none
abbrev pub gained : Option ℤ → Row → Row
gained None row = record { count = row.count + 1; sum = row.sum; ends = row.ends }
gained (Some w) row = record { count = row.count + 1; sum = w +ℤ row.sum; ends = widened w row.ends }

-- how often a number stands there then
abbrev pub times_gained : Option ℤ → ℤ → ℕ → ℕ
times_gained None x n = n
times_gained (Some w) x n = if eq_by_cmp int_cmp x w then n + 1 else n
