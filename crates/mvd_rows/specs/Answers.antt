-- What the questions answer, computed afresh from what is visible.
use Rattle.std.specs.Prelude.{ℕ, ℤ, Bool, true, not, ◌&&◌, List, [], ◌∷◌, map, filter, filter_map, length, take, nat_lt, Option, Some, None, option_map, Result, Ok, Err, if◌then◌else◌, bytes_eq}
use Rattle.std.specs.Ordering.{eq_by_cmp, is_gt, is_lt}
use Rattle.std.specs.FinMap.{entries, from_entries, keys}
use Rattle.mvd_dots.specs.Dot.{DotValue}
use Rattle.mvd_dots.specs.declared.refusals.Refusal.{Refusal}
use Rattle.mvd_dots.specs.declared.refusals.Refusal.TheVariants.{NoIndex, NoView}
use Rattle.mvd_docs.specs.Document.{term_of}
use Rattle.mvd_docs.specs.Term.{term_cmp}
use Rattle.mvd_docs.specs.declared.term.Term.{Term}
use Rattle.mvd_keys.specs.Place.{place_cmp}
use Rattle.mvd_keys.specs.State.{Text}
use Rattle.mvd_keys.specs.Writes.{Key, Write}
use Rattle.mvd_keys.specs.declared.places.Place.{Place}
use Rattle.mvd_rows.specs.Defs.{Definitions, has_index}
use Rattle.mvd_rows.specs.Names.{Field}
use Rattle.mvd_rows.specs.Views.{row_of}
use Rattle.mvd_rows.specs.Visible.{Visible, visible}
use Rattle.mvd_rows.specs.declared.definitions.ViewDef.{ViewDef}
use Rattle.mvd_rows.specs.declared.marks.Spot.{Spot}
use Rattle.mvd_rows.specs.declared.views.Row.{Row}

abbrev pub place_at : Spot → Term → Place
place_at spot term = record { term = term; key = spot.key; dot = spot.dot }

-- where a sibling stands in the index of a field, if it has a term there
abbrev pub place_of : Field → Spot × Text → Option (Place × Unit {0})
place_of field e = option_map (λ term. (place_at e.0 term, tt)) (term_of field e.1)

-- the places of all that is visible and has a term at the field, in their order
unfoldable pub places_in : Field → Visible → List Place
places_in field visible = keys (from_entries {R = place_cmp} (filter_map (place_of field) (entries visible)))

-- the group in which a sibling stands, if it has a term at the field
abbrev pub group_of : Field → Spot × Text → Option (Term × Unit {0})
group_of field e = option_map (λ term. (term, tt)) (term_of field e.1)

-- the terms by which a field groups what is visible, in their order
unfoldable pub groups_in : Field → Visible → List Term
groups_in group visible = keys (from_entries {R = term_cmp} (filter_map (group_of group) (entries visible)))

abbrev pub shown : Term → Row → Term × ℕ × ℤ × Option (ℤ × ℤ)
shown term row = (term, row.count, row.sum, row.ends)

-- the rows of a view: each group with its count, its sum, and its least and greatest whole number
abbrev pub view_in : ViewDef → Visible → List (Term × ℕ × ℤ × Option (ℤ × ℤ))
view_in view visible = map (λ term. shown term (row_of view.group view.sum term visible)) (groups_in view.group visible)

-- ---- the same, of a set of writes

abbrev pub places : List Write → Field → List Place
places writes field = places_in field (visible writes)

abbrev pub row : List Write → ViewDef → Term → Row
row writes view term = row_of view.group view.sum term (visible writes)

abbrev pub view : List Write → ViewDef → List (Term × ℕ × ℤ × Option (ℤ × ℤ))
view writes definition = view_in definition (visible writes)

-- ---- pages

-- the first thousand, and whether more are left
abbrev pub page_of : {A : Type 0} → List A → List A × Bool
page_of all = (take 1000 all, nat_lt 1000 (length all))

-- whether a place of the term stands after a key and a dot
abbrev pub is_place_after : Option (Key × DotValue) → Place → Bool
is_place_after None place = true
is_place_after (Some at) place = is_lt (place_cmp (record { term = place.term; key = at.0; dot = at.1 }) place)

abbrev pub is_after_place : Option Place → Place → Bool
is_after_place None place = true
is_after_place (Some at) place = is_lt (place_cmp at place)

abbrev pub is_after_term : Option Term → Term → Bool
is_after_term None term = true
is_after_term (Some at) term = is_lt (term_cmp at term)

-- whether a term stands from one to another, both included
abbrev pub is_between : Term → Term → Term → Bool
is_between from to term = not (is_gt (term_cmp from term)) && not (is_gt (term_cmp term to))

-- ---- answers

-- the places of a term
abbrev pub find_answer : Definitions → Visible → Field → Term → Option (Key × DotValue)
    → Result (List Place × Bool) Refusal
find_answer defs visible field term after =
    if has_index defs.indexes field then Ok
    (page_of (filter (λ p. eq_by_cmp term_cmp term p.term && is_place_after after p) (places_in field visible)))
    else Err NoIndex

-- the places of the terms from one to another
abbrev pub range_answer : Definitions → Visible → Field → Term → Term → Option Place
    → Result (List Place × Bool) Refusal
range_answer defs visible field from to after =
    if has_index defs.indexes field then Ok
    (page_of (filter (λ p. is_between from to p.term && is_after_place after p) (places_in field visible)))
    else Err NoIndex

-- the view of a name
abbrev pub view_named : List ViewDef → List ℕ → Option ViewDef
view_named [] name = None
view_named (v ∷ views) name = if bytes_eq name v.name then Some v else view_named views name

abbrev pub row_of_view : Visible → Term → Option ViewDef → Result (ℕ × ℤ × Option (ℤ × ℤ)) Refusal
row_of_view visible term None = Err NoView
row_of_view visible term (Some v) = let r = row_of v.group v.sum term visible in Ok (r.count, r.sum, r.ends)

-- the row of a group
abbrev pub row_answer : Definitions → Visible → List ℕ → Term → Result (ℕ × ℤ × Option (ℤ × ℤ)) Refusal
row_answer defs visible name term = row_of_view visible term (view_named defs.views name)

abbrev pub rows_of_view : Visible → Option Term → Option ViewDef
    → Result (List (Term × ℕ × ℤ × Option (ℤ × ℤ)) × Bool) Refusal
rows_of_view visible after None = Err NoView
rows_of_view visible after (Some v) = Ok (page_of (filter (λ r. is_after_term after r.0) (view_in v visible)))

-- the rows of a view
abbrev pub rows_answer : Definitions → Visible → List ℕ → Option Term
    → Result (List (Term × ℕ × ℤ × Option (ℤ × ℤ)) × Bool) Refusal
rows_answer defs visible name after = rows_of_view visible after (view_named defs.views name)
