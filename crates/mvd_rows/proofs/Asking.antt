-- From a page of kept rows to the answer of a question.
use Rattle.std.proofs.Common.{◌≡◌, ℕ, ℤ, Bool, true, false, not, ◌&&◌, if◌then◌else◌, List, filter, Option, Some, None, Result, Ok, Err, refl, sym, ap, ap₂, ◌∙◌, true≢false, Ordering, Less, Equal, Greater}
use Rattle.std.specs.Option.{option_cmp}
use Rattle.std.specs.Ordering.{eq_by_cmp, is_eq, is_gt, is_lt, ordering_then, ordering_reverse}
use Rattle.std.specs.Cmp.{tied_itself}
use Rattle.std.specs.FinMap.{FinMap}
use Rattle.mvd_dots.specs.Dot.{DotValue}
use Rattle.mvd_dots.specs.declared.refusals.Refusal.{Refusal}
use Rattle.mvd_dots.specs.declared.refusals.Refusal.TheVariants.{NoIndex}
use Rattle.mvd_docs.specs.Term.{term_cmp}
use Rattle.mvd_docs.specs.declared.term.Term.{Term}
use Rattle.mvd_docs.proofs.TermOrder.{term_cmp_total, term_cmp-IsAntisymmetric}
use Rattle.mvd_keys.specs.Key.{key_cmp}
use Rattle.mvd_keys.specs.Place.{place_cmp}
use Rattle.mvd_keys.specs.State.{State}
use Rattle.mvd_keys.specs.Writes.{Key}
use Rattle.mvd_keys.specs.declared.places.Place.{Place}
use Rattle.mvd_rows.specs.Answers.{find_answer, is_place_after, is_after_place, is_after_term, is_between, page_of, places_in, range_answer, row_answer, row_of_view, rows_answer, rows_of_view, view_in, view_named}
use Rattle.mvd_rows.specs.Defs.{Definitions, has_index}
use Rattle.mvd_rows.specs.Marks.{spot_cmp}
use Rattle.mvd_rows.specs.Names.{Field}
use Rattle.mvd_rows.specs.Pages.{is_past, mark_of, spot_at}
use Rattle.mvd_rows.specs.Stands.{IsRowsOf, definition_of, definitions_of}
use Rattle.mvd_rows.specs.Views.{row_of}
use Rattle.mvd_rows.specs.Visible.{visible_in}
use Rattle.mvd_rows.specs.declared.changes.Rows.{Rows}
use Rattle.mvd_rows.specs.declared.definitions.ViewDef.{ViewDef}
use Rattle.mvd_rows.specs.declared.index.Index.{Index}
use Rattle.mvd_rows.specs.declared.marks.Mark.{Mark}
use Rattle.mvd_rows.specs.declared.views.Row.{Row}
use Rattle.mvd_rows.specs.declared.views.View.{View}

-- ---- where a page begins

and-yes : (b : Bool) → (b && true) ≡ b
and-yes true = refl
and-yes false = refl

of_term_by : (r c : Ordering) → (is_eq r && is_lt c) ≡ (is_lt (ordering_then r c) && not (is_gt (ordering_reverse r)))
of_term_by Less c = refl
of_term_by Equal c = sym (and-yes (is_lt c))
of_term_by Greater c = refl

after_is : (after : Option (Key × DotValue)) (p : Place) → is_place_after after p ≡ is_lt (option_cmp spot_cmp (spot_at after) (Some (record { key = p.key; dot = p.dot })))
after_is None p = refl
after_is (Some at) p = ap (λ r. is_lt (ordering_then r (spot_cmp (record { key = at.0; dot = at.1 }) (record { key = p.key; dot = p.dot })))) (tied_itself term_cmp_total p.term)

of_term : (term copied : Term) (after : Option (Key × DotValue)) → term ≡ copied → (p : Place) →
    (is_past (record { term = copied; spot = spot_at after }) p && not (is_gt (term_cmp p.term term))) ≡ (eq_by_cmp term_cmp term p.term && is_place_after after p)
of_term term copied after same p =
    ap (λ t. is_past (record { term = t; spot = spot_at after }) p && not (is_gt (term_cmp p.term term))) (sym same)
    ∙ ap (λ r. is_past (record { term = term; spot = spot_at after }) p && not (is_gt r)) (term_cmp_total.antisymm p.term term)
    ∙ sym (ap (λ b. eq_by_cmp term_cmp term p.term && b) (after_is after p) ∙ of_term_by (term_cmp term p.term) (option_cmp spot_cmp (spot_at after) (Some (record { key = p.key; dot = p.dot }))))

from_by : (r : Ordering) → (not (is_gt r) && true) ≡ is_lt (ordering_then r Less)
from_by Less = refl
from_by Equal = refl
from_by Greater = refl

pub start_plain : (from copied : Term) → from ≡ copied → (p : Place) → (not (is_gt (term_cmp from p.term)) && is_after_place None p) ≡ is_past (record { term = copied; spot = None }) p
start_plain from copied same p = from_by (term_cmp from p.term) ∙ ap (λ t. is_past (record { term = t; spot = None }) p) same

less_is : (r : Ordering) → is_lt r ≡ true → r ≡ Less
less_is Less h = refl
less_is Equal h = absurd (true≢false (sym h))
less_is Greater h = absurd (true≢false (sym h))

before_by : (at : Place) (from : Term) (p : Place) (r : Ordering) → term_cmp from p.term ≡ r → term_cmp at.term from ≡ Less → (not (is_gt r) && is_lt (place_cmp at p)) ≡ is_lt (ordering_then r Less)
before_by at from p Less e h = ap (λ x. is_lt (ordering_then x (spot_cmp (record { key = at.key; dot = at.dot }) (record { key = p.key; dot = p.dot })))) (term_cmp_total.trans at.term from p.term h e)
before_by at from p Equal e h = ap (λ x. is_lt (ordering_then x (spot_cmp (record { key = at.key; dot = at.dot }) (record { key = p.key; dot = p.dot })))) (ap (term_cmp at.term) (sym (term_cmp-IsAntisymmetric from p.term e)) ∙ h)
before_by at from p Greater e h = refl

pub start_before : (from copied : Term) (at : Place) → from ≡ copied → is_lt (term_cmp at.term from) ≡ true → (p : Place) →
    (not (is_gt (term_cmp from p.term)) && is_after_place (Some at) p) ≡ is_past (record { term = copied; spot = None }) p
start_before from copied at same h p = before_by at from p (term_cmp from p.term) refl (less_is (term_cmp at.term from) h) ∙ ap (λ t. is_past (record { term = t; spot = None }) p) same

never : (at : Term) (from p : Term) (c : Ordering) → (r : Ordering) → term_cmp at from ≡ r → is_lt r ≡ false → term_cmp from p ≡ Greater → is_lt (ordering_then (term_cmp at p) c) ≡ false
never at from p c Less e h g = absurd (true≢false h)
never at from p c Equal e h g = ap (λ x. is_lt (ordering_then x c)) (term_cmp_total.congr at from p e ∙ g)
never at from p c Greater e h g =
    let low : term_cmp p from ≡ Less = term_cmp_total.antisymm p from ∙ ap ordering_reverse g in
    let high : term_cmp from at ≡ Less = term_cmp_total.antisymm from at ∙ ap ordering_reverse e in
    ap (λ x. is_lt (ordering_then x c)) (term_cmp_total.antisymm at p ∙ ap ordering_reverse (term_cmp_total.trans p from at low high))

at_by : (at : Place) (from : Term) (p : Place) (r : Ordering) → term_cmp from p.term ≡ r → is_lt (term_cmp at.term from) ≡ false → (not (is_gt r) && is_lt (place_cmp at p)) ≡ is_lt (place_cmp at p)
at_by at from p Less e h = refl
at_by at from p Equal e h = refl
at_by at from p Greater e h = sym (never at.term from p.term _ (term_cmp at.term from) refl h e)

pub start_at : (from : Term) (at : Place) → is_lt (term_cmp at.term from) ≡ false → (p : Place) → (not (is_gt (term_cmp from p.term)) && is_after_place (Some at) p) ≡ is_past (mark_of at) p
start_at from at h p = at_by at from p (term_cmp from p.term) refl h

-- ---- answers

swap : (a b c : Bool) → ((a && c) && b) ≡ ((a && b) && c)
swap true true c = and-yes c
swap true false true = refl
swap true false false = refl
swap false b c = refl

module _ (rows : Rows) (defs : Definitions) (states : FinMap key_cmp State) (stands : IsRowsOf rows defs states) where
  has_here : (field : Field) (b : Bool) → has_index (definitions_of rows).indexes field ≡ b → has_index defs.indexes field ≡ b
  has_here field b e = ap (λ d. has_index d.indexes field) (sym stands.defs) ∙ e

  pub find_some : (index : Index) (field : Field) (term copied : Term) (after : Option (Key × DotValue)) (page : List Place × Bool) → has_index (definitions_of rows).indexes field ≡ true → index.field ≡ field → term ≡ copied →
      page ≡ page_of (filter (λ p. is_past (record { term = copied; spot = spot_at after }) p && not (is_gt (term_cmp p.term term))) (places_in index.field (visible_in states))) →
      find_answer defs (visible_in states) field term after ≡ Ok page
  find_some index field term copied after page has same copy is =
      ap (λ b. if b then Ok (page_of (filter (λ p. eq_by_cmp term_cmp term p.term && is_place_after after p) (places_in field (visible_in states)))) else Err NoIndex) (has_here field true has)
      ∙ ap Ok (sym (is ∙ ap₂ (λ (q : Place → Bool) f. page_of (filter q (places_in f (visible_in states)))) (λ i p. of_term term copied after copy p i) same))

  pub range_some : (index : Index) (field : Field) (from to : Term) (after : Option Place) (start : Mark) (page : List Place × Bool) → has_index (definitions_of rows).indexes field ≡ true → index.field ≡ field →
      ((p : Place) → (not (is_gt (term_cmp from p.term)) && is_after_place after p) ≡ is_past start p) →
      page ≡ page_of (filter (λ p. is_past start p && not (is_gt (term_cmp p.term to))) (places_in index.field (visible_in states))) →
      range_answer defs (visible_in states) field from to after ≡ Ok page
  range_some index field from to after start page has same begins is =
      ap (λ b. if b then Ok (page_of (filter (λ p. is_between from to p.term && is_after_place after p) (places_in field (visible_in states)))) else Err NoIndex) (has_here field true has)
      ∙ ap Ok (sym (is ∙ ap₂ (λ (q : Place → Bool) f. page_of (filter q (places_in f (visible_in states))))
      (λ i p. (sym (ap (λ b. b && not (is_gt (term_cmp p.term to))) (begins p)) ∙ swap (not (is_gt (term_cmp from p.term))) (not (is_gt (term_cmp p.term to))) (is_after_place after p)) i) same))

  named_here : (name : List ℕ) (o : Option ViewDef) → view_named (definitions_of rows).views name ≡ o → view_named defs.views name ≡ o
  named_here name o e = ap (λ d. view_named d.views name) (sym stands.defs) ∙ e

  pub row_some : (view : View) (name : List ℕ) (term : Term) (row : Row) → view_named (definitions_of rows).views name ≡ Some (definition_of view) → row ≡ row_of view.group view.sum term (visible_in states) →
      ◌≡◌ {A = Result (ℕ × ℤ × Option (ℤ × ℤ)) Refusal} (Ok (row.count, row.sum, row.ends)) (row_answer defs (visible_in states) name term)
  row_some view name term row named is = ap (λ (r : Row). Ok (r.count, r.sum, r.ends)) is ∙ sym (ap (row_of_view (visible_in states) term) (named_here name (Some (definition_of view)) named))

  pub rows_some : (view : View) (name : List ℕ) (after : Option Term) (page : List (Term × ℕ × ℤ × Option (ℤ × ℤ)) × Bool) → view_named (definitions_of rows).views name ≡ Some (definition_of view) →
      page ≡ page_of (filter (λ r. is_after_term after r.0) (view_in (definition_of view) (visible_in states))) → rows_answer defs (visible_in states) name after ≡ Ok page
  rows_some view name after page named is = ap (rows_of_view (visible_in states) after) (named_here name (Some (definition_of view)) named) ∙ ap Ok (sym is)
