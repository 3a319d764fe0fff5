-- The kept rows of a view are its rows.
use Rattle.std.proofs.Common.{◌≡◌, ℕ, ◌==◌, ne_eqb, suc, nat_lt, Bool, true, false, T, ◌&&◌, cond, if◌then◌else◌, List, [], ◌∷◌, map, filter, filter_map, length, take, Option, Some, None, is_some, option_map, refl, sym, ap, ap₂, ◌∙◌, true≢false, arith, ℤ, unwrap_or, lt-ltb, Bor}
use Rattle.std.specs.Map.Iter.{TakesFirst, deref_pair}
use Rattle.std.specs.BTreeMap as tree
use Rattle.std.specs.BTreeMap.Range.{entries_between}
use Rattle.std.specs.declared.ops.Bound.TheVariants.{Unbounded}
use Rattle.std.specs.List.{cons_option}
use Rattle.std.specs.Ordering.{eq_by_cmp, is_lt}
use Rattle.std.specs.FinMap.{entries, entries_sorted, find, from_entries, get-entries, get-from_entries, is_sorted}
use Rattle.std.specs.FinMap.Entries.{below_all, same_entries}
use Rattle.mvd_docs.specs.Document.{term_of}
use Rattle.mvd_docs.specs.Term.{term_cmp}
use Rattle.mvd_docs.specs.declared.term.Term.{Term}
use Rattle.mvd_docs.proofs.TermOrder.{term_cmp_total, term_cmp-IsAntisymmetric, tied_where_same}
use Rattle.mvd_keys.specs.State.{Text}
use Rattle.mvd_rows.specs.Answers.{group_of, groups_in, is_after_term, page_of, shown, view_in}
use Rattle.mvd_rows.specs.Names.{Field}
use Rattle.mvd_rows.specs.Pages.{IsPageOf, shown_entry, start_of}
use Rattle.mvd_rows.specs.Stands.{IsViewOf, definition_of, row_at, unless_none}
use Rattle.mvd_rows.specs.Views.{has_term, is_term, members, row_of}
use Rattle.mvd_rows.specs.Visible.{Visible}
use Rattle.mvd_rows.specs.declared.marks.Spot.{Spot}
use Rattle.mvd_rows.specs.declared.views.Row.{Row}
use Rattle.mvd_rows.specs.declared.views.View.{View}
use Rattle.mvd_rows.proofs.Sorted.{both, first, found_later, second}
use Rattle.mvd_rows.proofs.Trees.{find_is, sorted_is}

abbrev Entry : Type 0
Entry = Term × Row

abbrev untied : List Entry → List (Term × Unit {0})
untied rs = map (λ e. (e.0, tt)) rs

untied_below : (x : Term) (rs : List Entry) → T (below_all term_cmp x rs) → T (below_all term_cmp x (untied rs))
untied_below x [] h = tt
untied_below x (r ∷ rs) h = both _ _ (first _ _ h) (untied_below x rs (second (is_lt (term_cmp x r.0)) _ h))

untied_sorted : (rs : List Entry) → T (is_sorted term_cmp rs) → T (is_sorted term_cmp (untied rs))
untied_sorted [] h = tt
untied_sorted (r ∷ rs) h = both _ _ (untied_below r.0 rs (first _ _ h)) (untied_sorted rs (second (below_all term_cmp r.0 rs) _ h))

abbrev there : Option Row → Option (Unit {0})
there o = option_map (λ _. tt) o

find_untied : (t : Term) (rs : List Entry) → find term_cmp t (untied rs) ≡ there (find term_cmp t rs)
find_untied t [] = refl
find_untied t (r ∷ rs) = elim (eq_by_cmp term_cmp t r.0) as (λ b. cond b (Some tt) (find term_cmp t (untied rs)) ≡ there (cond b (Some r.1) (find term_cmp t rs))) [ true ↦ refl | false ↦ find_untied t rs ]

abbrev unless : ℕ → Option (Unit {0})
unless n = if n == 0 then None else Some tt

unless_more : (n : ℕ) → unless (suc n) ≡ Some tt
unless_more n = ap (λ b. if b then None else Some tt) (ne_eqb (suc n) 0 (λ e. omega arith))

there_unless : (n : ℕ) (row : Row) → there (unless_none n row) ≡ unless n
there_unless n row = elim (n == 0) as (λ b. there (if b then None else Some row) ≡ (if b then None else Some tt)) [ true ↦ refl | false ↦ refl ]

group_by : (t : Term) (o : Option Term) (e : Spot × Text) (es : List (Spot × Text)) (rest : List (Term × Unit {0})) → find term_cmp t rest ≡ unless (length es) →
    find term_cmp t (cons_option (option_map (λ term. (term, tt)) o) rest) ≡ unless (length (cond (is_term t o) (e ∷ es) es))
group_by t None e es rest ih = ih
group_by t (Some u) e es rest ih = elim (eq_by_cmp term_cmp t u) as (λ b. cond b (Some tt) (find term_cmp t rest) ≡ unless (length (cond b (e ∷ es) es))) [ true ↦ sym (unless_more (length es)) | false ↦ ih ]

find_groups : (group : Field) (t : Term) (es : List (Spot × Text)) → find term_cmp t (filter_map (group_of group) es) ≡ unless (length (filter (λ e. has_term group t e.1) es))
find_groups group t [] = refl
find_groups group t (e ∷ es) = group_by t (term_of group e.1) e (filter (λ e. has_term group t e.1) es) (filter_map (group_of group) es) (find_groups group t es)

names_untied : (rs : List Entry) → map (λ e. e.0) rs ≡ map (λ e. e.0) (untied rs)
names_untied [] = refl
names_untied (r ∷ rs) = ap (λ xs. r.0 ∷ xs) (names_untied rs)

-- the terms of the kept rows are the groups
groups_are : (view : View) (visible : Visible) → IsViewOf view visible → tree.IsOrdered term_cmp view.rows.map → map (λ e. e.0) view.rows.map.entries ≡ groups_in view.group visible
unfolding groups_in row_at members
groups_are view visible is ordered =
    let rs = view.rows.map.entries in
    let gs = filter_map (group_of view.group) (entries visible) in
    names_untied rs ∙ ap (map (λ e. e.0)) (same_entries term_cmp term_cmp_total term_cmp-IsAntisymmetric (untied rs) (entries (from_entries gs))
    (untied_sorted rs (sorted_is term_cmp rs ordered)) (entries_sorted (from_entries gs))
    (λ t. find_untied t rs ∙ ap there (sym (find_is term_cmp t rs) ∙ is.row t) ∙ there_unless (row_of view.group view.sum t visible).count (row_of view.group view.sum t visible)
    ∙ sym (find_groups view.group t (entries visible)) ∙ sym (get-from_entries term_cmp_total gs t) ∙ get-entries (from_entries gs) t))

some_row : (n : ℕ) (x row : Row) → unless_none n x ≡ Some row → x ≡ row
some_row n x row = elim (n == 0) as (λ b. (if b then None else Some x) ≡ Some row → x ≡ row) [
  | true ↦ λ e. absurd (true≢false (sym (ap is_some e)))
  | false ↦ λ e. ap (λ o. unwrap_or o x) e
]

row_there : (view : View) (visible : Visible) → IsViewOf view visible → (t : Term) (row : Row) → find term_cmp t view.rows.map.entries ≡ Some row → row_of view.group view.sum t visible ≡ row
unfolding row_at
row_there view visible is t row found = some_row (row_of view.group view.sum t visible).count (row_of view.group view.sum t visible) row (sym (is.row t) ∙ find_is term_cmp t view.rows.map.entries ∙ found)

rows_shown : (f : Term → Row) (rs : List Entry) → T (is_sorted term_cmp rs) → ((t : Term) (row : Row) → find term_cmp t rs ≡ Some row → f t ≡ row) → map (λ t. shown t (f t)) (map (λ e. e.0) rs) ≡ map shown_entry rs
rows_shown f [] h each = refl
rows_shown f (r ∷ rs) h each =
    ap₂ (λ x xs. shown r.0 x ∷ xs) (each r.0 r.1 (ap (λ b. cond b (Some r.1) (find term_cmp r.0 rs)) (tied_where_same r.0 r.0 refl)))
    (rows_shown f rs (second (below_all term_cmp r.0 rs) _ h) (λ t row found. each t row (found_later term_cmp_total t r rs row h found)))

view_is : (view : View) (visible : Visible) → IsViewOf view visible → tree.IsOrdered term_cmp view.rows.map → map shown_entry view.rows.map.entries ≡ view_in (definition_of view) visible
view_is view visible is ordered =
    sym (rows_shown (λ t. row_of view.group view.sum t visible) view.rows.map.entries (sorted_is term_cmp view.rows.map.entries ordered) (row_there view visible is))
    ∙ ap (map (λ t. shown t (row_of view.group view.sum t visible))) (groups_are view visible is ordered)

rows_past : (p : Term → Bool) (rs : List Entry) → map shown_entry (filter (λ e. p e.0) rs) ≡ filter (λ r. p r.0) (map shown_entry rs)
rows_past p [] = refl
rows_past p (r ∷ rs) = elim (p r.0) as (λ b. map shown_entry (cond b (r ∷ filter (λ e. p e.0) rs) (filter (λ e. p e.0) rs)) ≡ cond b (shown_entry r ∷ filter (λ r. p r.0) (map shown_entry rs)) (filter (λ r. p r.0) (map shown_entry rs))) [
  | true ↦ ap (λ xs. shown_entry r ∷ xs) (rows_past p rs)
  | false ↦ rows_past p rs
]

and-yes : (b : Bool) → (b && true) ≡ b
and-yes true = refl
and-yes false = refl

between_is : (after : Option Term) (rs : List Entry) → entries_between term_cmp (start_of after) Unbounded rs ≡ filter (λ e. is_after_term after e.0) rs
between_is None [] = refl
between_is None (r ∷ rs) = ap (λ xs. r ∷ xs) (between_is None rs)
between_is (Some t) [] = refl
between_is (Some t) (r ∷ rs) = ap₂ (λ b xs. cond b (r ∷ xs) xs) (and-yes (is_lt (term_cmp t r.0))) (between_is (Some t) rs)

-- a page of the kept rows is a page of the view
pub rows_page_is : (view : View) (visible : Visible) (after : Option Term) (rows : List (Term × ℕ × ℤ × Option (ℤ × ℤ))) (more : Bool) → IsViewOf view visible → tree.IsOrdered term_cmp view.rows.map →
    IsPageOf (map shown_entry (entries_between term_cmp (start_of after) Unbounded view.rows.map.entries)) rows more →
    ◌≡◌ {A = List (Term × ℕ × ℤ × Option (ℤ × ℤ)) × Bool} (rows, more) (page_of (filter (λ r. is_after_term after r.0) (view_in (definition_of view) visible)))
rows_page_is view visible after rows more is ordered page =
    let all = ap (map shown_entry) (between_is after view.rows.map.entries) ∙ rows_past (is_after_term after) view.rows.map.entries ∙ ap (filter (λ r. is_after_term after r.0)) (view_is view visible is ordered) in
    let one = page.first ∙ ap (take 1000) all in
    let two = page.left ∙ ap (λ xs. nat_lt 1000 (length xs)) all in
    λ i. (one i, two i)

-- whether a walk gives one more
pub first_left : (rest : List Entry) (given : Option (Bor Term × Bor Row)) (left : List Entry) → TakesFirst deref_pair rest given left → is_some given ≡ nat_lt 0 (length (map shown_entry rest))
first_left rest None left h = sym (ap (λ xs. nat_lt 0 (length (map shown_entry xs))) h.0)
first_left rest (Some x) left h = sym (ap (λ xs. nat_lt 0 (length (map shown_entry xs))) h ∙ lt-ltb 0 (suc (length (map shown_entry left))) (omega arith))
