-- The kept marks of an index are its places.
use Rattle.std.proofs.Common.{◌≡◌, ℕ, ◌+◌, suc, zero, nat_lt, Bool, true, false, not, T, ◌&&◌, cond, if◌then◌else◌, List, [], ◌∷◌, map, filter, filter_map, length, take, ◌++◌, append-nil, Option, Some, None, is_some, option_map, refl, sym, ap, ap₂, ◌∙◌, subst, true≢false, arith, Ordering, Less, Equal, Greater}
use Rattle.std.specs.BTreeMap as tree
use Rattle.std.specs.BTreeMap.Range.{entries_between}
use Rattle.std.specs.declared.ops.Bound.TheVariants.{Excluded, Unbounded}
use Rattle.std.proofs.lemmas.List.Elements.{filter_map-append}
use Rattle.std.specs.Map.{keys_of, lookup}
use Rattle.std.specs.List.{AllByRecursion, cons_option}
use Rattle.std.specs.List.Sorted.{IsStrictlySortedBy}
use Rattle.std.specs.Option.{option_cmp}
use Rattle.std.specs.Ordering.{eq_by_cmp, is_eq, is_gt, is_lt, ordering_then, ordering_reverse}
use Rattle.std.specs.Cmp.{tied_itself}
use Rattle.std.specs.FinMap.{entries, entries_sorted, find, from_entries, get-entries, get-from_entries, is_sorted}
use Rattle.std.specs.FinMap.Entries.{below_all, same_entries}
use Rattle.mvd_docs.specs.Document.{term_of}
use Rattle.mvd_docs.specs.Term.{term_cmp}
use Rattle.mvd_docs.specs.declared.term.Term.{Term}
use Rattle.mvd_docs.proofs.TermOrder.{term_cmp_total}
use Rattle.mvd_keys.specs.Place.{place_cmp}
use Rattle.mvd_keys.specs.State.{Text}
use Rattle.mvd_keys.specs.declared.places.Place.{Place}
use Rattle.mvd_keys.proofs.PlaceOrder.{place_total, place_antisymmetric}
use Rattle.mvd_rows.specs.Answers.{page_of, place_at, place_of, places_in}
use Rattle.mvd_rows.specs.Marks.{mark_cmp, marks_total, spot_cmp, spots_total}
use Rattle.mvd_rows.specs.Names.{Field}
use Rattle.mvd_rows.specs.Pages.{IsPageOf, is_past, mark_of, place_of_mark, place_with, up_to}
use Rattle.mvd_rows.specs.Stands.{IsIndexOf, is_in_some, is_place, is_place_at}
use Rattle.mvd_rows.specs.Views.{is_term}
use Rattle.mvd_rows.specs.Visible.{Visible}
use Rattle.mvd_rows.specs.declared.index.Index.{Index}
use Rattle.mvd_rows.specs.declared.marks.Mark.{Mark}
use Rattle.mvd_rows.specs.declared.marks.Spot.{Spot}
use Rattle.mvd_rows.proofs.Grouped.{is_eq-then}
use Rattle.mvd_rows.proofs.Sorted.{both, first, none_below, second}

abbrev Entry : Type 0
Entry = Mark × Unit {0}

abbrev spot_of : Place → Spot
spot_of p = record { key = p.key; dot = p.dot }

abbrev tagged : Option Place → Option (Place × Unit {0})
tagged o = option_map (λ p. (p, tt)) o

-- the places of marks
abbrev placed : List Entry → List (Place × Unit {0})
placed es = filter_map (λ e. tagged (place_of_mark e.0)) es

and-no : (b : Bool) → (b && false) ≡ false
and-no true = refl
and-no false = refl

-- ---- in order

below_by : (x : Mark) (s : Spot) (y : Mark) (o : Option Spot) (rest : List (Place × Unit {0})) → y.spot ≡ o → x.spot ≡ Some s → mark_cmp x y ≡ Less →
    T (below_all place_cmp (place_at s x.term) rest) → T (below_all place_cmp (place_at s x.term) (cons_option (tagged (place_with y.term o)) rest))
below_by x s y None rest e f less h = h
below_by x s y (Some t) rest e f less h =
    both _ _ (subst (λ r. T (is_lt r)) (sym (ap₂ (λ a b. ordering_then (term_cmp x.term y.term) (option_cmp spot_cmp a b)) (sym f) (sym e) ∙ less)) tt) h

placed_below : (x : Mark) (s : Spot) (es : List Entry) → x.spot ≡ Some s → AllByRecursion (λ y. mark_cmp x y ≡ Less) (keys_of es) → T (below_all place_cmp (place_at s x.term) (placed es))
placed_below x s [] f h = tt
placed_below x s (e ∷ es) f h = below_by x s e.0 e.0.spot (placed es) refl f h.0 (placed_below x s es f h.1)

sorted_by : (x : Mark) (o : Option Spot) (rest : List (Place × Unit {0})) → x.spot ≡ o → ((s : Spot) → x.spot ≡ Some s → T (below_all place_cmp (place_at s x.term) rest)) → T (is_sorted place_cmp rest) →
    T (is_sorted place_cmp (cons_option (tagged (place_with x.term o)) rest))
sorted_by x None rest e below h = h
sorted_by x (Some s) rest e below h = both _ _ (below s e) h

placed_sorted : (es : List Entry) → IsStrictlySortedBy mark_cmp (keys_of es) → T (is_sorted place_cmp (placed es))
unfolding IsStrictlySortedBy
placed_sorted [] h = tt
placed_sorted (e ∷ es) h = sorted_by e.0 e.0.spot (placed es) refl (λ s f. placed_below e.0 s es f h.0) (placed_sorted es h.1)

-- ---- what stands there

find_by : (p : Place) (term : Term) (o : Option Spot) (rest : List (Place × Unit {0})) (found : Option (Unit {0})) → find place_cmp p rest ≡ found →
    find place_cmp p (cons_option (tagged (place_with term o)) rest) ≡ cond (is_eq (ordering_then (term_cmp p.term term) (option_cmp spot_cmp (Some (spot_of p)) o))) (Some tt) found
find_by p term None rest found ih = ih ∙ sym (ap (λ b. cond b (Some tt) found) (is_eq-then (term_cmp p.term term) Greater ∙ and-no (is_eq (term_cmp p.term term))))
find_by p term (Some s) rest found ih = ap (λ o. cond (eq_by_cmp place_cmp p (place_at s term)) (Some tt) o) ih

find_placed : (p : Place) (es : List Entry) → find place_cmp p (placed es) ≡ lookup (tree.is_at (mark_cmp (mark_of p))) es
find_placed p [] = refl
find_placed p (e ∷ es) = find_by p e.0.term e.0.spot (placed es) _ (find_placed p es)

abbrev marked : Bool → Option (Unit {0})
marked b = if b then Some tt else None

placed_by : (p : Place) (s : Spot) (d : Text) (rest : List (Place × Unit {0})) (later : Option Text) (field : Field) (o : Option Term) → term_of field d ≡ o →
    find place_cmp p rest ≡ marked (is_in_some field p.term later) → (eq_by_cmp spot_cmp (spot_of p) s ≡ true → later ≡ None) →
    find place_cmp p (cons_option (option_map (λ term. (place_at s term, tt)) o) rest) ≡ marked (is_in_some field p.term (cond (eq_by_cmp spot_cmp (spot_of p) s) (Some d) later))
placed_by p s d rest later field None has ih none =
    ih ∙ elim (eq_by_cmp spot_cmp (spot_of p) s) as (λ b. (b ≡ true → later ≡ None) → marked (is_in_some field p.term later) ≡ marked (is_in_some field p.term (cond b (Some d) later))) [
      | true ↦ λ n. ap (λ o. marked (is_in_some field p.term o)) (n refl) ∙ sym (ap (λ o. marked (is_term p.term o)) has)
      | false ↦ λ _. refl
    ] none
placed_by p s d rest later field (Some u) has ih none =
    ap₂ (λ b o. cond b (Some tt) o) (is_eq-then (term_cmp p.term u) (spot_cmp (spot_of p) s)) ih
    ∙ elim (eq_by_cmp spot_cmp (spot_of p) s) as (λ b. (b ≡ true → later ≡ None) → cond (eq_by_cmp term_cmp p.term u && b) (Some tt) (marked (is_in_some field p.term later)) ≡ marked (is_in_some field p.term (cond b (Some d) later))) [
      | true ↦ λ n. ap (λ o. cond (eq_by_cmp term_cmp p.term u && true) (Some tt) (marked (is_in_some field p.term o))) (n refl)
          ∙ elim (eq_by_cmp term_cmp p.term u) as (λ b. cond (b && true) (Some tt) None ≡ marked b) [ true ↦ refl | false ↦ refl ]
          ∙ sym (ap (λ o. marked (is_term p.term o)) has)
      | false ↦ λ _. ap (λ b. cond b (Some tt) (marked (is_in_some field p.term later))) (and-no (eq_by_cmp term_cmp p.term u))
    ] none

find_places : (field : Field) (p : Place) (es : List (Spot × Text)) → T (is_sorted spot_cmp es) → find place_cmp p (filter_map (place_of field) es) ≡ marked (is_in_some field p.term (find spot_cmp (spot_of p) es))
find_places field p [] sorted = refl
find_places field p (e ∷ es) sorted =
    placed_by p e.0 e.1 (filter_map (place_of field) es) (find spot_cmp (spot_of p) es) field (term_of field e.1) refl (find_places field p es (second (below_all spot_cmp e.0 es) _ sorted))
    (λ tied. none_below spots_total (spot_of p) e.0 es tied (first _ _ sorted))

-- the kept marks are the places, in order
pub placed_are : (index : Index) (visible : Visible) → IsIndexOf index visible → tree.IsOrdered mark_cmp index.places.map → map (λ e. e.0) (placed index.places.map.entries) ≡ places_in index.field visible
unfolding places_in is_place
placed_are index visible is ordered =
    ap (map (λ e. e.0)) (same_entries place_cmp place_total place_antisymmetric (placed index.places.map.entries) (entries (from_entries (filter_map (place_of index.field) (entries visible))))
    (placed_sorted index.places.map.entries ordered) (entries_sorted (from_entries (filter_map (place_of index.field) (entries visible))))
    (λ p. find_placed p index.places.map.entries ∙ is.at (mark_of p)
    ∙ ap (λ o. marked (is_in_some index.field p.term o)) (get-entries visible (spot_of p))
    ∙ sym (find_places index.field p (entries visible) (entries_sorted visible))
    ∙ sym (get-from_entries place_total (filter_map (place_of index.field) (entries visible)) p) ∙ get-entries (from_entries (filter_map (place_of index.field) (entries visible))) p))

-- ---- a page of them

some_later : (b : Bool) (o : Option (Unit {0})) → is_some o ≡ true → is_some (cond b (Some tt) o) ≡ true
some_later true o h = refl
some_later false o h = h

all_spotted : (es : List Entry) → ((m : Mark) → is_some (lookup (tree.is_at (mark_cmp m)) es) ≡ true → is_some m.spot ≡ true) → AllByRecursion (λ e. is_some e.0.spot ≡ true) es
all_spotted [] h = tt
all_spotted (e ∷ es) h = (
  h e.0 (ap (λ r. is_some (cond (is_eq r) (Some tt) (lookup (tree.is_at (mark_cmp e.0)) es))) (tied_itself marks_total e.0)),
  all_spotted es (λ m found. h m (some_later (is_eq (mark_cmp m e.0)) (lookup (tree.is_at (mark_cmp m)) es) found)),
)

place_spotted : (field : Field) (visible : Visible) (m : Mark) → is_some (marked (is_place field visible m)) ≡ true → is_some m.spot ≡ true
unfolding is_place
place_spotted field visible m h = elim m.spot as (λ o. is_some (marked (is_place_at field m.term o visible)) ≡ true → is_some o ≡ true) [
  | None ↦ λ k. k
  | Some s ↦ λ _. refl
] h

greater_is : (r : Ordering) → is_gt r ≡ true → r ≡ Greater
greater_is Less h = absurd (true≢false (sym h))
greater_is Equal h = absurd (true≢false (sym h))
greater_is Greater h = refl

not_less : ◌≡◌ {A = Ordering} Greater Less → ⊥
not_less e = true≢false (sym (ap is_lt e))

-- beyond a term all later ones are
beyond_by : (a y to : Term) (r c : Ordering) → term_cmp a y ≡ r → ordering_then r c ≡ Less → is_gt (term_cmp a to) ≡ true → is_gt (term_cmp y to) ≡ true
beyond_by a y to Less c e less gt =
    let before : term_cmp to a ≡ Less = term_cmp_total.antisymm to a ∙ ap ordering_reverse (greater_is (term_cmp a to) gt) in
    ap is_gt (term_cmp_total.antisymm y to ∙ ap ordering_reverse (term_cmp_total.trans to a y before e))
beyond_by a y to Equal c e less gt = ap is_gt (sym (term_cmp_total.congr a y to e)) ∙ gt
beyond_by a y to Greater c e less gt = absurd (not_less less)

abbrev within : Mark → Term → Entry → Bool
within start to e = (is_lt (mark_cmp start e.0) && not false) && not (is_gt (term_cmp e.0.term to))

none_beyond : (start : Mark) (to : Term) (x : Mark) (es : List Entry) → AllByRecursion (λ y. mark_cmp x y ≡ Less) (keys_of es) → is_gt (term_cmp x.term to) ≡ true → filter (within start to) es ≡ []
none_beyond start to x [] h gt = refl
none_beyond start to x (e ∷ es) h gt =
    ap (λ b. cond ((is_lt (mark_cmp start e.0) && not false) && not b) (e ∷ filter (within start to) es) (filter (within start to) es)) (beyond_by x.term e.0.term to (term_cmp x.term e.0.term) _ refl h.0 gt)
    ∙ ap (λ b. cond b (e ∷ filter (within start to) es) (filter (within start to) es)) (and-no (is_lt (mark_cmp start e.0) && not false))
    ∙ none_beyond start to x es h.1 gt

up_to_within : (start : Mark) (to : Term) (es : List Entry) → IsStrictlySortedBy mark_cmp (keys_of es) →
    up_to to (filter (λ e. is_lt (mark_cmp start e.0) && not false) es) ≡ map (λ e. e.0) (filter (within start to) es)
unfolding IsStrictlySortedBy
up_to_within start to [] h = refl
up_to_within start to (e ∷ es) h =
    let rest = up_to_within start to es h.1 in
    elim (is_lt (mark_cmp start e.0) && not false) as (λ a. up_to to (cond a (e ∷ filter (λ e. is_lt (mark_cmp start e.0) && not false) es) (filter (λ e. is_lt (mark_cmp start e.0) && not false) es))
    ≡ map (λ e. e.0) (cond (a && not (is_gt (term_cmp e.0.term to))) (e ∷ filter (within start to) es) (filter (within start to) es))) [
      | true ↦ elim (is_gt (term_cmp e.0.term to)) as (λ g. is_gt (term_cmp e.0.term to) ≡ g → (if g then [] else e.0 ∷ up_to to (filter (λ e. is_lt (mark_cmp start e.0) && not false) es)) ≡ map (λ e. e.0) (cond (not g) (e ∷ filter (within start to) es) (filter (within start to) es))) [
        | true ↦ λ gt. sym (ap (map (λ e. e.0)) (none_beyond start to e.0 es h.0 gt))
        | false ↦ λ _. ap (λ ms. e.0 ∷ ms) rest
      ] refl
      | false ↦ rest
    ]

abbrev wanted : Mark → Term → Place → Bool
wanted start to p = is_past start p && not (is_gt (term_cmp p.term to))

and-yes : (b : Bool) → (b && true) ≡ b
and-yes true = refl
and-yes false = refl

pages_by : (start : Mark) (to term : Term) (o : Option Spot) (ms : List Mark) (ps : List (Place × Unit {0})) → filter_map place_of_mark ms ≡ filter (wanted start to) (map (λ e. e.0) ps) →
    filter_map place_of_mark (cond ((is_lt (ordering_then (term_cmp start.term term) (option_cmp spot_cmp start.spot o)) && true) && not (is_gt (term_cmp term to))) (record { term = term; spot = o } ∷ ms) ms)
    ≡ filter (wanted start to) (map (λ e. e.0) (cons_option (tagged (place_with term o)) ps))
pages_by start to term None ms ps ih = elim ((is_lt (ordering_then (term_cmp start.term term) (option_cmp spot_cmp start.spot None)) && true) && not (is_gt (term_cmp term to))) as (λ b.
    filter_map place_of_mark (cond b (record { term = term; spot = None } ∷ ms) ms) ≡ filter (wanted start to) (map (λ e. e.0) ps)) [ true ↦ ih | false ↦ ih ]
pages_by start to term (Some s) ms ps ih =
    let l = is_lt (ordering_then (term_cmp start.term term) (option_cmp spot_cmp start.spot (Some s))) in
    ap (λ b. filter_map place_of_mark (cond (b && not (is_gt (term_cmp term to))) (record { term = term; spot = Some s } ∷ ms) ms)) (and-yes l)
    ∙ elim (l && not (is_gt (term_cmp term to))) as (λ b. filter_map place_of_mark (cond b (record { term = term; spot = Some s } ∷ ms) ms) ≡ cond b (place_at s term ∷ filter (wanted start to) (map (λ e. e.0) ps)) (filter (wanted start to) (map (λ e. e.0) ps))) [
      | true ↦ ap (λ xs. place_at s term ∷ xs) ih
      | false ↦ ih
    ]

pages : (start : Mark) (to : Term) (es : List Entry) → filter_map place_of_mark (map (λ e. e.0) (filter (within start to) es)) ≡ filter (wanted start to) (map (λ e. e.0) (placed es))
pages start to [] = refl
pages start to (e ∷ es) =
    elim (within start to e) as (λ b. filter_map place_of_mark (map (λ e. e.0) (cond b (e ∷ filter (within start to) es) (filter (within start to) es))) ≡ filter_map place_of_mark (cond b (e.0 ∷ map (λ e. e.0) (filter (within start to) es)) (map (λ e. e.0) (filter (within start to) es)))) [ true ↦ refl | false ↦ refl ]
    ∙ pages_by start to e.0.term e.0.spot (map (λ e. e.0) (filter (within start to) es)) (placed es) (pages start to es)

-- of marks that all have a spot there are as many places
all_filtered : (t : Entry → Bool) (es : List Entry) → AllByRecursion (λ e. is_some e.0.spot ≡ true) es → AllByRecursion (λ m. is_some m.spot ≡ true) (map (λ e. e.0) (filter t es))
all_filtered t [] h = tt
all_filtered t (e ∷ es) h = elim (t e) as (λ b. AllByRecursion (λ m. is_some m.spot ≡ true) (map (λ e. e.0) (cond b (e ∷ filter t es) (filter t es)))) [ true ↦ (h.0, all_filtered t es h.1) | false ↦ all_filtered t es h.1 ]

length_by : (term : Term) (o : Option Spot) (n : ℕ) (ps : List Place) → is_some o ≡ true → length ps ≡ n → length (cons_option (place_with term o) ps) ≡ 1 + n
length_by term None n ps h e = absurd (true≢false (sym h))
length_by term (Some s) n ps h e = omega arith

as_many : (ms : List Mark) → AllByRecursion (λ m. is_some m.spot ≡ true) ms → length (filter_map place_of_mark ms) ≡ length ms
as_many [] h = refl
as_many (m ∷ ms) h = length_by m.term m.spot (length ms) (filter_map place_of_mark ms) h.0 (as_many ms h.1) ∙ (let e : length (m ∷ ms) ≡ 1 + length ms = omega arith in sym e)

take_by : (term : Term) (o : Option Spot) (n : ℕ) (taken ps : List Place) → is_some o ≡ true → taken ≡ take n ps → cons_option (place_with term o) taken ≡ take (suc n) (cons_option (place_with term o) ps)
take_by term None n taken ps h e = absurd (true≢false (sym h))
take_by term (Some s) n taken ps h e = ap (λ xs. place_at s term ∷ xs) e

take_places : (n : ℕ) (ms : List Mark) → AllByRecursion (λ m. is_some m.spot ≡ true) ms → filter_map place_of_mark (take n ms) ≡ take n (filter_map place_of_mark ms)
take_places zero ms h = refl
take_places (suc n) [] h = refl
take_places (suc n) (m ∷ ms) h = take_by m.term m.spot n (filter_map place_of_mark (take n ms)) (filter_map place_of_mark ms) h.0 (take_places n ms h.1)

all_taken : (n : ℕ) (ms : List Mark) → AllByRecursion (λ m. is_some m.spot ≡ true) ms → AllByRecursion (λ m. is_some m.spot ≡ true) (take n ms)
all_taken zero ms h = tt
all_taken (suc n) [] h = tt
all_taken (suc n) (m ∷ ms) h = (h.0, all_taken n ms h.1)

-- the places of a page of marks are as many as the marks
pub page_as_long : (index : Index) (visible : Visible) (start : Mark) (to : Term) (marks : List Mark) (places : List Place) (more : Bool) → IsIndexOf index visible → tree.IsOrdered mark_cmp index.places.map →
    IsPageOf (up_to to (entries_between mark_cmp (Excluded start) Unbounded index.places.map.entries)) marks more → places ≡ filter_map place_of_mark marks →
    length places ≡ length marks
page_as_long index visible start to marks places more is ordered page made =
    let es = index.places.map.entries in
    let ms = map (λ e. e.0) (filter (within start to) es) in
    let have : AllByRecursion (λ m. is_some m.spot ≡ true) ms = all_filtered (within start to) es (all_spotted es (λ m found. place_spotted index.field visible m (sym (ap is_some (is.at m)) ∙ found))) in
    let first : marks ≡ take 1000 ms = page.first ∙ ap (take 1000) (up_to_within start to es ordered) in
    ap length (made ∙ ap (filter_map place_of_mark) first) ∙ as_many (take 1000 ms) (all_taken 1000 ms have) ∙ sym (ap length first)

-- the places of a page of marks are a page of the places
pub page_is : (index : Index) (visible : Visible) (start : Mark) (to : Term) (marks : List Mark) (places : List Place) (more : Bool) → IsIndexOf index visible → tree.IsOrdered mark_cmp index.places.map →
    IsPageOf (up_to to (entries_between mark_cmp (Excluded start) Unbounded index.places.map.entries)) marks more → places ≡ filter_map place_of_mark marks →
    ◌≡◌ {A = List Place × Bool} (places, more) (page_of (filter (wanted start to) (places_in index.field visible)))
page_is index visible start to marks places more is ordered page made =
    let es = index.places.map.entries in
    let ms = map (λ e. e.0) (filter (within start to) es) in
    let have : AllByRecursion (λ m. is_some m.spot ≡ true) ms = all_filtered (within start to) es (all_spotted es (λ m found. place_spotted index.field visible m (sym (ap is_some (is.at m)) ∙ found))) in
    let all = up_to_within start to es ordered in
    let aim = pages start to es ∙ ap (filter (wanted start to)) (placed_are index visible is ordered) in
    let one : places ≡ take 1000 (filter (wanted start to) (places_in index.field visible)) =
    made ∙ ap (filter_map place_of_mark) (page.first ∙ ap (take 1000) all) ∙ take_places 1000 ms have ∙ ap (take 1000) aim in
    let two : more ≡ nat_lt 1000 (length (filter (wanted start to) (places_in index.field visible))) =
    page.left ∙ ap (λ xs. nat_lt 1000 (length xs)) all ∙ ap (nat_lt 1000) (sym (as_many ms have) ∙ ap length aim) in
    λ i. (one i, two i)

-- ---- the places of marks, one by one

pub one_more_place : (ms : List Mark) (ps : List Place) (m : Mark) (s : Spot) → ps ≡ filter_map place_of_mark ms → m.spot ≡ Some s → ps ++ place_at s m.term ∷ [] ≡ filter_map place_of_mark (ms ++ m ∷ [])
one_more_place ms ps m s e f = ap (λ xs. xs ++ place_at s m.term ∷ []) e ∙ ap (λ o. filter_map place_of_mark ms ++ cons_option (place_with m.term o) []) (sym f) ∙ sym (filter_map-append place_of_mark ms (m ∷ []))

pub no_more_place : (ms : List Mark) (ps : List Place) (m : Mark) → ps ≡ filter_map place_of_mark ms → m.spot ≡ None → ps ≡ filter_map place_of_mark (ms ++ m ∷ [])
no_more_place ms ps m e f = e ∙ sym (append-nil (filter_map place_of_mark ms)) ∙ ap (λ o. filter_map place_of_mark ms ++ cons_option (place_with m.term o) []) (sym f) ∙ sym (filter_map-append place_of_mark ms (m ∷ []))
