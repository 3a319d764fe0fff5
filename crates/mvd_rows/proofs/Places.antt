-- The places of an index, as a sibling comes or goes.
use Rattle.std.proofs.Common.{◌≡◌, Bool, true, false, ◌&&◌, cond, if◌then◌else◌, Option, Some, None, refl, sym, ap, ap₂, ◌∙◌, Ordering, Less, Equal, Greater}
use Rattle.std.specs.Ordering.{eq_by_cmp, is_eq, ordering_then}
use Rattle.std.specs.Cmp.{eq_by_cmp_equiv, Equal-is}
use Rattle.std.specs.BTreeMap as tree
use Rattle.std.specs.FinMap.{get, insert, remove, get-insert, get-remove}
use Rattle.mvd_keys.specs.State.{Text}
use Rattle.mvd_rows.specs.Names.{Field}
use Rattle.mvd_docs.specs.declared.term.Term.{Term}
use Rattle.mvd_rows.specs.declared.marks.Spot.{Spot}
use Rattle.mvd_docs.specs.Document.{term_of}
use Rattle.mvd_rows.specs.Marks.{spot_cmp, spots_total, spots_exact}
use Rattle.mvd_docs.specs.Term.{term_cmp}
use Rattle.mvd_docs.proofs.TermOrder.{term_cmp_total}
use Rattle.mvd_rows.specs.Becomes.{Becomes}
use Rattle.mvd_rows.specs.Marks.{mark_cmp}
use Rattle.mvd_rows.specs.Stands.{IsIndexOf, is_place, is_place_at, is_in_some}
use Rattle.mvd_rows.specs.Views.{has_term, is_term}
use Rattle.mvd_rows.specs.Visible.{Visible}
use Rattle.mvd_rows.specs.declared.index.Index.{Index}
use Rattle.mvd_rows.specs.declared.marks.Mark.{Mark}

is_eq-then : (a b : Ordering) → is_eq (ordering_then a b) ≡ (is_eq a && is_eq b)
is_eq-then Less b = refl
is_eq-then Equal b = refl
is_eq-then Greater b = refl

pub spot_tied : (a b : Spot) → eq_by_cmp spot_cmp a b ≡ true → a ≡ b
spot_tied a b tied = spots_exact a b ((Equal-is (spot_cmp a b)).0 tied)

abbrev pub mark : Term → Spot → Mark
mark term spot = record { term = term; spot = Some spot }

abbrev marked : Bool → Option (Unit {0})
marked b = if b then Some tt else None

and-no : (b : Bool) → (b && false) ≡ false
and-no true = refl
and-no false = refl

same_mark : (a b : Term) (s t : Spot) → is_eq (mark_cmp (mark a s) (mark b t)) ≡ (eq_by_cmp term_cmp b a && eq_by_cmp spot_cmp t s)
same_mark a b s t =
    is_eq-then (term_cmp a b) (spot_cmp s t)
    ∙ ap₂ (λ x y. x && y) ((eq_by_cmp_equiv term_cmp_total).symm a b) ((eq_by_cmp_equiv spots_total).symm s t)

-- ---- one sibling comes

comes_at : (t s : Bool) (before : Bool) → (s ≡ true → before ≡ false) → cond (t && s) (Some tt) (marked before) ≡ marked (cond s t before)
comes_at true true before fresh = refl
comes_at true false before fresh = refl
comes_at false true before fresh = ap marked (fresh refl)
comes_at false false before fresh = refl

pub is_place-insert : (field : Field) (visible : Visible) (spot : Spot) (document : Text) (term : Term) (other : Spot) →
    is_place_at field term (Some other) (insert visible spot document) ≡ cond (eq_by_cmp spot_cmp other spot) (has_term field term document) (is_place_at field term (Some other) visible)
is_place-insert field visible spot document term other =
    ap (is_in_some field term) (get-insert spots_total visible spot document other)
    ∙ elim (eq_by_cmp spot_cmp other spot) as (λ b. is_in_some field term (cond b (Some document) (get visible other)) ≡ cond b (has_term field term document) (is_in_some field term (get visible other))) [ true ↦ refl | false ↦ refl ]

place_comes_at : (field : Field) (visible : Visible) (spot : Spot) (document : Text) (term : Term) → term_of field document ≡ Some term → get visible spot ≡ None →
    (group : Term) (at : Option Spot) →
    cond (is_eq (mark_cmp (mark term spot) (record { term = group; spot = at }))) (Some tt) (marked (is_place_at field group at visible)) ≡ marked (is_place_at field group at (insert visible spot document))
place_comes_at field visible spot document term has fresh group None =
    ap (λ b. cond b (Some tt) None) (is_eq-then (term_cmp term group) Greater ∙ and-no (is_eq (term_cmp term group)))
place_comes_at field visible spot document term has fresh group (Some other) =
    let before = is_place_at field group (Some other) visible in
    ap (λ b. cond b (Some tt) (marked before)) (same_mark term group spot other)
    ∙ comes_at (eq_by_cmp term_cmp group term) (eq_by_cmp spot_cmp other spot) before
    (λ tied. ap (λ s. is_in_some field group (get visible s)) (spot_tied other spot tied) ∙ ap (is_in_some field group) fresh)
    ∙ sym (ap marked (is_place-insert field visible spot document group other ∙ ap (λ o. cond (eq_by_cmp spot_cmp other spot) (is_term group o) before) has))

pub place_comes : (old new : Index) (visible : Visible) (spot : Spot) (document : Text) (term : Term) → IsIndexOf old visible → get visible spot ≡ None →
    term_of old.field document ≡ Some term → new.field ≡ old.field → Becomes mark_cmp old.places.map new.places.map (mark term spot) (Some tt) → IsIndexOf new (insert visible spot document)
unfolding is_place
place_comes old new visible spot document term is fresh has same updates = record {
  at = λ m.
      updates.at m ∙ ap (cond (is_eq (mark_cmp (mark term spot) m)) (Some tt)) (is.at m)
      ∙ place_comes_at old.field visible spot document term has fresh m.term m.spot
      ∙ ap (λ (f : Field). marked (is_place_at f m.term m.spot (insert visible spot document))) (sym same);
}

kept_at : (s before : Bool) → (s ≡ true → before ≡ false) → before ≡ cond s false before
kept_at true before none = none refl
kept_at false before none = refl

nothing_comes_at : (field : Field) (visible : Visible) (spot : Spot) (document : Text) → get visible spot ≡ None → term_of field document ≡ None →
    (group : Term) (at : Option Spot) → is_place_at field group at visible ≡ is_place_at field group at (insert visible spot document)
nothing_comes_at field visible spot document fresh has group None = refl
nothing_comes_at field visible spot document fresh has group (Some other) =
    kept_at (eq_by_cmp spot_cmp other spot) (is_place_at field group (Some other) visible)
    (λ tied. ap (λ s. is_in_some field group (get visible s)) (spot_tied other spot tied) ∙ ap (is_in_some field group) fresh)
    ∙ sym (is_place-insert field visible spot document group other ∙ ap (λ o. cond (eq_by_cmp spot_cmp other spot) (is_term group o) (is_place_at field group (Some other) visible)) has)

pub nothing_comes : (old new : Index) (visible : Visible) (spot : Spot) (document : Text) → IsIndexOf old visible → get visible spot ≡ None →
    term_of old.field document ≡ None → new ≡ old → IsIndexOf new (insert visible spot document)
unfolding is_place
nothing_comes old new visible spot document is fresh has same = record {
  at = λ m.
      ap (λ (x : Index). tree.get mark_cmp x.places.map m) same ∙ is.at m
      ∙ ap marked (nothing_comes_at old.field visible spot document fresh has m.term m.spot)
      ∙ ap (λ (x : Index). marked (is_place_at x.field m.term m.spot (insert visible spot document))) (sym same);
}

-- ---- one sibling goes

goes_at : (t s : Bool) (before : Bool) → (s ≡ true → before ≡ t) → cond (t && s) None (marked before) ≡ marked (cond s false before)
goes_at true true before was = refl
goes_at true false before was = refl
goes_at false true before was = ap marked (was refl)
goes_at false false before was = refl

is_place-remove : (field : Field) (visible : Visible) (spot : Spot) (term : Term) (other : Spot) →
    is_place_at field term (Some other) (remove visible spot) ≡ cond (eq_by_cmp spot_cmp other spot) false (is_place_at field term (Some other) visible)
is_place-remove field visible spot term other =
    ap (is_in_some field term) (get-remove spots_total visible spot other)
    ∙ elim (eq_by_cmp spot_cmp other spot) as (λ b. is_in_some field term (cond b None (get visible other)) ≡ cond b false (is_in_some field term (get visible other))) [ true ↦ refl | false ↦ refl ]

place_goes_at : (field : Field) (visible : Visible) (spot : Spot) (document : Text) (term : Term) → term_of field document ≡ Some term → get visible spot ≡ Some document →
    (group : Term) (at : Option Spot) →
    cond (is_eq (mark_cmp (mark term spot) (record { term = group; spot = at }))) None (marked (is_place_at field group at visible)) ≡ marked (is_place_at field group at (remove visible spot))
place_goes_at field visible spot document term has here group None =
    ap (λ b. cond b None None) (is_eq-then (term_cmp term group) Greater ∙ and-no (is_eq (term_cmp term group)))
place_goes_at field visible spot document term has here group (Some other) =
    let before = is_place_at field group (Some other) visible in
    ap (λ b. cond b None (marked before)) (same_mark term group spot other)
    ∙ goes_at (eq_by_cmp term_cmp group term) (eq_by_cmp spot_cmp other spot) before
    (λ tied. ap (λ s. is_in_some field group (get visible s)) (spot_tied other spot tied) ∙ ap (is_in_some field group) here ∙ ap (is_term group) has)
    ∙ sym (ap marked (is_place-remove field visible spot group other))

pub place_goes : (old new : Index) (visible : Visible) (spot : Spot) (document : Text) (term : Term) → IsIndexOf old visible → get visible spot ≡ Some document →
    term_of old.field document ≡ Some term → new.field ≡ old.field → Becomes mark_cmp old.places.map new.places.map (mark term spot) None → IsIndexOf new (remove visible spot)
unfolding is_place
place_goes old new visible spot document term is here has same updates = record {
  at = λ m.
      updates.at m ∙ ap (cond (is_eq (mark_cmp (mark term spot) m)) None) (is.at m)
      ∙ place_goes_at old.field visible spot document term has here m.term m.spot
      ∙ ap (λ (f : Field). marked (is_place_at f m.term m.spot (remove visible spot))) (sym same);
}

nothing_goes_at : (field : Field) (visible : Visible) (spot : Spot) (document : Text) → get visible spot ≡ Some document → term_of field document ≡ None →
    (group : Term) (at : Option Spot) → is_place_at field group at visible ≡ is_place_at field group at (remove visible spot)
nothing_goes_at field visible spot document here has group None = refl
nothing_goes_at field visible spot document here has group (Some other) =
    kept_at (eq_by_cmp spot_cmp other spot) (is_place_at field group (Some other) visible)
    (λ tied. ap (λ s. is_in_some field group (get visible s)) (spot_tied other spot tied) ∙ ap (is_in_some field group) here ∙ ap (is_term group) has)
    ∙ sym (is_place-remove field visible spot group other)

pub nothing_goes : (old new : Index) (visible : Visible) (spot : Spot) (document : Text) → IsIndexOf old visible → get visible spot ≡ Some document →
    term_of old.field document ≡ None → new ≡ old → IsIndexOf new (remove visible spot)
unfolding is_place
nothing_goes old new visible spot document is here has same = record {
  at = λ m.
      ap (λ (x : Index). tree.get mark_cmp x.places.map m) same ∙ is.at m
      ∙ ap marked (nothing_goes_at old.field visible spot document here has m.term m.spot)
      ∙ ap (λ (x : Index). marked (is_place_at x.field m.term m.spot (remove visible spot))) (sym same);
}
