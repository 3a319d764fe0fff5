-- Where a join leaves the first state, a merge of the two meets no sibling that it would drop, and no two documents under one dot.
use Rattle.std.proofs.Common.{◌≡◌, ℕ, ◌+◌, ◌<◌, ◌≤◌, ◌⊎◌, inl, inr, Bool, true, false, not, ◌&&◌, T, cond, if◌then◌else◌, List, [], ◌∷◌, ◌++◌, length, take, drop, get_or, Result, Ok, Err, Some, None, refl, sym, ap, ap₂, ◌∙◌, subst, true≢false}
use Rattle.std.proofs.lemmas.List.{drop_all, drop_more, map-append, take-append-drop}
use Rattle.std.specs.declared.cmp.Ordering.TheVariants.{Less, Equal}
use Rattle.std.specs.Ordering.{eq_by_cmp}
use Rattle.std.specs.Option.{option_or}
use Rattle.std.specs.Str.{bytes_eq}
use Rattle.std.specs.List.{list_all}
use Rattle.std.specs.FinMap.{find, get, get-from_entries, is_sorted}
use Rattle.std.specs.FinSet.{contains, union}
use Rattle.mvd_dots.specs.Dot.{DotValue, dot_cmp}
use Rattle.mvd_dots.specs.Context.{DotSet}
use Rattle.mvd_dots.specs.declared.refusals.Refusal.{Refusal}
use Rattle.mvd_dots.specs.declared.refusals.Refusal.TheVariants.{DotClash}
use Rattle.mvd_dots.proofs.Sets.{dot_total}
use Rattle.mvd_keys.specs.declared.siblings.Sibling.{Sibling}
use Rattle.mvd_keys.specs.State.{State, Text, clashes, differ, join, join_answer, pair_of, pairs_of, state_of}
use Rattle.mvd_keys.proofs.Joins.{apart_at}
use Rattle.mvd_keys.proofs.Lists.{tied_itself_dot}
use Rattle.mvd_keys.proofs.Merging.{Merging, differ_here}
use Rattle.mvd_keys.proofs.Rising.{Crosses, Pair, below_rest, first_true, none_found, second_true}
use Rattle.mvd_keys.proofs.StatesOfWrites.{find_both, get-join, join_at}

-- what is found in the rest is not found in what is done
none_in_front : (q : DotValue) (d : Text) (done rest : List Pair) → Crosses done rest → find dot_cmp q rest ≡ Some d → find dot_cmp q done ≡ None
none_in_front q d [] rest cross found = refl
none_in_front q d (e ∷ es) rest cross found =
    elim (eq_by_cmp dot_cmp q e.0) as (λ b. eq_by_cmp dot_cmp q e.0 ≡ b → cond b (Some e.1) (find dot_cmp q es) ≡ None) [
      | true ↦ λ tied. let none : find dot_cmp q rest ≡ None = none_found q e.0 rest tied cross.0 in cc
      | false ↦ λ _. none_in_front q d es rest cross.1 found
    ] refl

unseen_kept : (c e : Bool) (d : Text) → join_at (Some d) c None e ≡ Some d → e ≡ false
unseen_kept true true d is = cc
unseen_kept false true d is = cc
unseen_kept c false d is = refl

answered_ok : (b : Bool) (u v : State) → ◌≡◌ {A = Result State Refusal} (if b then Err DotClash else Ok u) (Ok v) → (b ≡ false) × (u ≡ v)
answered_ok true u v is = cc
answered_ok false u v is = (refl, cc)

all_outside : (dots : DotSet) (rest : List Sibling) → T (is_sorted dot_cmp (pairs_of rest)) → ((q : DotValue) (d : Text) → find dot_cmp q (pairs_of rest) ≡ Some d → contains dots q ≡ false) →
    list_all (λ s. not (contains dots s.dot)) rest ≡ true
all_outside dots [] rises outside = refl
all_outside dots (s ∷ rest) rises outside =
    let here : contains dots s.dot ≡ false = outside s.dot s.document (ap (λ b. cond b (Some s.document) (find dot_cmp s.dot (pairs_of rest))) (tied_itself_dot s.dot)) in
    let later : (q : DotValue) (d : Text) → find dot_cmp q (pairs_of rest) ≡ Some d → contains dots q ≡ false =
    λ q d found. outside q d (elim (eq_by_cmp dot_cmp q s.dot) as (λ b. eq_by_cmp dot_cmp q s.dot ≡ b → cond b (Some s.document) (find dot_cmp q (pairs_of rest)) ≡ Some d) [
      | true ↦ λ tied. let none : find dot_cmp q (pairs_of rest) ≡ None = none_found q s.dot (pairs_of rest) tied (first_true _ _ rises) in cc
      | false ↦ λ _. found
    ] refl) in
    ap₂ (λ a b. not a && b) here (all_outside dots rest (second_true _ _ rises) later)

module _ (seen also_seen : DotSet) (first second : List Sibling) (is : join_answer (state_of first seen) (state_of second also_seen) ≡ Ok (state_of first seen)) where
  both : (clashes (state_of first seen) (state_of second also_seen) ≡ false) × (join (state_of first seen) (state_of second also_seen) ≡ state_of first seen)
  both = answered_ok (clashes (state_of first seen) (state_of second also_seen)) _ _ is

  pub one_context : union seen also_seen ≡ seen
  unfolding join
  one_context = ap (λ (s : State). s.context) both.1

  found_in : (ss : List Sibling) (dots : DotSet) (q : DotValue) → get (state_of ss dots).siblings q ≡ find dot_cmp q (pairs_of ss)
  found_in ss dots q = get-from_entries dot_total (pairs_of ss) q

  kept : (q : DotValue) → join_at (find dot_cmp q (pairs_of first)) (contains seen q) (find dot_cmp q (pairs_of second)) (contains also_seen q) ≡ find dot_cmp q (pairs_of first)
  kept q =
      sym (ap₂ (λ f g. join_at f (contains seen q) g (contains also_seen q)) (found_in first seen q) (found_in second also_seen q))
      ∙ sym (get-join (state_of first seen) (state_of second also_seen) q)
      ∙ ap (λ (s : State). get s.siblings q) both.1
      ∙ found_in first seen q

  module _ (i j : ℕ) (m : Merging seen also_seen (pairs_of first) (pairs_of second) (pairs_of (take i first)) (pairs_of (drop i first)) (pairs_of (drop j second))) where
    outside : (q : DotValue) (d : Text) → find dot_cmp q (pairs_of (drop i first)) ≡ Some d → find dot_cmp q (pairs_of (drop j second)) ≡ None → contains also_seen q ≡ false
    outside q d here there =
        let none : find dot_cmp q (pairs_of (take i first)) ≡ None = none_in_front q d (pairs_of (take i first)) (pairs_of (drop i first)) m.left.cross here in
        let parts : pairs_of first ≡ pairs_of (take i first) ++ pairs_of (drop i first) = ap pairs_of (sym (take-append-drop i first)) ∙ map-append pair_of (take i first) (drop i first) in
        let found : find dot_cmp q (pairs_of first) ≡ Some d =
        ap (find dot_cmp q) parts ∙ find_both q (pairs_of (take i first)) (pairs_of (drop i first)) ∙ ap (λ o. option_or o (find dot_cmp q (pairs_of (drop i first)))) none ∙ here in
        unseen_kept (contains seen q) (contains also_seen q) d
        (sym (λ k. option_or (none k) (join_at (here k) (contains seen q) (there k) (contains also_seen q))) ∙ m.at q ∙ kept q ∙ found)

    pub all_unseen : (length first ≤ i) ⊎ (length second ≤ j) → list_all (λ s. not (contains also_seen s.dot)) (drop i first) ≡ true
    all_unseen (inl e) = ap (list_all (λ (s : Sibling). not (contains also_seen s.dot))) (drop_all i first e)
    all_unseen (inr e) = all_outside also_seen (drop i first) m.left.rest_rises (λ q d found. outside q d found (ap (λ ss. find dot_cmp q (pairs_of ss)) (drop_all j second e)))

    module _ (x y : Sibling) (p : i < length first) (r : j < length second) (x_is : x ≡ get_or first i x) (y_is : y ≡ get_or second j y) where
      first_here : drop i first ≡ x ∷ drop (i + 1) first
      first_here = drop_more first i x p ∙ ap (λ s. s ∷ drop (i + 1) first) (sym x_is)

      second_here : drop j second ≡ y ∷ drop (j + 1) second
      second_here = drop_more second j y r ∙ ap (λ s. s ∷ drop (j + 1) second) (sym y_is)

      pub lesser_unseen : dot_cmp x.dot y.dot ≡ Less → contains also_seen x.dot ≡ false
      lesser_unseen less =
          outside x.dot x.document
          (ap (λ ss. find dot_cmp x.dot (pairs_of ss)) first_here ∙ ap (λ b. cond b (Some x.document) (find dot_cmp x.dot (pairs_of (drop (i + 1) first)))) (tied_itself_dot x.dot))
          (ap (λ ss. find dot_cmp x.dot (pairs_of ss)) second_here
          ∙ none_found x.dot x.dot (pairs_of (y ∷ drop (j + 1) second)) (tied_itself_dot x.dot)
          (below_rest (pair_of x) (pair_of y) (pairs_of (drop (j + 1) second)) less (subst (λ ss. T (is_sorted dot_cmp (pairs_of ss))) second_here m.right.rest_rises)))

      pub one_document : dot_cmp x.dot y.dot ≡ Equal → not (bytes_eq x.document y.document) ≡ false
      one_document equal =
          elim (not (bytes_eq x.document y.document)) as (λ b. not (bytes_eq x.document y.document) ≡ b → b ≡ false) [
            | true ↦ λ other. absurd (true≢false (
                sym (differ_here seen also_seen first second (take i first) (take i first) i j x y p r x_is y_is m equal other)
                ∙ sym (ap₂ differ (found_in first seen x.dot) (found_in second also_seen x.dot))
                ∙ apart_at (state_of first seen) (state_of second also_seen) both.0 x.dot))
            | false ↦ λ _. refl
          ] refl
