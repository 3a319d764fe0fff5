-- That a join leaves the first state: what is merged so far is always the front of the first list.
use Rattle.std.proofs.Common.{◌≡◌, ℕ, zero, suc, ◌+◌, ◌<◌, ◌≤◌, ◌⊎◌, Bool, true, false, not, ◌&&◌, cond, List, [], ◌∷◌, ◌++◌, length, filter, take, drop, get_or, Ok, refl, sym, ap, ap₂, ◌∙◌}
use Rattle.std.proofs.lemmas.Bool.{or_right}
use Rattle.std.proofs.lemmas.List.{append-nil, drop_more, take_more, take-append-drop}
use Rattle.std.specs.declared.cmp.Ordering.TheVariants.{Less, Equal, Greater}
use Rattle.std.specs.List.{list_all}
use Rattle.std.specs.FinSet.{contains, union, contains-union}
use Rattle.mvd_dots.specs.Dot.{DotValue, dot_cmp}
use Rattle.mvd_dots.specs.Context.{DotSet}
use Rattle.mvd_dots.proofs.Sets.{dot_total}
use Rattle.mvd_keys.specs.declared.siblings.Sibling.{Sibling}
use Rattle.mvd_keys.specs.State.{AreParts, join_answer, pairs_of, state_of}
use Rattle.mvd_keys.proofs.Lists.{and_true}
use Rattle.mvd_keys.proofs.Merging.{IsJoined, Merging, first_step, second_step, both_step, last_step}
use Rattle.mvd_keys.proofs.Parts.{joined_parts, joined_siblings, join_answers, not_clashing, tests_of_parts}

all_drop : (p : Sibling → Bool) (ss : List Sibling) (j : ℕ) → list_all p ss ≡ true → list_all p (drop j ss) ≡ true
all_drop p ss zero all = all
all_drop p [] (suc j) all = refl
all_drop p (s ∷ ss) (suc j) all = all_drop p ss j (and_true _ _ all).1

-- siblings that stand outside are all kept
kept_whole : (dots : DotSet) (ss : List Sibling) → list_all (λ s. not (contains dots s.dot)) ss ≡ true → filter (λ s. not (contains dots s.dot)) ss ≡ ss
kept_whole dots [] all = refl
kept_whole dots (s ∷ ss) all =
    let parts = and_true _ _ all in
    ap (λ b. cond b (s ∷ filter (λ s. not (contains dots s.dot)) ss) (filter (λ s. not (contains dots s.dot)) ss)) parts.0 ∙ ap (λ rest. s ∷ rest) (kept_whole dots ss parts.1)

-- and of siblings that have been seen, none
kept_none : (dots : DotSet) (ss : List Sibling) → list_all (λ s. contains dots s.dot) ss ≡ true → filter (λ s. not (contains dots s.dot)) ss ≡ []
kept_none dots [] all = refl
kept_none dots (s ∷ ss) all =
    let parts = and_true _ _ all in
    ap (λ b. cond (not b) (s ∷ filter (λ s. not (contains dots s.dot)) ss) (filter (λ s. not (contains dots s.dot)) ss)) parts.0 ∙ kept_none dots ss parts.1

seen_too : (seen also_seen : DotSet) (q : DotValue) → union seen also_seen ≡ seen → contains also_seen q ≡ true → contains seen q ≡ true
seen_too seen also_seen q is h = ap (λ dots. contains dots q) (sym is) ∙ contains-union dot_total seen also_seen q ∙ or_right _ _ h

all_seen_too : (seen also_seen : DotSet) (ss : List Sibling) → union seen also_seen ≡ seen → list_all (λ s. contains also_seen s.dot) ss ≡ true → list_all (λ s. contains seen s.dot) ss ≡ true
all_seen_too seen also_seen [] is all = refl
all_seen_too seen also_seen (s ∷ ss) is all =
    let parts = and_true _ _ all in
    ap₂ (λ a b. a && b) (seen_too seen also_seen s.dot is parts.0) (all_seen_too seen also_seen ss is parts.1)

module _ (seen also_seen : DotSet) (first second : List Sibling) (left : AreParts first seen) (right : AreParts second also_seen) (is : union seen also_seen ≡ seen) where
  all_seen : list_all (λ s. contains seen s.dot) second ≡ true
  all_seen = all_seen_too seen also_seen second is (tests_of_parts also_seen second right)

  module _ (i j : ℕ) (x y : Sibling) (p : i < length first) (r : j < length second) (x_is : x ≡ get_or first i x) (y_is : y ≡ get_or second j y)
      (m : Merging seen also_seen (pairs_of first) (pairs_of second) (pairs_of (take i first)) (pairs_of (drop i first)) (pairs_of (drop j second))) where
    front : take (i + 1) first ≡ take i first ++ x ∷ []
    front = take_more first i x p ∙ ap (λ s. take i first ++ s ∷ []) (sym x_is)

    seen_here : contains seen y.dot ≡ true
    seen_here = (and_true _ _ (sym (ap (list_all (λ s. contains seen s.dot)) (drop_more second j y r ∙ ap (λ s. s ∷ drop (j + 1) second) (sym y_is))) ∙ all_drop (λ s. contains seen s.dot) second j all_seen)).0

    pub unseen_stays : dot_cmp x.dot y.dot ≡ Less → contains also_seen x.dot ≡ false → Merging seen also_seen (pairs_of first) (pairs_of second) (pairs_of (take (i + 1) first)) (pairs_of (drop (i + 1) first)) (pairs_of (drop j second))
    unseen_stays less outside =
        first_step seen also_seen first second (take i first) (take (i + 1) first) i j x y p r x_is y_is m less
        (front ∙ sym (ap (λ b. take i first ++ cond (not b) (x ∷ []) []) outside))

    pub seen_passes : dot_cmp x.dot y.dot ≡ Greater → Merging seen also_seen (pairs_of first) (pairs_of second) (pairs_of (take i first)) (pairs_of (drop i first)) (pairs_of (drop (j + 1) second))
    seen_passes greater =
        second_step seen also_seen first second (take i first) (take i first) i j x y p r x_is y_is m greater
        (sym (ap (λ b. take i first ++ cond (not b) (y ∷ []) []) seen_here ∙ append-nil (take i first)))

    pub both_stay : dot_cmp x.dot y.dot ≡ Equal → x.document ≡ y.document → Merging seen also_seen (pairs_of first) (pairs_of second) (pairs_of (take (i + 1) first)) (pairs_of (drop (i + 1) first)) (pairs_of (drop (j + 1) second))
    both_stay equal same = both_step seen also_seen first second (take i first) (take (i + 1) first) i j x y p r x_is y_is m equal same front

  pub stays_whole : (i j : ℕ) → (length first ≤ i) ⊎ (length second ≤ j) → Merging seen also_seen (pairs_of first) (pairs_of second) (pairs_of (take i first)) (pairs_of (drop i first)) (pairs_of (drop j second))
      → list_all (λ s. not (contains also_seen s.dot)) (drop i first) ≡ true → join_answer (state_of first seen) (state_of second also_seen) ≡ Ok (state_of first seen)
  stays_whole i j used m rest =
      let joined : IsJoined seen also_seen (pairs_of first) (pairs_of second) (pairs_of first)
      = last_step seen also_seen first second (take i first) first first i j used m
      (sym (ap (λ ss. take i first ++ ss) (kept_whole also_seen (drop i first) rest) ∙ take-append-drop i first))
      (sym (ap (λ ss. first ++ ss) (kept_none seen (drop j second) (all_drop (λ s. contains seen s.dot) second j all_seen)) ∙ append-nil first)) in
      join_answers (state_of first seen) (state_of second also_seen) (state_of first seen)
      (not_clashing first second seen also_seen joined.apart)
      (joined_parts (state_of first seen) (state_of second also_seen) first seen left.valid right.valid left.rising (joined_siblings first second seen also_seen first joined) (sym is)).1
