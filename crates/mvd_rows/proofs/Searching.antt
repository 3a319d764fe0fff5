-- What a binary search finds among siblings whose dots rise.
use Rattle.std.proofs.Common.{◌≡◌, ℕ, zero, suc, ◌+◌, ◌<◌, ◌≤◌, true, false, T, ◌⊎◌, inl, inr, cond, List, [], ◌∷◌, length, get_or, Some, None, refl, sym, ap, ◌∙◌, arith, Ordering, Less, Equal, Greater}
use Rattle.std.proofs.lemmas.Bool.{cases_eq}
use Rattle.std.specs.Ordering.{eq_by_cmp, is_eq, is_lt, ordering_reverse}
use Rattle.std.specs.FinMap.{find, is_sorted}
use Rattle.std.specs.FinMap.Entries.{below_all}
use Rattle.mvd_dots.specs.Dot.{dot_cmp, DotValue}
use Rattle.mvd_dots.proofs.Sets.{dot_total}
use Rattle.mvd_keys.specs.State.{pair_of, pairs_of}
use Rattle.mvd_keys.specs.declared.siblings.Sibling.{Sibling}
use Rattle.mvd_rows.specs.Changes.{is_among, is_document}
use Rattle.mvd_rows.proofs.Sorted.{first, found_later, second}

less_is : (r : Ordering) → T (is_lt r) → r ≡ Less
less_is Less h = refl
less_is Equal h = absurd h
less_is Greater h = absurd h

below_at : (x : DotValue) (ss : List Sibling) (k : ℕ) (d : Sibling) → T (below_all dot_cmp x (pairs_of ss)) → k < length ss → dot_cmp x (get_or ss k d).dot ≡ Less
below_at x [] k d h within = absurd (omega arith)
below_at x (s ∷ ss) zero d h within = less_is _ (first _ _ h)
below_at x (s ∷ ss) (suc k) d h within = below_at x ss k d (second (is_lt (dot_cmp x s.dot)) _ h) (omega arith)

pub sorted_at : (ss : List Sibling) (i j : ℕ) (d : Sibling) → T (is_sorted dot_cmp (pairs_of ss)) → i < j → j < length ss → dot_cmp (get_or ss i d).dot (get_or ss j d).dot ≡ Less
sorted_at [] i j d h before within = absurd (omega arith)
sorted_at (s ∷ ss) i zero d h before within = absurd (omega arith)
sorted_at (s ∷ ss) zero (suc j) d h before within = below_at s.dot ss j d (first _ _ h) (omega arith)
sorted_at (s ∷ ss) (suc i) (suc j) d h before within = sorted_at ss i j d (second (below_all dot_cmp s.dot (pairs_of ss)) _ h) (omega arith) (omega arith)

find_at : (ss : List Sibling) (i : ℕ) (d : Sibling) (q : DotValue) → T (is_sorted dot_cmp (pairs_of ss)) → i < length ss → eq_by_cmp dot_cmp q (get_or ss i d).dot ≡ true → find dot_cmp q (pairs_of ss) ≡ Some (get_or ss i d).document
find_at [] i d q h within tied = absurd (omega arith)
find_at (s ∷ ss) zero d q h within tied = ap (λ b. cond b (Some s.document) (find dot_cmp q (pairs_of ss))) tied
find_at (s ∷ ss) (suc i) d q h within tied =
    found_later dot_total q (pair_of s) (pairs_of ss) (get_or ss i d).document h (find_at ss i d q (second (below_all dot_cmp s.dot (pairs_of ss)) _ h) (omega arith) tied)

find_nowhere : (ss : List Sibling) (q : DotValue) → ((k : ℕ) (d : Sibling) → k < length ss → eq_by_cmp dot_cmp q (get_or ss k d).dot ≡ false) → find dot_cmp q (pairs_of ss) ≡ None
find_nowhere [] q h = refl
find_nowhere (s ∷ ss) q h =
    ap (λ b. cond b (Some s.document) (find dot_cmp q (pairs_of ss))) (h zero s (omega arith)) ∙ find_nowhere ss q (λ k d within. h (suc k) d (omega arith))

-- ---- a search between two places

abbrev pub AllBelow : List Sibling → DotValue → ℕ → Type 0
AllBelow ss q low = (k : ℕ) (d : Sibling) → k < low → dot_cmp (get_or ss k d).dot q ≡ Less

abbrev pub AllAbove : List Sibling → DotValue → ℕ → Type 0
AllAbove ss q high = (k : ℕ) (d : Sibling) → high ≤ k → k < length ss → dot_cmp (get_or ss k d).dot q ≡ Greater

same_at : (ss : List Sibling) (i : ℕ) (d e : Sibling) → i < length ss → get_or ss i d ≡ get_or ss i e
same_at [] i d e within = absurd (omega arith)
same_at (s ∷ ss) zero d e within = refl
same_at (s ∷ ss) (suc i) d e within = same_at ss i d e (omega arith)

pub below_more : (ss : List Sibling) (q : DotValue) (middle : ℕ) (x : Sibling) → T (is_sorted dot_cmp (pairs_of ss)) → middle < length ss → x ≡ get_or ss middle x → dot_cmp x.dot q ≡ Less → AllBelow ss q (middle + 1)
below_more ss q middle x sorted within is less k d before =
    let at : dot_cmp (get_or ss middle d).dot q ≡ Less = ap (λ (s : Sibling). dot_cmp s.dot q) (same_at ss middle d x within ∙ sym is) ∙ less in
    elim (cases_eq k middle) [
      | inl e ↦ ap (λ i. dot_cmp (get_or ss i d).dot q) e ∙ at
      | inr apart ↦ dot_total.trans (get_or ss k d).dot (get_or ss middle d).dot q (sorted_at ss k middle d sorted (let n = apart in omega arith) within) at
    ]

pub above_more : (ss : List Sibling) (q : DotValue) (middle : ℕ) (x : Sibling) → T (is_sorted dot_cmp (pairs_of ss)) → middle < length ss → x ≡ get_or ss middle x → dot_cmp x.dot q ≡ Greater → AllAbove ss q middle
above_more ss q middle x sorted within is greater k d from inside =
    let at : dot_cmp (get_or ss middle d).dot q ≡ Greater = ap (λ (s : Sibling). dot_cmp s.dot q) (same_at ss middle d x within ∙ sym is) ∙ greater in
    elim (cases_eq k middle) [
      | inl e ↦ ap (λ i. dot_cmp (get_or ss i d).dot q) e ∙ at
      | inr apart ↦
          let turned : dot_cmp q (get_or ss middle d).dot ≡ Less = dot_total.antisymm q (get_or ss middle d).dot ∙ ap ordering_reverse at in
          let later = dot_total.trans q (get_or ss middle d).dot (get_or ss k d).dot turned (sorted_at ss middle k d sorted (let n = apart in omega arith) inside) in
          dot_total.antisymm (get_or ss k d).dot q ∙ ap ordering_reverse later
    ]

-- the dot is there
pub among_at : (ss : List Sibling) (e : Sibling) (middle : ℕ) (x : Sibling) → T (is_sorted dot_cmp (pairs_of ss)) → middle < length ss → x ≡ get_or ss middle x → dot_cmp x.dot e.dot ≡ Equal → is_among (pairs_of ss) (pair_of e) ≡ is_document e.document (Some x.document)
among_at ss e middle x sorted within is tied =
    ap (is_document e.document) (find_at ss middle x e.dot sorted within (ap is_eq (dot_total.antisymm e.dot (get_or ss middle x).dot ∙ ap ordering_reverse (ap (λ (s : Sibling). dot_cmp s.dot e.dot) (sym is) ∙ tied)))
    ∙ ap (λ (s : Sibling). Some s.document) (sym is))

apart_less : (a q : DotValue) → dot_cmp a q ≡ Less → eq_by_cmp dot_cmp q a ≡ false
apart_less a q h = ap is_eq (dot_total.antisymm q a ∙ ap ordering_reverse h)

apart_greater : (a q : DotValue) → dot_cmp a q ≡ Greater → eq_by_cmp dot_cmp q a ≡ false
apart_greater a q h = ap is_eq (dot_total.antisymm q a ∙ ap ordering_reverse h)

side : (k low : ℕ) → (k < low) ⊎ (low ≤ k)
side zero zero = inr (omega arith)
side zero (suc low) = inl (omega arith)
side (suc k) zero = inr (omega arith)
side (suc k) (suc low) = elim (side k low) [ inl h ↦ inl (omega arith) | inr h ↦ inr (omega arith) ]

-- the dot is nowhere
pub among_none : (ss : List Sibling) (e : Sibling) (low high : ℕ) → high ≤ low → AllBelow ss e.dot low → AllAbove ss e.dot high → is_among (pairs_of ss) (pair_of e) ≡ false
among_none ss e low high met below above = ap (is_document e.document) (find_nowhere ss e.dot (λ k d within.
    elim (side k low) [ inl h ↦ apart_less (get_or ss k d).dot e.dot (below k d h) | inr h ↦ apart_greater (get_or ss k d).dot e.dot (above k d (omega arith) within) ]))
