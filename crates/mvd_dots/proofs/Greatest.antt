-- The greatest counter of a site in a set.
use Rattle.std.proofs.Common.{◌≡◌, ℕ, ◌+◌, ◌<◌, ◌≤◌, ◌^◌, max, Bool, true, false, ◌||◌, ◌==◌, cond, List, [], ◌∷◌, ◌++◌, inl, inr, refl, sym, ap, ap₂, ◌∙◌, arith, true≢false, eq-eqb, eqb-true, le_antisymm}
use Rattle.std.proofs.lemmas.Bool.{cases_lt, or_left, or_right}
use Rattle.std.proofs.lemmas.List.Folds.{list_any-append}
use Rattle.std.specs.List.{list_any}
use Rattle.std.specs.Ordering.{eq_by_cmp}
use Rattle.std.specs.FinSet as set
use Rattle.mvd_dots.specs.Dot.{DotValue, dot_cmp}
use Rattle.mvd_dots.specs.Context.{DotSet, HoldsDot, AreInRange, greatest, greatest_of}
use Rattle.mvd_dots.proofs.Sets.{dot, dot_total, same_dot, tied_dot}

or-true : (a : Bool) → (a || true) ≡ true
or-true true = refl
or-true false = refl

le-greatest_of : (site : ℕ) (ds : List DotValue) (q : DotValue) → list_any (eq_by_cmp dot_cmp q) ds ≡ true → q.site ≡ site → q.counter ≤ greatest_of site ds
le-greatest_of site [] q h own = absurd (true≢false (sym h))
le-greatest_of site (d ∷ ds) q h own =
    elim (eq_by_cmp dot_cmp q d) as (λ t. eq_by_cmp dot_cmp q d ≡ t → (t || list_any (eq_by_cmp dot_cmp q) ds) ≡ true → q.counter ≤ greatest_of site (d ∷ ds)) [
      | true ↦ λ tied _. let one : q ≡ d = same_dot q d tied in
          let here : (d.site == site) ≡ true = eq-eqb d.site site (sym (ap (λ (x : DotValue). x.site) one) ∙ own) in
          let count : q.counter ≡ d.counter = ap (λ (x : DotValue). x.counter) one in
          rw here (omega arith)
      | false ↦ λ _ later. let ih : q.counter ≤ greatest_of site ds = le-greatest_of site ds q later own in
          elim (d.site == site) as (λ b. q.counter ≤ cond b (max d.counter (greatest_of site ds)) (greatest_of site ds)) [ true ↦ omega arith | false ↦ ih ]
    ] refl h

greatest_of-mono : (site : ℕ) (ds es : List DotValue) → ((q : DotValue) → list_any (eq_by_cmp dot_cmp q) ds ≡ true → list_any (eq_by_cmp dot_cmp q) es ≡ true) → greatest_of site ds ≤ greatest_of site es
greatest_of-mono site [] es part = omega arith
greatest_of-mono site (d ∷ ds) es part =
    let ih : greatest_of site ds ≤ greatest_of site es = greatest_of-mono site ds es (λ q h. part q (ap (λ b. eq_by_cmp dot_cmp q d || b) h ∙ or-true _)) in
    elim (d.site == site) as (λ b. (d.site == site) ≡ b → cond b (max d.counter (greatest_of site ds)) (greatest_of site ds) ≤ greatest_of site es) [
      | true ↦ λ own. let here : d.counter ≤ greatest_of site es = le-greatest_of site es d (part d (ap (λ b. b || list_any (eq_by_cmp dot_cmp d) ds) (tied_dot d))) (eqb-true d.site site own) in omega arith
      | false ↦ λ _. ih
    ] refl

pub greatest_of-same : (site : ℕ) (ds es : List DotValue) → ((q : DotValue) → list_any (eq_by_cmp dot_cmp q) ds ≡ list_any (eq_by_cmp dot_cmp q) es) → greatest_of site ds ≡ greatest_of site es
greatest_of-same site ds es same = le_antisymm (greatest_of-mono site ds es (λ q h. sym (same q) ∙ h)) (greatest_of-mono site es ds (λ q h. same q ∙ h))

greatest_of-bound : (site m : ℕ) (ds : List DotValue) → ((q : DotValue) → list_any (eq_by_cmp dot_cmp q) ds ≡ true → q.site ≡ site → q.counter ≤ m) → greatest_of site ds ≤ m
greatest_of-bound site m [] h = omega arith
greatest_of-bound site m (d ∷ ds) h =
    let ih : greatest_of site ds ≤ m = greatest_of-bound site m ds (λ q later own. h q (ap (λ b. eq_by_cmp dot_cmp q d || b) later ∙ or-true _) own) in
    elim (d.site == site) as (λ b. (d.site == site) ≡ b → cond b (max d.counter (greatest_of site ds)) (greatest_of site ds) ≤ m) [
      | true ↦ λ own. let here : d.counter ≤ m = h d (ap (λ b. b || list_any (eq_by_cmp dot_cmp d) ds) (tied_dot d)) (eqb-true d.site site own) in omega arith
      | false ↦ λ _. ih
    ] refl

-- a bound on the counters of the site that is one of them, or 0, is the greatest
pub greatest_is : (s : DotSet) (site m : ℕ) → ((n : ℕ) → HoldsDot s site n → n ≤ m) → (0 < m → HoldsDot s site m) → m ≡ greatest site s
unfolding greatest
greatest_is s site m bound attained =
    let high : greatest_of site (set.items s) ≤ m =
    greatest_of-bound site m (set.items s) (λ q among own. bound q.counter (ap (λ n. set.contains s (dot n q.counter)) (sym own) ∙ set.contains-items s q ∙ among)) in
    let low : m ≤ greatest_of site (set.items s) =
    elim (cases_lt 0 m) [
      | inl some ↦ le-greatest_of site (set.items s) (dot site m) (sym (set.contains-items s (dot site m)) ∙ attained some) refl
      | inr none ↦ omega arith
    ] in
    le_antisymm low high

greatest_of-append : (site : ℕ) (ds es : List DotValue) → greatest_of site (ds ++ es) ≡ max (greatest_of site ds) (greatest_of site es)
greatest_of-append site [] es = omega arith
greatest_of-append site (d ∷ ds) es =
    let ih : greatest_of site (ds ++ es) ≡ max (greatest_of site ds) (greatest_of site es) = greatest_of-append site ds es in
    elim (d.site == site) as (λ b. cond b (max d.counter (greatest_of site (ds ++ es))) (greatest_of site (ds ++ es)) ≡ max (cond b (max d.counter (greatest_of site ds)) (greatest_of site ds)) (greatest_of site es)) [ true ↦ omega arith | false ↦ ih ]

pub greatest-union : (site : ℕ) (s t : DotSet) → greatest site (set.union s t) ≡ max (greatest site s) (greatest site t)
unfolding greatest
greatest-union site s t =
    greatest_of-same site (set.items (set.union s t)) (set.items s ++ set.items t) (λ q.
    sym (set.contains-items (set.union s t) q) ∙ set.contains-union dot_total s t q
    ∙ ap₂ (λ a b. a || b) (set.contains-items s q) (set.contains-items t q) ∙ sym (list_any-append (eq_by_cmp dot_cmp q) (set.items s) (set.items t)))
    ∙ greatest_of-append site (set.items s) (set.items t)

greatest_of-attained : (site : ℕ) (ds : List DotValue) → 0 < greatest_of site ds → list_any (eq_by_cmp dot_cmp (dot site (greatest_of site ds))) ds ≡ true
greatest_of-attained site [] some = absurd (omega arith)
greatest_of-attained site (d ∷ ds) some =
    let rest = greatest_of site ds in
    let later : (m : ℕ) → m ≡ rest → 0 < m → list_any (eq_by_cmp dot_cmp (dot site m)) (d ∷ ds) ≡ true
    = λ m is low. ap (λ k. list_any (eq_by_cmp dot_cmp (dot site k)) (d ∷ ds)) is ∙ or_right _ _ (greatest_of-attained site ds (omega arith)) in
    elim (d.site == site) as (λ b. (d.site == site) ≡ b → 0 < cond b (max d.counter rest) rest → list_any (eq_by_cmp dot_cmp (dot site (cond b (max d.counter rest) rest))) (d ∷ ds) ≡ true) [
      | true ↦ λ own low. elim (cases_lt d.counter rest) [
        | inl less ↦ later (max d.counter rest) (omega arith) low
        | inr more ↦
            let sites : site ≡ d.site = sym (eqb-true d.site site own) in
            let counters : max d.counter rest ≡ d.counter = omega arith in
            let one : dot site (max d.counter rest) ≡ d = λ i. record { site = sites i; counter = counters i } in
            or_left _ _ (ap (λ x. eq_by_cmp dot_cmp x d) one ∙ tied_dot d)
      ]
      | false ↦ λ _ low. later rest refl low
    ] refl some

-- it bounds the counters of the site, and is one of them or 0
pub greatest_bounds : (s : DotSet) (site n : ℕ) → HoldsDot s site n → n ≤ greatest site s
unfolding greatest
greatest_bounds s site n h = le-greatest_of site (set.items s) (dot site n) (sym (set.contains-items s (dot site n)) ∙ h) refl

pub greatest_attained : (s : DotSet) (site : ℕ) → 0 < greatest site s → HoldsDot s site (greatest site s)
unfolding greatest
greatest_attained s site some = set.contains-items s (dot site (greatest_of site (set.items s))) ∙ greatest_of-attained site (set.items s) some

-- no dot above the greatest is in the set
pub unseen_above : (s : DotSet) (q : DotValue) → greatest q.site s + 1 ≤ q.counter → set.contains s q ≡ false
unfolding greatest
unseen_above s q above = elim (set.contains s q) as (λ b. set.contains s q ≡ b → b ≡ false) [
  | true ↦ λ has. let low : q.counter ≤ greatest_of q.site (set.items s) = le-greatest_of q.site (set.items s) q (sym (set.contains-items s q) ∙ has) refl in absurd (omega arith)
  | false ↦ λ _. refl
] refl
