-- The members of the dots of entries, and that a set has one list of entries.
use Rattle.std.proofs.Common.{◌≡◌, ℕ, zero, suc, ◌+◌, ◌<◌, ◌≤◌, List, [], ◌∷◌, ◌++◌, refl, sym, ap, ◌∙◌, subst, ◌⊎◌, inl, inr, arith}
use Rattle.std.specs.FinSet as set
use Rattle.mvd_dots.specs.Entry.{EntryValue, RisesAbove, IsEntry, Among, HasCounter}
use Rattle.mvd_dots.specs.Context.{HoldsDot, AreEntriesAbove, AreEntries, dots_up_to, dots_at, entry_dots, set_of}
use Rattle.mvd_dots.proofs.Rising.{above_low, first_counter}
use Rattle.mvd_dots.proofs.Sets.{dot, empty_holds, holds_insert, insert_new, insert_old, holds_union, union_left, union_right, union_assoc, union_empty_left}

-- ---- members

pub holds_up_to : (site base i n : ℕ) → HoldsDot (dots_up_to site base) i n → (i ≡ site) × (0 < n) × (n ≤ base)
unfolding dots_up_to
holds_up_to site zero i n h = absurd (empty_holds i n h)
holds_up_to site (suc b) i n h =
    elim (holds_insert (dots_up_to site b) (dot site (suc b)) i n h) [
      | inl e ↦
          let sites : i ≡ site = ap (λ d. d.site) e in
          let counters : n ≡ suc b = ap (λ d. d.counter) e in
          (sites, omega arith, omega arith)
      | inr k ↦ let below = holds_up_to site b i n k in (below.0, below.1, omega (arith, below.2))
    ]

pub up_to_holds : (site base n : ℕ) → 0 < n → n ≤ base → HoldsDot (dots_up_to site base) site n
unfolding dots_up_to
up_to_holds site zero n low high = absurd (omega arith)
up_to_holds site (suc b) n low high =
    elim (Rattle.std.proofs.lemmas.Bool.cases_eq n (suc b)) [
      | inl e ↦ insert_new (dots_up_to site b) (dot site (suc b)) site n (ap (λ k. dot site k) e)
      | inr other ↦ insert_old (dots_up_to site b) (dot site (suc b)) site n (up_to_holds site b n low (omega arith))
    ]

pub holds_at : (site : ℕ) (ns : List ℕ) (i n : ℕ) → HoldsDot (dots_at site ns) i n → (i ≡ site) × Among ns n
unfolding dots_at
holds_at site [] i n h = absurd (empty_holds i n h)
holds_at site (x ∷ ns) i n h =
    elim (holds_insert (dots_at site ns) (dot site x) i n h) [
      | inl e ↦ (ap (λ d. d.site) e, inl (ap (λ d. d.counter) e))
      | inr k ↦ let rest = holds_at site ns i n k in (rest.0, inr rest.1)
    ]

pub at_holds : (site : ℕ) (ns : List ℕ) (n : ℕ) → Among ns n → HoldsDot (dots_at site ns) site n
unfolding dots_at
at_holds site [] n h = absurd h
at_holds site (x ∷ ns) n h =
    elim h [
      | inl e ↦ insert_new (dots_at site ns) (dot site x) site n (ap (λ k. dot site k) e)
      | inr k ↦ insert_old (dots_at site ns) (dot site x) site n (at_holds site ns n k)
    ]

pub holds_entry : (e : EntryValue) (i n : ℕ) → HoldsDot (entry_dots e) i n → (i ≡ e.site) × HasCounter e.base e.loose n
unfolding entry_dots
holds_entry e i n h =
    elim (holds_union (dots_up_to e.site e.base) (dots_at e.site e.loose) i n h) [
      | inl k ↦ let low = holds_up_to e.site e.base i n k in (low.0, inl (low.1, low.2))
      | inr k ↦ let high = holds_at e.site e.loose i n k in (high.0, inr high.1)
    ]

pub entry_holds : (e : EntryValue) (n : ℕ) → HasCounter e.base e.loose n → HoldsDot (entry_dots e) e.site n
unfolding entry_dots
entry_holds e n h =
    elim h [
      | inl k ↦ union_left (dots_up_to e.site e.base) (dots_at e.site e.loose) e.site n (up_to_holds e.site e.base n k.0 k.1)
      | inr k ↦ union_right (dots_up_to e.site e.base) (dots_at e.site e.loose) e.site n (at_holds e.site e.loose n k)
    ]

pub set_of-nil : set_of [] ≡ set.empty
unfolding set_of
set_of-nil = refl

pub set_of-cons : (e : EntryValue) (es : List EntryValue) → set_of (e ∷ es) ≡ set.union (entry_dots e) (set_of es)
unfolding set_of
set_of-cons e es = refl

pub set_of-append : (es fs : List EntryValue) → set_of (es ++ fs) ≡ set.union (set_of es) (set_of fs)
unfolding set_of
set_of-append [] fs = sym (union_empty_left (set_of fs))
set_of-append (e ∷ es) fs =
    ap (λ s. set.union (entry_dots e) s) (set_of-append es fs) ∙ sym (union_assoc (entry_dots e) (set_of es) (set_of fs))

pub holds_cons : (e : EntryValue) (es : List EntryValue) (i n : ℕ) → HoldsDot (set_of (e ∷ es)) i n → ((i ≡ e.site) × HasCounter e.base e.loose n) ⊎ HoldsDot (set_of es) i n
unfolding set_of
holds_cons e es i n h = elim (holds_union (entry_dots e) (set_of es) i n h) [ inl k ↦ inl (holds_entry e i n k) | inr k ↦ inr k ]

pub cons_first : (e : EntryValue) (es : List EntryValue) (n : ℕ) → HasCounter e.base e.loose n → HoldsDot (set_of (e ∷ es)) e.site n
unfolding set_of
cons_first e es n h = union_left (entry_dots e) (set_of es) e.site n (entry_holds e n h)

pub cons_rest : (e : EntryValue) (es : List EntryValue) (i n : ℕ) → HoldsDot (set_of es) i n → HoldsDot (set_of (e ∷ es)) i n
unfolding set_of
cons_rest e es i n h = union_right (entry_dots e) (set_of es) i n h

pub nil_holds : (i n : ℕ) → HoldsDot (set_of []) i n → ⊥
unfolding set_of
nil_holds i n h = empty_holds i n h

-- ---- bounds

pub site_above : (low : ℕ) (es : List EntryValue) (i n : ℕ) → AreEntriesAbove low es → HoldsDot (set_of es) i n → low < i
site_above low [] i n form h = absurd (nil_holds i n h)
site_above low (e ∷ es) i n form h =
    elim (holds_cons e es i n h) [
      | inl k ↦ omega (arith, form.0, k.0)
      | inr k ↦ omega (arith, form.0, site_above e.site es i n form.2 k)
    ]

-- ---- one list of entries for a set

pub rising_unique : (low : ℕ) (xs ys : List ℕ) → RisesAbove low xs → RisesAbove low ys → ((n : ℕ) → Among xs n → Among ys n) → ((n : ℕ) → Among ys n → Among xs n) → xs ≡ ys
rising_unique low [] [] p q there back = refl
rising_unique low [] (y ∷ ys) p q there back = absurd (back y (inl refl))
rising_unique low (x ∷ xs) [] p q there back = absurd (there x (inl refl))
rising_unique low (x ∷ xs) (y ∷ ys) p q there back =
    let down : y ≤ x = elim (there x (inl refl)) [ inl e ↦ omega arith | inr k ↦ omega (arith, above_low y ys x q.1 k) ] in
    let up : x ≤ y = elim (back y (inl refl)) [ inl e ↦ omega arith | inr k ↦ omega (arith, above_low x xs y p.1 k) ] in
    let heads : x ≡ y = omega arith in
    let tails : xs ≡ ys
    = rising_unique x xs ys p.1 (subst (λ k. RisesAbove k ys) (sym heads) q.1)
    (λ n h. elim (there n (inr h)) [ inl e ↦ absurd (omega (arith, above_low x xs n p.1 h)) | inr k ↦ k ])
    (λ n h. elim (back n (inr h)) [ inl e ↦ absurd (omega (arith, above_low y ys n q.1 h)) | inr k ↦ k ]) in
    λ i. heads i ∷ tails i

module _ (b c : ℕ) (xs ys : List ℕ) (p : RisesAbove (b + 1) xs) (there : (n : ℕ) → HasCounter c ys n → HasCounter b xs n) where
  pub base_at_most : c ≤ b
  base_at_most =
      elim (Rattle.std.proofs.lemmas.Bool.cases_lt b c) [
        | inl less ↦ elim (there (b + 1) (inl (omega arith, omega arith))) [
          | inl k ↦ absurd (omega (arith, k.1))
          | inr k ↦ absurd (omega (arith, above_low (b + 1) xs (b + 1) p k))
        ]
        | inr done ↦ done
      ]

pub entry_unique : (b c : ℕ) (xs ys : List ℕ) → RisesAbove (b + 1) xs → RisesAbove (c + 1) ys → ((n : ℕ) → HasCounter b xs n → HasCounter c ys n) → ((n : ℕ) → HasCounter c ys n → HasCounter b xs n) → (b ≡ c) × (xs ≡ ys)
entry_unique b c xs ys p q there back =
    let down : c ≤ b = base_at_most b c xs ys p back in
    let up : b ≤ c = base_at_most c b ys xs q there in
    let bases : b ≡ c = omega arith in (
      bases,
      rising_unique (b + 1) xs ys p (subst (λ k. RisesAbove (k + 1) ys) (sym bases) q)
          (λ n h. elim (there n (inr h)) [ inl k ↦ absurd (omega (arith, k.1, above_low (b + 1) xs n p h)) | inr k ↦ k ])
          (λ n h. elim (back n (inr h)) [ inl k ↦ absurd (omega (arith, k.1, above_low (c + 1) ys n q h)) | inr k ↦ k ]),
    )

-- an entry has a dot
pub some_dot : (e : EntryValue) → IsEntry e → (n : ℕ) × HasCounter e.base e.loose n
some_dot e is = first_counter e.base e.loose is.some

first_site : (low : ℕ) (e f : EntryValue) (es fs : List EntryValue) → AreEntriesAbove low (e ∷ es) → AreEntriesAbove low (f ∷ fs) → ((i n : ℕ) → HoldsDot (set_of (e ∷ es)) i n → HoldsDot (set_of (f ∷ fs)) i n) → f.site ≤ e.site
first_site low e f es fs p q there =
    let some = some_dot e p.1 in
    elim (holds_cons f fs e.site some.0 (there e.site some.0 (cons_first e es some.0 some.1))) [
      | inl k ↦ omega (arith, k.0)
      | inr k ↦ omega (arith, site_above f.site fs e.site some.0 q.2 k)
    ]

first_counters : (low : ℕ) (e f : EntryValue) (es fs : List EntryValue) → AreEntriesAbove low (f ∷ fs) → e.site ≡ f.site → ((i n : ℕ) → HoldsDot (set_of (e ∷ es)) i n → HoldsDot (set_of (f ∷ fs)) i n) → (n : ℕ) → HasCounter e.base e.loose n → HasCounter f.base f.loose n
first_counters low e f es fs q sites there n h =
    elim (holds_cons f fs e.site n (there e.site n (cons_first e es n h))) [
      | inl k ↦ k.1
      | inr k ↦ absurd (omega (arith, sites, site_above f.site fs e.site n q.2 k))
    ]

rest_members : (low : ℕ) (e f : EntryValue) (es fs : List EntryValue) → AreEntriesAbove low (e ∷ es) → e.site ≡ f.site → ((i n : ℕ) → HoldsDot (set_of (e ∷ es)) i n → HoldsDot (set_of (f ∷ fs)) i n) → (i n : ℕ) → HoldsDot (set_of es) i n → HoldsDot (set_of fs) i n
rest_members low e f es fs p sites there i n h =
    elim (holds_cons f fs i n (there i n (cons_rest e es i n h))) [
      | inl k ↦ absurd (omega (arith, sites, k.0, site_above e.site es i n p.2 h))
      | inr k ↦ k
    ]

pub same_members : (low : ℕ) (es fs : List EntryValue) → AreEntriesAbove low es → AreEntriesAbove low fs → ((i n : ℕ) → HoldsDot (set_of es) i n → HoldsDot (set_of fs) i n) → ((i n : ℕ) → HoldsDot (set_of fs) i n → HoldsDot (set_of es) i n) → es ≡ fs
same_members low [] [] p q there back = refl
same_members low [] (f ∷ fs) p q there back =
    let some = some_dot f q.1 in absurd (nil_holds f.site some.0 (back f.site some.0 (cons_first f fs some.0 some.1)))
same_members low (e ∷ es) [] p q there back =
    let some = some_dot e p.1 in absurd (nil_holds e.site some.0 (there e.site some.0 (cons_first e es some.0 some.1)))
same_members low (e ∷ es) (f ∷ fs) p q there back =
    let down : f.site ≤ e.site = first_site low e f es fs p q there in
    let up : e.site ≤ f.site = first_site low f e fs es q p back in
    let sites : e.site ≡ f.site = omega arith in
    let parts = entry_unique e.base f.base e.loose f.loose p.1.rising q.1.rising (first_counters low e f es fs q sites there) (first_counters low f e fs es p (sym sites) back) in
    let bases : e.base ≡ f.base = parts.0 in
    let looses : e.loose ≡ f.loose = parts.1 in
    let rest : es ≡ fs
    = same_members e.site es fs p.2 (subst (λ k. AreEntriesAbove k fs) (sym sites) q.2)
    (rest_members low e f es fs p sites there) (rest_members low f e fs es q (sym sites) back) in
    let first : e ≡ f = λ i. record { site = sites i; base = bases i; loose = looses i } in
    λ i. first i ∷ rest i

-- a set has one list of entries
pub entries_unique : (es fs : List EntryValue) → AreEntries es → AreEntries fs → set_of es ≡ set_of fs → es ≡ fs
entries_unique es fs p q e =
    same_members 0 es fs p q (λ i n h. subst (λ s. HoldsDot s i n) e h) (λ i n h. subst (λ s. HoldsDot s i n) (sym e) h)
