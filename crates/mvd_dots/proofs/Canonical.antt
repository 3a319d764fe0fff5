-- The entries of a set: one list, in its form, that has just the dots of the set.
use Rattle.std.proofs.Common.{◌≡◌, ℕ, ◌+◌, ◌<◌, ◌≤◌, ◌^◌, ◌==◌, ◌↔◌, Bool, true, false, T, cond, ◌&&◌, ◌||◌, List, [], ◌∷◌, map, filter, is_some, refl, sym, ap, ◌∙◌, subst, inl, inr, arith, eq-eqb, eqb-true, ltb-true, nat_lt, lt-ltb}
use Rattle.std.proofs.lemmas.Bool.{eqb-false, false≢true, or_cases, or_left, or_right, cases_eq, cases_lt}
use Rattle.std.specs.declared.cmp.Ordering.{Ordering}
use Rattle.std.specs.declared.cmp.Ordering.TheVariants.{Less, Equal, Greater}
use Rattle.std.specs.Ordering.{nat_cmp, eq_by_cmp, is_eq, is_lt, MatchOrdering}
use Rattle.std.specs.Cmp.{Equal-is, tied_itself, nat_cmp_total, ranks}
use Rattle.std.specs.List.{list_any}
use Rattle.std.specs.FinMap.{entries, entries_sorted, from_entries, is_sorted, contains_key-keys, get-from_entries}
use Rattle.std.specs.FinMap.Entries.{below_all, is_some-find}
use Rattle.std.specs.FinSet as set
use Rattle.mvd_dots.specs.Dot.{DotValue, dot_cmp}
use Rattle.mvd_dots.specs.Entry.{EntryValue, IsEntry, RisesAbove, Among, HasCounter}
use Rattle.mvd_dots.specs.Context.{DotSet, HoldsDot, AreInRange, IsBaseOf, IsEntryAt, AreEntriesAbove, AreEntries, AreEntriesOf, set_of, rising, counters_at, counted_on, base_of, loose_of, entry_of, sites_of, entries_of, bases_of}
use Rattle.mvd_dots.proofs.Rising.{above_low, all_below, has_dot, rises_lower}
use Rattle.mvd_dots.proofs.Sets.{dot, same_dot, tied_dot, same_dots}
use Rattle.mvd_dots.proofs.Members.{holds_cons, cons_first, cons_rest, nil_holds, entries_unique, entry_unique, some_dot}
use Rattle.mvd_dots.proofs.Joining.{counter_low, counter_high}

-- ---- numbers in order

tied_number : (n m : ℕ) → eq_by_cmp nat_cmp n m ≡ true → n ≡ m
tied_number n m e = set.nat_cmp-IsAntisymmetric n m ((Equal-is (nat_cmp n m)).0 e)

number_tied : (n : ℕ) → eq_by_cmp nat_cmp n n ≡ true
number_tied n = ap is_eq (tied_itself nat_cmp_total n)

any_among : (ns : List ℕ) (n : ℕ) → list_any (eq_by_cmp nat_cmp n) ns ≡ true → Among ns n
any_among [] n h = absurd (false≢true h)
any_among (m ∷ ns) n h = elim (or_cases _ _ h) [ inl e ↦ inl (tied_number n m e) | inr k ↦ inr (any_among ns n k) ]

among_any : (ns : List ℕ) (n : ℕ) → Among ns n → list_any (eq_by_cmp nat_cmp n) ns ≡ true
among_any [] n h = absurd h
among_any (m ∷ ns) n h =
    elim h [
      | inl e ↦ or_left _ _ (ap (λ k. eq_by_cmp nat_cmp n k) (sym e) ∙ number_tied n)
      | inr k ↦ or_right _ _ (among_any ns n k)
    ]

keys_of_units : (ns : List ℕ) → map (λ (e : ℕ × Unit {0}). e.0) (map (λ n. (n, tt {0})) ns) ≡ ns
keys_of_units [] = refl
keys_of_units (n ∷ ns) = ap (λ v. n ∷ v) (keys_of_units ns)

any_rising : (ns : List ℕ) (n : ℕ) → list_any (eq_by_cmp nat_cmp n) (rising ns) ≡ list_any (eq_by_cmp nat_cmp n) ns
unfolding rising
any_rising ns n =
    sym (contains_key-keys (from_entries {R = nat_cmp} (map (λ n. (n, tt {0})) ns)) n)
    ∙ ap is_some (get-from_entries nat_cmp_total (map (λ n. (n, tt {0})) ns) n)
    ∙ is_some-find nat_cmp n (map (λ n. (n, tt {0})) ns)
    ∙ ap (list_any (eq_by_cmp nat_cmp n)) (keys_of_units ns)

pub among_rising : (ns : List ℕ) (n : ℕ) → Among (rising ns) n → Among ns n
among_rising ns n h = any_among ns n (sym (any_rising ns n) ∙ among_any (rising ns) n h)

pub rising_among : (ns : List ℕ) (n : ℕ) → Among ns n → Among (rising ns) n
rising_among ns n h = any_among (rising ns) n (any_rising ns n ∙ among_any ns n h)

first_true : (a b : Bool) → T (a && b) → T a
first_true true b h = tt
first_true false b h = absurd h

second_true : (a b : Bool) → T (a && b) → T b
second_true true b h = h
second_true false b h = absurd h

less_number : (n m : ℕ) (o : Ordering) → MatchOrdering o (n < m) (n ≡ m) (m < n) → T (is_lt o) → n < m
less_number n m Less is h = is
less_number n m Equal is h = absurd h
less_number n m Greater is h = absurd h

above_first : (low : ℕ) (es : List (ℕ × Unit {0})) → T (below_all nat_cmp low es) → (n : ℕ) → Among (map (λ e. e.0) es) n → low < n
above_first low [] below n h = absurd h
above_first low (e ∷ es) below n h =
    elim h [
      | inl is ↦ subst (λ m. low < m) (sym is) (less_number low e.0 (nat_cmp low e.0) (ranks low e.0) (first_true _ _ below))
      | inr k ↦ above_first low es (second_true (is_lt (nat_cmp low e.0)) _ below) n k
    ]

sorted_rises : (low : ℕ) (es : List (ℕ × Unit {0})) → T (is_sorted nat_cmp es) → ((n : ℕ) → Among (map (λ e. e.0) es) n → low < n) → RisesAbove low (map (λ e. e.0) es)
sorted_rises low [] sorted each = tt
sorted_rises low (e ∷ es) sorted each =
    (each e.0 (inl refl), sorted_rises e.0 es (second_true (below_all nat_cmp e.0 es) _ sorted) (above_first e.0 es (first_true _ _ sorted)))

pub rising_rises : (low : ℕ) (ns : List ℕ) → ((n : ℕ) → Among ns n → low < n) → RisesAbove low (rising ns)
unfolding rising
rising_rises low ns each =
    sorted_rises low (entries (from_entries {R = nat_cmp} (map (λ n. (n, tt {0})) ns))) (entries_sorted (from_entries {R = nat_cmp} (map (λ n. (n, tt {0})) ns)))
    (λ n h. each n (among_rising ns n h))

-- ---- the counters of a site, and the sites

abbrev own : ℕ → List DotValue → List ℕ
own site ds = map (λ d. d.counter) (filter (λ d. d.site == site) ds)

own_any : (site : ℕ) (ds : List DotValue) (n : ℕ) → Among (own site ds) n → list_any (eq_by_cmp dot_cmp (dot site n)) ds ≡ true
own_any site [] n h = absurd h
own_any site (d ∷ ds) n h =
    elim (d.site == site) as (λ b. (d.site == site) ≡ b → Among (map (λ d. d.counter) (cond b (d ∷ filter (λ d. d.site == site) ds) (filter (λ d. d.site == site) ds))) n → (eq_by_cmp dot_cmp (dot site n) d || list_any (eq_by_cmp dot_cmp (dot site n)) ds) ≡ true) [
      | true ↦ λ here k. elim k [
        | inl is ↦
            let sites : d.site ≡ site = eqb-true d.site site here in
            let one : dot site n ≡ d = λ i. record { site = sym sites i; counter = is i } in
            or_left _ _ (ap (λ x. eq_by_cmp dot_cmp (dot site n) x) (sym one) ∙ tied_dot (dot site n))
        | inr later ↦ or_right _ _ (own_any site ds n later)
      ]
      | false ↦ λ _ k. or_right _ _ (own_any site ds n k)
    ] refl h

any_own : (site : ℕ) (ds : List DotValue) (n : ℕ) → list_any (eq_by_cmp dot_cmp (dot site n)) ds ≡ true → Among (own site ds) n
any_own site [] n h = absurd (false≢true h)
any_own site (d ∷ ds) n h =
    elim (or_cases _ _ h) [
      | inl tied ↦
          let one : dot site n ≡ d = same_dot (dot site n) d tied in
          let here : (d.site == site) ≡ true = eq-eqb d.site site (sym (ap (λ x. x.site) one)) in
          subst (λ b. Among (map (λ d. d.counter) (cond b (d ∷ filter (λ d. d.site == site) ds) (filter (λ d. d.site == site) ds))) n) (sym here) (inl (ap (λ x. x.counter) one))
      | inr later ↦
          let rest : Among (own site ds) n = any_own site ds n later in
          elim (d.site == site) as (λ b. Among (map (λ d. d.counter) (cond b (d ∷ filter (λ d. d.site == site) ds) (filter (λ d. d.site == site) ds))) n) [ true ↦ inr rest | false ↦ rest ]
    ]

any_site : (ds : List DotValue) (site n : ℕ) → list_any (eq_by_cmp dot_cmp (dot site n)) ds ≡ true → Among (map (λ d. d.site) ds) site
any_site [] site n h = absurd (false≢true h)
any_site (d ∷ ds) site n h =
    elim (or_cases _ _ h) [
      | inl tied ↦ inl (ap (λ x. x.site) (same_dot (dot site n) d tied))
      | inr later ↦ inr (any_site ds site n later)
    ]

site_any : (ds : List DotValue) (site : ℕ) → Among (map (λ d. d.site) ds) site → (n : ℕ) × (list_any (eq_by_cmp dot_cmp (dot site n)) ds ≡ true)
site_any [] site h = absurd h
site_any (d ∷ ds) site h =
    elim h [
      | inl is ↦
          let one : dot site d.counter ≡ d = λ i. record { site = is i; counter = d.counter } in
          (d.counter, or_left _ _ (ap (λ x. eq_by_cmp dot_cmp (dot site d.counter) x) (sym one) ∙ tied_dot (dot site d.counter)))
      | inr later ↦ let rest = site_any ds site later in (rest.0, or_right _ _ rest.1)
    ]

pub counters_hold : (dots : DotSet) (site n : ℕ) → Among (counters_at dots site) n → HoldsDot dots site n
unfolding counters_at
counters_hold dots site n h = set.contains-items dots (dot site n) ∙ own_any site (set.items dots) n (among_rising (own site (set.items dots)) n h)

pub holds_counters : (dots : DotSet) (site n : ℕ) → HoldsDot dots site n → Among (counters_at dots site) n
unfolding counters_at
holds_counters dots site n h =
    rising_among (own site (set.items dots)) n (any_own site (set.items dots) n (sym (set.contains-items dots (dot site n)) ∙ h))

pub sites_hold : (dots : DotSet) (site : ℕ) → Among (sites_of dots) site → (n : ℕ) × HoldsDot dots site n
unfolding sites_of
sites_hold dots site h =
    let found = site_any (set.items dots) site (among_rising (map (λ d. d.site) (set.items dots)) site h) in
    (found.0, set.contains-items dots (dot site found.0) ∙ found.1)

pub holds_sites : (dots : DotSet) (site n : ℕ) → HoldsDot dots site n → Among (sites_of dots) site
unfolding sites_of
holds_sites dots site n h =
    rising_among (map (λ d. d.site) (set.items dots)) site (any_site (set.items dots) site n (sym (set.contains-items dots (dot site n)) ∙ h))

pub sites_rise : (dots : DotSet) → AreInRange dots → RisesAbove 0 (sites_of dots)
unfolding sites_of
sites_rise dots range =
    rising_rises 0 (map (λ d. d.site) (set.items dots))
    (λ site h. let found = site_any (set.items dots) site h in (range site found.0 (set.contains-items dots (dot site found.0) ∙ found.1)).site_low)

pub counters_rise : (dots : DotSet) (site : ℕ) → AreInRange dots → RisesAbove 0 (counters_at dots site)
unfolding counters_at
counters_rise dots site range =
    rising_rises 0 (own site (set.items dots))
    (λ n h. (range site n (set.contains-items dots (dot site n) ∙ own_any site (set.items dots) n h)).counter_low)

-- ---- the base

counted_low : (n : ℕ) (ms : List ℕ) → RisesAbove n ms → n ≤ counted_on n ms
counted_low n [] rises = omega arith
counted_low n (m ∷ ms) rises =
    elim (m == n + 1) as (λ b. n ≤ cond b (counted_on m ms) n) [ true ↦ omega (arith, counted_low m ms rises.1, rises.0) | false ↦ omega arith ]

counted_all : (n : ℕ) (ms : List ℕ) (k : ℕ) → n < k → k ≤ counted_on n ms → Among ms k
counted_all n [] k low high = absurd (omega arith)
counted_all n (m ∷ ms) k low high =
    elim (m == n + 1) as (λ b. (m == n + 1) ≡ b → k ≤ cond b (counted_on m ms) n → Among (m ∷ ms) k) [
      | true ↦ λ next more. elim (cases_eq k m) [
        | inl same ↦ inl same
        | inr other ↦ inr (counted_all m ms k (omega (arith, eqb-true m (n + 1) next)) more)
      ]
      | false ↦ λ _ more. absurd (omega arith)
    ] refl high

counted_next : (n : ℕ) (ms : List ℕ) → RisesAbove n ms → Among ms (counted_on n ms + 1) → ⊥
counted_next n [] rises h = h
counted_next n (m ∷ ms) rises h =
    elim (m == n + 1) as (λ b. (m == n + 1) ≡ b → Among (m ∷ ms) (cond b (counted_on m ms) n + 1) → ⊥) [
      | true ↦ λ _ k. elim k [
        | inl is ↦ absurd (omega (arith, is, counted_low m ms rises.1))
        | inr later ↦ counted_next m ms rises.1 later
      ]
      | false ↦ λ gap k. elim k [
        | inl is ↦ eqb-false m (n + 1) gap (sym is)
        | inr later ↦ absurd (omega (arith, rises.0, above_low m ms (n + 1) rises.1 later))
      ]
    ] refl h

pub base_is : (dots : DotSet) (site : ℕ) → AreInRange dots → IsBaseOf dots site (base_of dots site)
base_is dots site range =
    record {
      all = λ n low high. counters_hold dots site n (counted_all 0 (counters_at dots site) n low high);
      greatest = λ holds. counted_next 0 (counters_at dots site) (counters_rise dots site range) (holds_counters dots site (base_of dots site + 1) holds);
    }

-- ---- the loose counters

loose_from : (low base : ℕ) (ns : List ℕ) → base ≤ low → RisesAbove low ns → RisesAbove low (filter (λ n. nat_lt base n) ns)
loose_from low base [] le rises = tt
loose_from low base (m ∷ ms) le rises =
    let rest : RisesAbove m (filter (λ n. nat_lt base n) ms) = loose_from m base ms (omega (arith, rises.0)) rises.1 in
    elim (nat_lt base m) as (λ b. RisesAbove low (cond b (m ∷ filter (λ n. nat_lt base n) ms) (filter (λ n. nat_lt base n) ms))) [
      | true ↦ (rises.0, rest)
      | false ↦ rises_lower low m _ (omega (arith, rises.0)) rest
    ]

loose_past : (low base : ℕ) (ns : List ℕ) → RisesAbove low ns → RisesAbove base (filter (λ n. nat_lt base n) ns)
loose_past low base [] rises = tt
loose_past low base (m ∷ ms) rises =
    elim (nat_lt base m) as (λ b. nat_lt base m ≡ b → RisesAbove base (cond b (m ∷ filter (λ n. nat_lt base n) ms) (filter (λ n. nat_lt base n) ms))) [
      | true ↦ λ less. let above : base < m = ltb-true base m less in (above, loose_from m base ms (omega arith) rises.1)
      | false ↦ λ _. loose_past m base ms rises.1
    ] refl

among_loose : (base : ℕ) (ns : List ℕ) (n : ℕ) → Among (filter (λ n. nat_lt base n) ns) n → (base < n) × Among ns n
among_loose base [] n h = absurd h
among_loose base (m ∷ ms) n h =
    elim (nat_lt base m) as (λ b. nat_lt base m ≡ b → Among (cond b (m ∷ filter (λ n. nat_lt base n) ms) (filter (λ n. nat_lt base n) ms)) n → (base < n) × Among (m ∷ ms) n) [
      | true ↦ λ less k. elim k [
        | inl is ↦ (omega (arith, ltb-true base m less), inl is)
        | inr later ↦ let rest = among_loose base ms n later in (rest.0, inr rest.1)
      ]
      | false ↦ λ _ k. let rest = among_loose base ms n k in (rest.0, inr rest.1)
    ] refl h

loose_among : (base : ℕ) (ns : List ℕ) (n : ℕ) → base < n → Among ns n → Among (filter (λ n. nat_lt base n) ns) n
loose_among base [] n above h = h
loose_among base (m ∷ ms) n above h =
    elim h [
      | inl is ↦
          let less : nat_lt base m ≡ true = lt-ltb base m (omega arith) in
          subst (λ b. Among (cond b (m ∷ filter (λ n. nat_lt base n) ms) (filter (λ n. nat_lt base n) ms)) n) (sym less) (inl is)
      | inr later ↦
          let rest : Among (filter (λ n. nat_lt base n) ms) n = loose_among base ms n above later in
          elim (nat_lt base m) as (λ b. Among (cond b (m ∷ filter (λ n. nat_lt base n) ms) (filter (λ n. nat_lt base n) ms)) n) [ true ↦ inr rest | false ↦ rest ]
    ]

rises_past : (base : ℕ) (ns : List ℕ) → RisesAbove base ns → (Among ns (base + 1) → ⊥) → RisesAbove (base + 1) ns
rises_past base [] rises gap = tt
rises_past base (n ∷ ns) rises gap =
    elim (cases_eq (base + 1) n) [
      | inl same ↦ absurd (gap (inl same))
      | inr other ↦ (omega (arith, rises.0), rises.1)
    ]

-- ---- the entry of a site

pub counter_there : (dots : DotSet) (site n : ℕ) → AreInRange dots → HoldsDot dots site n → HasCounter (base_of dots site) (loose_of dots site) n
counter_there dots site n range holds =
    elim (cases_lt (base_of dots site) n) [
      | inl above ↦ inr (loose_among (base_of dots site) (counters_at dots site) n above (holds_counters dots site n holds))
      | inr within ↦ inl ((range site n holds).counter_low, within)
    ]

pub counter_back : (dots : DotSet) (site n : ℕ) → AreInRange dots → HasCounter (base_of dots site) (loose_of dots site) n → HoldsDot dots site n
counter_back dots site n range has =
    elim has [
      | inl low ↦ (base_is dots site range).all n low.0 low.1
      | inr high ↦ counters_hold dots site n (among_loose (base_of dots site) (counters_at dots site) n high).1
    ]

base_high : (dots : DotSet) (site : ℕ) → AreInRange dots → base_of dots site < 2 ^ 48
base_high dots site range =
    elim (cases_lt 0 (base_of dots site)) [
      | inl some ↦ (range site (base_of dots site) ((base_is dots site range).all (base_of dots site) some (omega arith))).counter_high
      | inr none ↦ omega arith
    ]

pub entry_form : (dots : DotSet) (site n : ℕ) → AreInRange dots → HoldsDot dots site n → IsEntry (entry_of dots site)
entry_form dots site n range holds =
    let base = base_of dots site in
    let all = counters_at dots site in
    record {
      site_low = (range site n holds).site_low;
      site_high = (range site n holds).site_high;
      base_high = base_high dots site range;
      rising = rises_past base (loose_of dots site) (loose_past 0 base all (counters_rise dots site range))
          (λ h. (base_is dots site range).greatest (counters_hold dots site (base + 1) (among_loose base all (base + 1) h).1));
      loose_high = all_below (2 ^ 48) (loose_of dots site) (λ k h. (range site k (counter_back dots site k range (inr h))).counter_high);
      some = has_dot base (loose_of dots site) n (counter_there dots site n range holds);
    }

-- the entry of a site is that of the set
pub entry_is : (dots : DotSet) (site : ℕ) (e : EntryValue) → AreInRange dots → IsEntryAt dots site e → e ≡ entry_of dots site
entry_is dots site e range is =
    let some = some_dot e is.form in
    let form : IsEntry (entry_of dots site) = entry_form dots site some.0 range (is.back some.0 some.1) in
    let parts = entry_unique e.base (base_of dots site) e.loose (loose_of dots site) is.form.rising form.rising
    (λ n h. counter_there dots site n range (is.back n h)) (λ n h. is.there n (counter_back dots site n range h)) in
    let sites : e.site ≡ site = is.at in
    let bases : e.base ≡ base_of dots site = parts.0 in
    let looses : e.loose ≡ loose_of dots site = parts.1 in
    λ i. record { site = sites i; base = bases i; loose = looses i }

none_among : (ns : List ℕ) → ((n : ℕ) → Among ns n → ⊥) → ns ≡ []
none_among [] none = refl
none_among (n ∷ ns) none = absurd (none n (inl refl))

-- a site with no dot has no loose counter
pub loose_none : (dots : DotSet) (site : ℕ) → AreInRange dots → ((n : ℕ) → HoldsDot dots site n → ⊥) → loose_of dots site ≡ []
loose_none dots site range none = none_among (loose_of dots site) (λ n h. none n (counter_back dots site n range (inr h)))

pub loose_is : (dots : DotSet) (site n : ℕ) → AreInRange dots → Among (loose_of dots site) n ↔ (base_of dots site < n) × HoldsDot dots site n
loose_is dots site n range = (
  λ h. let parts = among_loose (base_of dots site) (counters_at dots site) n h in (parts.0, counters_hold dots site n parts.1),
  λ h. loose_among (base_of dots site) (counters_at dots site) n h.0 (holds_counters dots site n h.1),
)

pub loose_rises : (dots : DotSet) (site : ℕ) → AreInRange dots → RisesAbove (base_of dots site) (loose_of dots site)
loose_rises dots site range = loose_past 0 (base_of dots site) (counters_at dots site) (counters_rise dots site range)

-- ---- the entries

form_of : (dots : DotSet) → AreInRange dots → (low : ℕ) (sites : List ℕ) → RisesAbove low sites → ((site : ℕ) → Among sites site → (n : ℕ) × HoldsDot dots site n) → AreEntriesAbove low (map (entry_of dots) sites)
form_of dots range low [] rises each = tt
form_of dots range low (site ∷ sites) rises each =
    let some = each site (inl refl) in
    (rises.0, entry_form dots site some.0 range some.1, form_of dots range site sites rises.1 (λ s h. each s (inr h)))

dots_there : (dots : DotSet) → AreInRange dots → (sites : List ℕ) (i n : ℕ) → HoldsDot (set_of (map (entry_of dots) sites)) i n → HoldsDot dots i n
dots_there dots range [] i n h = absurd (nil_holds i n h)
dots_there dots range (site ∷ sites) i n h =
    elim (holds_cons (entry_of dots site) (map (entry_of dots) sites) i n h) [
      | inl k ↦ subst (λ s. HoldsDot dots s n) (sym k.0) (counter_back dots site n range k.1)
      | inr k ↦ dots_there dots range sites i n k
    ]

dots_back : (dots : DotSet) → AreInRange dots → (sites : List ℕ) (i n : ℕ) → Among sites i → HoldsDot dots i n → HoldsDot (set_of (map (entry_of dots) sites)) i n
dots_back dots range [] i n h holds = absurd h
dots_back dots range (site ∷ sites) i n h holds =
    elim h [
      | inl is ↦
          let first : HoldsDot (set_of (map (entry_of dots) (site ∷ sites))) site n
          = cons_first (entry_of dots site) (map (entry_of dots) sites) n (counter_there dots site n range (subst (λ s. HoldsDot dots s n) is holds)) in
          subst (λ s. HoldsDot (set_of (map (entry_of dots) (site ∷ sites))) s n) (sym is) first
      | inr later ↦ cons_rest (entry_of dots site) (map (entry_of dots) sites) i n (dots_back dots range sites i n later holds)
    ]

-- a set within the limits is the dots of its entries
pub set_of-entries_of : (dots : DotSet) → AreInRange dots → set_of (entries_of dots) ≡ dots
unfolding entries_of
set_of-entries_of dots range =
    same_dots (set_of (map (entry_of dots) (sites_of dots))) dots (dots_there dots range (sites_of dots))
    (λ i n h. dots_back dots range (sites_of dots) i n (holds_sites dots i n h) h)

form_of_set : (dots : DotSet) → AreInRange dots → AreEntries (entries_of dots)
unfolding entries_of
form_of_set dots range = form_of dots range 0 (sites_of dots) (sites_rise dots range) (sites_hold dots)

-- the entries of a set are in their form, and have its dots
pub AreEntriesOf-entries_of : (dots : DotSet) → AreInRange dots → AreEntriesOf dots (entries_of dots)
AreEntriesOf-entries_of dots range = record { form = form_of_set dots range; same = set_of-entries_of dots range }

-- ---- entries in their form have dots within the limits

in_range_above : (low : ℕ) (es : List EntryValue) → AreEntriesAbove low es → AreInRange (set_of es)
in_range_above low [] form site n holds = absurd (nil_holds site n holds)
in_range_above low (e ∷ es) form site n holds =
    elim (holds_cons e es site n holds) [
      | inl k ↦ record {
        site_low = omega (arith, k.0, form.1.site_low);
        site_high = omega (arith, k.0, form.1.site_high);
        counter_low = counter_low e n form.1 k.1;
        counter_high = counter_high e n form.1 k.1;
      }
      | inr k ↦ in_range_above e.site es form.2 site n k
    ]

pub in_range : (dots : DotSet) (es : List EntryValue) → AreEntriesOf dots es → AreInRange dots
in_range dots es of_dots = subst AreInRange of_dots.same (in_range_above 0 es of_dots.form)

pub AreInRange-set_of : (es : List EntryValue) → AreEntries es → AreInRange (set_of es)
AreInRange-set_of es form = in_range_above 0 es form

-- entries in their form are the entries of the set of their dots
pub entries_of-set_of : (es : List EntryValue) → AreEntries es → entries_of (set_of es) ≡ es
entries_of-set_of es form =
    let range : AreInRange (set_of es) = AreInRange-set_of es form in
    entries_unique (entries_of (set_of es)) es (form_of_set (set_of es) range) form (set_of-entries_of (set_of es) range)

-- what has entries has just the entries of the set
pub entries_are : (dots : DotSet) (es : List EntryValue) → AreEntriesOf dots es → es ≡ entries_of dots
entries_are dots es is = sym (entries_of-set_of es is.form) ∙ ap entries_of is.same

-- ---- the bases

abbrev pub base_pairs : List EntryValue → List (ℕ × ℕ)
base_pairs es = map (λ e. (e.site, e.base)) es

bases_at : (dots : DotSet) (sites : List ℕ) → base_pairs (map (entry_of dots) sites) ≡ map (λ site. (site, base_of dots site)) sites
bases_at dots [] = refl
bases_at dots (site ∷ sites) = ap (λ (v : List (ℕ × ℕ)). (site, base_of dots site) ∷ v) (bases_at dots sites)

pub bases_of_entries : (dots : DotSet) (es : List EntryValue) → AreEntriesOf dots es → base_pairs es ≡ bases_of dots
unfolding bases_of entries_of
bases_of_entries dots es is = ap base_pairs (entries_are dots es is) ∙ bases_at dots (sites_of dots)
