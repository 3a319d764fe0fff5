-- Lists of entries: their places, their parts and the dots of each.
use Rattle.std.proofs.Common.{◌≡◌, ℕ, zero, suc, ◌+◌, ◌<◌, ◌≤◌, List, [], ◌∷◌, ◌++◌, length, get_or, drop, refl, sym, ap, ◌∙◌, subst, ◌⊎◌, inl, inr, arith, append_assoc}
use Rattle.std.proofs.lemmas.Bool.{cases_lt, cases_eq}
use Rattle.std.proofs.lemmas.List.{append-nil, drop_more, drop_all, get_or_read}
use Rattle.std.specs.List.{AllWithin}
use Rattle.std.specs.FinSet as set
use Rattle.mvd_dots.specs.Dot.{DotValue, IsDot}
use Rattle.mvd_dots.specs.Entry.{EntryValue, IsEntry, HasCounter}
use Rattle.mvd_dots.specs.Context.{DotSet, HoldsDot, AreEntriesAbove, AreEntries, IsEntryAt, IsEntryOfDot, entry_dots, set_of}
use Rattle.mvd_dots.proofs.Sets.{same_dots, holds_insert, insert_new, insert_old, holds_union, union_left, union_right, empty_holds, union-empty, union_comm, union_assoc}
use Rattle.mvd_dots.proofs.Members.{holds_entry, entry_holds, holds_cons, cons_first, cons_rest, nil_holds, site_above, set_of-nil, set_of-cons, set_of-append, some_dot}

-- ---- places

pub site_at_above : (low : ℕ) (es : List EntryValue) (i : ℕ) (d : EntryValue) → AreEntriesAbove low es → i < length es → low < (get_or es i d).site
site_at_above low [] i d form h = absurd (omega arith)
site_at_above low (e ∷ es) zero d form h = form.0
site_at_above low (e ∷ es) (suc i) d form h = omega (arith, form.0, site_at_above e.site es i d form.2 (omega arith))

pub form_at : (low : ℕ) (es : List EntryValue) (i : ℕ) (d : EntryValue) → AreEntriesAbove low es → i < length es → IsEntry (get_or es i d)
form_at low [] i d form h = absurd (omega arith)
form_at low (e ∷ es) zero d form h = form.1
form_at low (e ∷ es) (suc i) d form h = form_at e.site es i d form.2 (omega arith)

pub sites_rise : (low : ℕ) (es : List EntryValue) (i j : ℕ) (d : EntryValue) → AreEntriesAbove low es → i < j → j < length es → (get_or es i d).site < (get_or es j d).site
sites_rise low [] i j d form less h = absurd (omega arith)
sites_rise low (e ∷ es) i zero d form less h = absurd (omega arith)
sites_rise low (e ∷ es) zero (suc j) d form less h = site_at_above e.site es j d form.2 (omega arith)
sites_rise low (e ∷ es) (suc i) (suc j) d form less h = sites_rise e.site es i j d form.2 (omega arith) (omega arith)

pub at_holds_entry : (es : List EntryValue) (i : ℕ) (d : EntryValue) → i < length es → (n : ℕ) → HasCounter (get_or es i d).base (get_or es i d).loose n → HoldsDot (set_of es) (get_or es i d).site n
at_holds_entry [] i d h n has = absurd (omega arith)
at_holds_entry (e ∷ es) zero d h n has = cons_first e es n has
at_holds_entry (e ∷ es) (suc i) d h n has = cons_rest e es (get_or es i d).site n (at_holds_entry es i d (omega arith) n has)

pub holds_entry_at : (low : ℕ) (es : List EntryValue) (i : ℕ) (d : EntryValue) → AreEntriesAbove low es → i < length es → (n : ℕ) → HoldsDot (set_of es) (get_or es i d).site n → HasCounter (get_or es i d).base (get_or es i d).loose n
holds_entry_at low [] i d form h n holds = absurd (omega arith)
holds_entry_at low (e ∷ es) zero d form h n holds =
    elim (holds_cons e es e.site n holds) [
      | inl k ↦ k.1
      | inr k ↦ absurd (omega (arith, site_above e.site es e.site n form.2 k))
    ]
holds_entry_at low (e ∷ es) (suc i) d form h n holds =
    elim (holds_cons e es (get_or es i d).site n holds) [
      | inl k ↦ absurd (omega (arith, k.0, site_at_above e.site es i d form.2 (omega arith)))
      | inr k ↦ holds_entry_at e.site es i d form.2 (omega arith) n k
    ]

-- where a dot's entry stands
pub place_of_site : (es : List EntryValue) (site n : ℕ) (d : EntryValue) → HoldsDot (set_of es) site n → (k : ℕ) × (k < length es) × ((get_or es k d).site ≡ site)
place_of_site [] site n d holds = absurd (nil_holds site n holds)
place_of_site (e ∷ es) site n d holds =
    elim (holds_cons e es site n holds) [
      | inl k ↦ (0, omega arith, sym k.0)
      | inr k ↦ let rest = place_of_site es site n d k in (suc rest.0, omega (arith, rest.1), rest.2)
    ]

-- the entry at a place is its site's
pub found_entry : (es : List EntryValue) (i site : ℕ) (e : EntryValue) → AreEntries es → i < length es → e ≡ get_or es i e → e.site ≡ site → IsEntryAt (set_of es) site e
found_entry es i site e form h is at =
    record {
      at = at;
      form = subst IsEntry (sym is) (form_at 0 es i e form h);
      there = λ n holds.
          let moved : HoldsDot (set_of es) (get_or es i e).site n = subst (λ s. HoldsDot (set_of es) s n) (sym at ∙ ap (λ v. v.site) is) holds in
          subst (λ v. HasCounter v.base v.loose n) (sym is) (holds_entry_at 0 es i e form h n moved);
      back = λ n has.
          let moved : HasCounter (get_or es i e).base (get_or es i e).loose n = subst (λ v. HasCounter v.base v.loose n) is has in
          subst (λ s. HoldsDot (set_of es) s n) (sym (ap (λ v. v.site) is) ∙ at) (at_holds_entry es i e h n moved);
    }

-- with no entry of the site at its place, it has no dot
pub missing_entry : (es : List EntryValue) (i site : ℕ) → AreEntries es → AllWithin (λ e. e.site < site) es 0 i → AllWithin (λ e. site ≤ e.site) es i (length es) → ((d : EntryValue) → i < length es → (get_or es i d).site ≡ site → ⊥) → (n : ℕ) → HoldsDot (set_of es) site n → ⊥
missing_entry es i site form below above other n holds =
    let d : EntryValue = record { site = 0; base = 0; loose = [] } in
    let place = place_of_site es site n d holds in
    elim (cases_lt place.0 i) [
      | inl before ↦ absurd (omega (arith, below place.0 d (omega arith) before, place.2))
      | inr after ↦ elim (cases_eq place.0 i) [
        | inl same ↦ other d (omega (arith, place.1)) (subst (λ k. (get_or es k d).site ≡ site) same place.2)
        | inr apart ↦
            let rises = sites_rise 0 es i place.0 d form (omega arith) place.1 in
            let least = above i d (omega arith) (omega (arith, place.1)) in
            absurd (omega (arith, rises, least, place.2))
      ]
    ]

-- ---- parts

pub entries_front_sites : (low : ℕ) (out : List EntryValue) (x : EntryValue) (first : List EntryValue) → AreEntriesAbove low (out ++ x ∷ first) → low < x.site
entries_front_sites low [] x first form = form.0
entries_front_sites low (e ∷ out) x first form = omega (arith, form.0, entries_front_sites e.site out x first form.2)

-- an entry of the one may come before what is above it of the other
pub entries_between : (low : ℕ) (out : List EntryValue) (x y : EntryValue) (first second : List EntryValue) → x.site < y.site → AreEntriesAbove low (out ++ x ∷ first) → AreEntriesAbove low (out ++ y ∷ second) → AreEntriesAbove low (out ++ x ∷ y ∷ second)
entries_between low [] x y first second less p q = (p.0, p.1, (less, q.1, q.2))
entries_between low (e ∷ out) x y first second less p q = (p.0, p.1, entries_between e.site out x y first second less p.2 q.2)

-- another entry of the same site may stand in its place
pub entries_replaced : (low : ℕ) (out : List EntryValue) (x z : EntryValue) (first : List EntryValue) → z.site ≡ x.site → IsEntry z → AreEntriesAbove low (out ++ x ∷ first) → AreEntriesAbove low (out ++ z ∷ first)
entries_replaced low [] x z first same is p =
    (subst (λ s. low < s) (sym same) p.0, is, subst (λ s. AreEntriesAbove s first) (sym same) p.2)
entries_replaced low (e ∷ out) x z first same is p = (p.0, p.1, entries_replaced e.site out x z first same is p.2)

pub entries_push : (low : ℕ) (es : List EntryValue) (x : EntryValue) → low < x.site → AreEntriesAbove low es → IsEntry x → ((site n : ℕ) → HoldsDot (set_of es) site n → site < x.site) → AreEntriesAbove low (es ++ x ∷ [])
entries_push low [] x above form is each = (above, is, tt)
entries_push low (e ∷ es) x above form is each =
    let some = some_dot e form.1 in
    (form.0, form.1, entries_push e.site es x (each e.site some.0 (cons_first e es some.0 some.1)) form.2 is (λ site n h. each site n (cons_rest e es site n h)))

pub dots_of_one : (x : EntryValue) → set_of (x ∷ []) ≡ entry_dots x
dots_of_one x = set_of-cons x [] ∙ ap (λ s. set.union (entry_dots x) s) set_of-nil ∙ union-empty (entry_dots x)

pub dots_of_push : (es : List EntryValue) (x : EntryValue) → set_of (es ++ x ∷ []) ≡ set.union (set_of es) (entry_dots x)
dots_of_push es x = set_of-append es (x ∷ []) ∙ ap (λ s. set.union (set_of es) s) (dots_of_one x)

-- ---- the join of two lists of entries

-- what is joined so far, and the rests of the two lists
pub record Gathering (xs ys out first second : List EntryValue) : Type 0 where
  pub left : AreEntries (out ++ first)
  pub right : AreEntries (out ++ second)
  pub dots : set.union (set_of out) (set.union (set_of first) (set_of second)) ≡ set.union (set_of xs) (set_of ys)

pub gathering_start : (xs ys out : List EntryValue) → out ≡ [] → AreEntries xs → AreEntries ys → Gathering xs ys out xs ys
gathering_start xs ys out none p q =
    subst (λ o. Gathering xs ys o xs ys) (sym none)
    record {
      left = p;
      right = q;
      dots = ap (λ s. set.union s (set.union (set_of xs) (set_of ys))) set_of-nil ∙ union_comm set.empty _ ∙ union-empty _;
    }

gathering_swapped : (xs ys out first second : List EntryValue) → Gathering xs ys out first second → Gathering ys xs out second first
gathering_swapped xs ys out first second g =
    record {
      left = g.right;
      right = g.left;
      dots = ap (λ s. set.union (set_of out) s) (union_comm (set_of second) (set_of first)) ∙ g.dots ∙ union_comm (set_of xs) (set_of ys);
    }

one_more : (out : List EntryValue) (x : EntryValue) (rest : List EntryValue) → (out ++ x ∷ []) ++ rest ≡ out ++ x ∷ rest
one_more out x rest = append_assoc out (x ∷ []) rest

gathering_first : (xs ys out : List EntryValue) (x y : EntryValue) (first second : List EntryValue) → x.site < y.site → Gathering xs ys out (x ∷ first) (y ∷ second) → Gathering xs ys (out ++ x ∷ []) first (y ∷ second)
gathering_first xs ys out x y first second less g =
    record {
      left = rw (one_more out x first) g.left;
      right = rw (one_more out x (y ∷ second)) (entries_between 0 out x y first second less g.left g.right);
      dots =
          ap (λ s. set.union s (set.union (set_of first) (set_of (y ∷ second)))) (dots_of_push out x)
          ∙ union_assoc (set_of out) (entry_dots x) _
          ∙ ap (λ s. set.union (set_of out) s) (sym (union_assoc (entry_dots x) (set_of first) (set_of (y ∷ second))))
          ∙ ap (λ s. set.union (set_of out) (set.union s (set_of (y ∷ second)))) (sym (set_of-cons x first))
          ∙ g.dots;
    }

gathering_second : (xs ys out : List EntryValue) (x y : EntryValue) (first second : List EntryValue) → y.site < x.site → Gathering xs ys out (x ∷ first) (y ∷ second) → Gathering xs ys (out ++ y ∷ []) (x ∷ first) second
gathering_second xs ys out x y first second less g =
    gathering_swapped ys xs _ second (x ∷ first) (gathering_first ys xs out y x second first less (gathering_swapped xs ys out (x ∷ first) (y ∷ second) g))

-- the sets of two pairs, paired the other way
middle_swapped : (a b c d : DotSet) → set.union (set.union a b) (set.union c d) ≡ set.union (set.union a c) (set.union b d)
middle_swapped a b c d =
    union_assoc a b (set.union c d)
    ∙ ap (λ s. set.union a s) (sym (union_assoc b c d) ∙ ap (λ s. set.union s d) (union_comm b c) ∙ union_assoc c b d)
    ∙ sym (union_assoc a c (set.union b d))

gathering_both : (xs ys out : List EntryValue) (x y z : EntryValue) (first second : List EntryValue) → x.site ≡ y.site → z.site ≡ x.site → IsEntry z → entry_dots z ≡ set.union (entry_dots x) (entry_dots y) → Gathering xs ys out (x ∷ first) (y ∷ second) → Gathering xs ys (out ++ z ∷ []) first second
gathering_both xs ys out x y z first second sites site is union g =
    record {
      left = rw (one_more out z first) (entries_replaced 0 out x z first site is g.left);
      right = rw (one_more out z second) (entries_replaced 0 out y z second (site ∙ sites) is g.right);
      dots =
          ap (λ s. set.union s (set.union (set_of first) (set_of second))) (dots_of_push out z ∙ ap (λ s. set.union (set_of out) s) union)
          ∙ union_assoc (set_of out) _ _
          ∙ ap (λ s. set.union (set_of out) s) (middle_swapped (entry_dots x) (entry_dots y) (set_of first) (set_of second))
          ∙ ap (λ s. set.union (set_of out) (set.union s (set.union (entry_dots y) (set_of second)))) (sym (set_of-cons x first))
          ∙ ap (λ s. set.union (set_of out) (set.union (set_of (x ∷ first)) s)) (sym (set_of-cons y second))
          ∙ g.dots;
    }

gathering_end : (xs ys out first second : List EntryValue) → (first ≡ []) ⊎ (second ≡ []) → Gathering xs ys out first second → AreEntries ((out ++ first) ++ second) × (set_of ((out ++ first) ++ second) ≡ set.union (set_of xs) (set_of ys))
gathering_end xs ys out first second done g = (
  elim done [
    | inl e ↦ subst (λ f. AreEntries ((out ++ f) ++ second)) (sym e) (rw (append-nil out) g.right)
    | inr e ↦ subst (λ s. AreEntries ((out ++ first) ++ s)) (sym e) (rw (append-nil (out ++ first)) g.left)
  ],
  set_of-append (out ++ first) second
      ∙ ap (λ s. set.union s (set_of second)) (set_of-append out first)
      ∙ union_assoc (set_of out) (set_of first) (set_of second)
      ∙ g.dots,
)

module _ (xs ys out new : List EntryValue) (i j : ℕ) (x y : EntryValue) (p : i < length xs) (q : j < length ys) (x_is : x ≡ get_or xs i x) (y_is : y ≡ get_or ys j y) (g : Gathering xs ys out (drop i xs) (drop j ys)) where
  first_rest : drop i xs ≡ x ∷ drop (i + 1) xs
  first_rest = drop_more xs i x p ∙ ap (λ v. v ∷ drop (i + 1) xs) (sym x_is)

  second_rest : drop j ys ≡ y ∷ drop (j + 1) ys
  second_rest = drop_more ys j y q ∙ ap (λ v. v ∷ drop (j + 1) ys) (sym y_is)

  at_heads : Gathering xs ys out (x ∷ drop (i + 1) xs) (y ∷ drop (j + 1) ys)
  at_heads =
      subst (λ s. Gathering xs ys out (x ∷ drop (i + 1) xs) s) second_rest
      (subst (λ f. Gathering xs ys out f (drop j ys)) first_rest g)

  pub first_entry_step : (z : EntryValue) → z ≡ x → x.site < y.site → new ≡ out ++ z ∷ [] → Gathering xs ys new (drop (i + 1) xs) (drop j ys)
  first_entry_step z copied less is =
      rw (is, copied, second_rest) (gathering_first xs ys out x y (drop (i + 1) xs) (drop (j + 1) ys) less at_heads)

  pub second_entry_step : (z : EntryValue) → z ≡ y → y.site < x.site → new ≡ out ++ z ∷ [] → Gathering xs ys new (drop i xs) (drop (j + 1) ys)
  second_entry_step z copied less is =
      rw (is, copied, first_rest) (gathering_second xs ys out x y (drop (i + 1) xs) (drop (j + 1) ys) less at_heads)

  pub both_entries_step : (z : EntryValue) → x.site ≡ y.site → z.site ≡ x.site → IsEntry z → entry_dots z ≡ set.union (entry_dots x) (entry_dots y) → new ≡ out ++ z ∷ [] → Gathering xs ys new (drop (i + 1) xs) (drop (j + 1) ys)
  both_entries_step z sites site is union new_is =
      rw new_is (gathering_both xs ys out x y z (drop (i + 1) xs) (drop (j + 1) ys) sites site is union at_heads)

pub last_entries_step : (xs ys out new all : List EntryValue) (i j : ℕ) → (length xs ≤ i) ⊎ (length ys ≤ j) → Gathering xs ys out (drop i xs) (drop j ys) → new ≡ out ++ drop i xs → all ≡ new ++ drop j ys → AreEntries all × (set_of all ≡ set.union (set_of xs) (set_of ys))
last_entries_step xs ys out new all i j done g is all_is =
    let ended : (drop i xs ≡ []) ⊎ (drop j ys ≡ []) = elim done [ inl e ↦ inl (drop_all i xs e) | inr e ↦ inr (drop_all j ys e) ] in
    rw (all_is, is) (gathering_end xs ys out (drop i xs) (drop j ys) ended g)

-- ---- the entry of one dot

of_one : (d : DotValue) (e : EntryValue) → e.site ≡ d.site → ((n : ℕ) → HasCounter e.base e.loose n → n ≡ d.counter) → HasCounter e.base e.loose d.counter → entry_dots e ≡ set.insert set.empty d
of_one d e site only has =
    same_dots _ _
    (λ i n h. let parts = holds_entry e i n h in
    let sites : i ≡ d.site = parts.0 ∙ site in
    let counters : n ≡ d.counter = only n parts.1 in
    insert_new set.empty d i n (λ k. record { site = sites k; counter = counters k }))
    (λ i n h. elim (holds_insert set.empty d i n h) [
      | inl e_is ↦
          let sites : i ≡ e.site = ap (λ v. v.site) e_is ∙ sym site in
          let counters : n ≡ d.counter = ap (λ v. v.counter) e_is in
          subst (λ j. HoldsDot (entry_dots e) j n) (sym sites) (subst (λ m. HoldsDot (entry_dots e) e.site m) (sym counters) (entry_holds e d.counter has))
      | inr none ↦ absurd (empty_holds i n none)
    ])

pub first_dot_entry : (d : DotValue) (e : EntryValue) → IsDot d → d.counter ≡ 1 → e.site ≡ d.site → e.base ≡ 1 → e.loose ≡ [] → IsEntryOfDot d e
first_dot_entry d e is one site base loose =
    let shape : e ≡ record { site = d.site; base = 1; loose = [] } = λ i. record { site = site i; base = base i; loose = loose i } in
    subst (IsEntryOfDot d) (sym shape)
    record {
      form = record { site_low = is.site_low; site_high = is.site_high; base_high = omega arith; rising = tt; loose_high = tt; some = omega arith };
      dots = of_one d (record { site = d.site; base = 1; loose = [] }) refl
          (λ n h. elim h [ inl k ↦ omega (arith, k.0, k.1) | inr none ↦ absurd none ])
          (inl (is.counter_low, omega arith));
    }

pub loose_dot_entry : (d : DotValue) (e : EntryValue) → IsDot d → (d.counter ≡ 1 → ⊥) → e.site ≡ d.site → e.base ≡ 0 → e.loose ≡ d.counter ∷ [] → IsEntryOfDot d e
loose_dot_entry d e is other site base loose =
    let shape : e ≡ record { site = d.site; base = 0; loose = d.counter ∷ [] } = λ i. record { site = site i; base = base i; loose = loose i } in
    subst (IsEntryOfDot d) (sym shape)
    record {
      form = record { site_low = is.site_low; site_high = is.site_high; base_high = omega arith; rising = (omega (arith, is.counter_low), tt); loose_high = (is.counter_high, tt); some = tt };
      dots = of_one d (record { site = d.site; base = 0; loose = d.counter ∷ [] }) refl
          (λ n h. elim h [ inl k ↦ absurd (omega (arith, k.0, k.1)) | inr k ↦ elim k [ inl e_is ↦ e_is | inr none ↦ absurd none ] ])
          (inr (inl refl));
    }

-- ---- a place found by halves

pub sites_rise_or_same : (es : List EntryValue) (i j : ℕ) (d : EntryValue) → AreEntries es → i ≤ j → j < length es → (get_or es i d).site ≤ (get_or es j d).site
sites_rise_or_same es i j d form le h =
    elim (cases_lt i j) [
      | inl less ↦ omega (arith, sites_rise 0 es i j d form less h)
      | inr more ↦
          let same : i ≡ j = omega arith in
          subst (λ k. (get_or es i d).site ≤ (get_or es k d).site) same (omega arith)
    ]

pub below_middle : (es : List EntryValue) (middle site : ℕ) (e : EntryValue) → AreEntries es → middle < length es → e ≡ get_or es middle e → e.site < site → AllWithin (λ v. v.site < site) es 0 (middle + 1)
below_middle es middle site e form h is less k d low high =
    let at : e ≡ get_or es middle d = get_or_read es middle e h is d in
    omega (arith, sites_rise_or_same es k middle d form (omega arith) h, ap (λ v. v.site) at)

pub from_middle : (es : List EntryValue) (middle site : ℕ) (e : EntryValue) → AreEntries es → middle < length es → e ≡ get_or es middle e → site ≤ e.site → AllWithin (λ v. site ≤ v.site) es middle (length es)
from_middle es middle site e form h is least k d low high =
    let at : e ≡ get_or es middle d = get_or_read es middle e h is d in
    omega (arith, sites_rise_or_same es middle k d form low high, ap (λ v. v.site) at)

-- the same at an entry that was read
pub missing_read : (es : List EntryValue) (i site : ℕ) (e : EntryValue) → AreEntries es → AllWithin (λ v. v.site < site) es 0 i → AllWithin (λ v. site ≤ v.site) es i (length es) → i < length es → e ≡ get_or es i e → (e.site ≡ site → ⊥) → (n : ℕ) → HoldsDot (set_of es) site n → ⊥
missing_read es i site e form below above h is other =
    missing_entry es i site form below above (λ d _ at. other (ap (λ v. v.site) (get_or_read es i e h is d) ∙ at))

pub missing_past : (es : List EntryValue) (i site : ℕ) → AreEntries es → AllWithin (λ v. v.site < site) es 0 i → AllWithin (λ v. site ≤ v.site) es i (length es) → length es ≤ i → (n : ℕ) → HoldsDot (set_of es) site n → ⊥
missing_past es i site form below above past = missing_entry es i site form below above (λ d h _. absurd (omega arith))

-- ---- one dot more

pub union_single : (s : DotSet) (d : DotValue) → set.union s (set.insert set.empty d) ≡ set.insert s d
union_single s d =
    same_dots _ _
    (λ i n h. elim (holds_union s (set.insert set.empty d) i n h) [
      | inl k ↦ insert_old s d i n k
      | inr k ↦ elim (holds_insert set.empty d i n k) [ inl e ↦ insert_new s d i n e | inr none ↦ absurd (empty_holds i n none) ]
    ])
    (λ i n h. elim (holds_insert s d i n h) [
      | inl e ↦ union_right s _ i n (insert_new set.empty d i n e)
      | inr k ↦ union_left s _ i n k
    ])
