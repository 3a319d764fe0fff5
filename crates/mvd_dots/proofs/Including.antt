-- That one context has each dot of another, counter by counter and entry by entry.
use Rattle.std.proofs.Common.{◌≡◌, ℕ, ◌+◌, ◌<◌, ◌≤◌, ◌↔◌, List, [], ◌∷◌, ◌++◌, length, get_or, take, sym, ap, ◌∙◌, subst, ◌⊎◌, inl, inr, arith}
use Rattle.std.proofs.lemmas.List.{take_more, take_all}
use Rattle.std.specs.FinSet as set
use Rattle.mvd_dots.specs.Entry.{EntryValue, IsEntry, Among, HasCounter}
use Rattle.mvd_dots.specs.Context.{DotSet, HoldsDot, AreEntriesAbove, IsEntryAt, entry_dots, set_of}
use Rattle.mvd_dots.proofs.Rising.{among_append, among_at}
use Rattle.mvd_dots.proofs.Sets.{same_dots, holds_union, union_left, union_right}
use Rattle.mvd_dots.proofs.Members.{holds_entry, entry_holds, base_at_most, some_dot}
use Rattle.mvd_dots.proofs.EntryLists.{at_holds_entry, dots_of_push}

-- ---- sets

pub all_here : (s t : DotSet) → ((i n : ℕ) → HoldsDot t i n → HoldsDot s i n) → set.union s t ≡ s
all_here s t all =
    same_dots _ _
    (λ i n h. elim (holds_union s t i n h) [ inl k ↦ k | inr k ↦ all i n k ])
    (λ i n h. union_left s t i n h)

pub is_here : (s t : DotSet) → set.union s t ≡ s → (i n : ℕ) → HoldsDot t i n → HoldsDot s i n
is_here s t e i n h = subst (λ u. HoldsDot u i n) e (union_right s t i n h)

-- ---- one entry

pub more_counters : (e : EntryValue) (ns : List ℕ) (i : ℕ) → i < length ns → ((n : ℕ) → Among (take i ns) n → HasCounter e.base e.loose n) → HasCounter e.base e.loose (get_or ns i 0) → (n : ℕ) → Among (take (i + 1) ns) n → HasCounter e.base e.loose n
more_counters e ns i h before here n among =
    elim (among_append (take i ns) (get_or ns i 0 ∷ []) n (subst (λ xs. Among xs n) (take_more ns i 0 h) among)) [
      | inl k ↦ before n k
      | inr k ↦ elim k [ inl is ↦ subst (λ m. HasCounter e.base e.loose m) (sym is) here | inr none ↦ absurd none ]
    ]

pub counters_here : (e : EntryValue) (base : ℕ) (loose : List ℕ) → base ≤ e.base → ((n : ℕ) → Among loose n → HasCounter e.base e.loose n) → (n : ℕ) → HasCounter base loose n → HasCounter e.base e.loose n
counters_here e base loose low all n h =
    elim h [ inl k ↦ inl (k.0, omega (arith, k.1, low)) | inr k ↦ all n k ]

pub base_low : (d e : EntryValue) → IsEntry d → ((n : ℕ) → HasCounter e.base e.loose n → HasCounter d.base d.loose n) → e.base ≤ d.base
base_low d e form there = base_at_most d.base e.base d.loose e.loose form.rising there

-- ---- the entry at a site

pub entry_here : (dots : DotSet) (held e : EntryValue) → IsEntryAt dots e.site held → ((n : ℕ) → HasCounter e.base e.loose n → HasCounter held.base held.loose n) ↔ (set.union dots (entry_dots e) ≡ dots)
entry_here dots held e at = (
  λ all. all_here dots (entry_dots e) (λ i n h.
      let k = holds_entry e i n h in
      subst (λ site. HoldsDot dots site n) (sym k.0) (at.back n (all n k.1))),
  λ is n h. at.there n (is_here dots (entry_dots e) is e.site n (entry_holds e n h)),
)

pub entry_gone : (dots : DotSet) (e : EntryValue) → IsEntry e → ((n : ℕ) → HoldsDot dots e.site n → ⊥) → set.union dots (entry_dots e) ≡ dots → ⊥
entry_gone dots e form none is =
    let some = some_dot e form in
    none some.0 (is_here dots (entry_dots e) is e.site some.0 (entry_holds e some.0 some.1))

-- ---- a list of entries

pub more_entries : (dots : DotSet) (es : List EntryValue) (i : ℕ) (e : EntryValue) → i < length es → e ≡ get_or es i e → set.union dots (set_of (take i es)) ≡ dots → set.union dots (entry_dots e) ≡ dots → set.union dots (set_of (take (i + 1) es)) ≡ dots
more_entries dots es i e h at before here =
    all_here dots _ (λ site n holds.
    let here_too : HoldsDot (set.union (set_of (take i es)) (entry_dots e)) site n
    = subst (λ s. HoldsDot s site n) (ap set_of (take_more es i e h ∙ ap (λ x. take i es ++ x ∷ []) (sym at)) ∙ dots_of_push (take i es) e) holds in
    elim (holds_union (set_of (take i es)) (entry_dots e) site n here_too) [
      | inl k ↦ is_here dots _ before site n k
      | inr k ↦ is_here dots _ here site n k
    ])

pub entry_at_here : (dots : DotSet) (es : List EntryValue) (i : ℕ) (e : EntryValue) → i < length es → e ≡ get_or es i e → set.union dots (set_of es) ≡ dots → set.union dots (entry_dots e) ≡ dots
entry_at_here dots es i e h at is =
    all_here dots (entry_dots e) (λ site n holds.
    let k = holds_entry e site n holds in
    let there : HoldsDot (set_of es) e.site n = subst (λ (v : EntryValue). HoldsDot (set_of es) v.site n) (sym at) (at_holds_entry es i e h n (subst (λ (v : EntryValue). HasCounter v.base v.loose n) at k.1)) in
    is_here dots (set_of es) is site n (subst (λ s. HoldsDot (set_of es) s n) (sym k.0) there))
