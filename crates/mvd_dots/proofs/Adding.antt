-- One dot added to a list of entries, in its place.
use Rattle.std.proofs.Common.{◌≡◌, ℕ, ◌+◌, ◌<◌, ◌≤◌, List, [], ◌∷◌, ◌++◌, length, get_or, take, drop, set, sym, ap, ◌∙◌, subst, inl, inr, arith, add-one}
use Rattle.std.proofs.lemmas.List.{take-append-drop, drop_more, set_split, length-take-le, get_or-take, get_or-drop, get_or_read, length-drop}
use Rattle.std.specs.List.{AllWithin}
use Rattle.std.specs.FinSet as finite
use Rattle.mvd_dots.specs.Dot.{DotValue}
use Rattle.mvd_dots.specs.Entry.{EntryValue, IsEntry}
use Rattle.mvd_dots.specs.Context.{DotSet, HoldsDot, AreEntriesAbove, AreEntries, IsEntryOfDot, entry_dots, set_of}
use Rattle.mvd_dots.proofs.Sets.{holds_insert, empty_holds, union_assoc, union_comm}
use Rattle.mvd_dots.proofs.Members.{entry_holds, some_dot, cons_first, cons_rest, set_of-append, set_of-cons}
use Rattle.mvd_dots.proofs.EntryLists.{entries_replaced, place_of_site, sites_rise_or_same, union_single}

pub site_of_dot : (d : DotValue) (e : EntryValue) → IsEntryOfDot d e → e.site ≡ d.site
site_of_dot d e is =
    let some = some_dot e is.form in
    elim (holds_insert finite.empty d e.site some.0 (subst (λ s. HoldsDot s e.site some.0) is.dots (entry_holds e some.0 some.1))) [
      | inl q ↦ ap (λ v. v.site) q
      | inr none ↦ absurd (empty_holds e.site some.0 none)
    ]

split_at : (es : List EntryValue) (i : ℕ) (e : EntryValue) → i < length es → e ≡ get_or es i e → take i es ++ e ∷ drop (i + 1) es ≡ es
split_at es i e h is =
    ap (λ v. take i es ++ v) (ap (λ v. v ∷ drop (i + 1) es) is ∙ sym (drop_more es i e h)) ∙ take-append-drop i es

set_is : (es : List EntryValue) (i : ℕ) (z : EntryValue) → i < length es → set es i z ≡ take i es ++ z ∷ drop (i + 1) es
set_is es i z h = set_split es i z h ∙ ap (λ k. take i es ++ z ∷ drop k es) (sym (add-one i))

pub set_form : (es : List EntryValue) (i : ℕ) (e z : EntryValue) → AreEntries es → i < length es → e ≡ get_or es i e → z.site ≡ e.site → IsEntry z → AreEntries (set es i z)
set_form es i e z form h is site z_is =
    subst AreEntries (sym (set_is es i z h))
    (entries_replaced 0 (take i es) e z (drop (i + 1) es) site z_is (subst AreEntries (sym (split_at es i e h is)) form))

added_inside : (a b x s : DotSet) → finite.union a (finite.union (finite.union x s) b) ≡ finite.union (finite.union a (finite.union x b)) s
added_inside a b x s =
    ap (λ v. finite.union a v) (union_assoc x s b ∙ ap (λ v. finite.union x v) (union_comm s b) ∙ sym (union_assoc x b s))
    ∙ sym (union_assoc a (finite.union x b) s)

dots_of_split : (a : List EntryValue) (e : EntryValue) (b : List EntryValue) → set_of (a ++ e ∷ b) ≡ finite.union (set_of a) (finite.union (entry_dots e) (set_of b))
dots_of_split a e b = set_of-append a (e ∷ b) ∙ ap (λ v. finite.union (set_of a) v) (set_of-cons e b)

pub set_dots : (es : List EntryValue) (i : ℕ) (e z single : EntryValue) (d : DotValue) (s : DotSet) → i < length es → e ≡ get_or es i e → entry_dots z ≡ finite.union (entry_dots e) (entry_dots single) → IsEntryOfDot d single → set_of es ≡ s → set_of (set es i z) ≡ finite.insert s d
set_dots es i e z single d s h is union of_dot es_is =
    ap set_of (set_is es i z h)
    ∙ dots_of_split (take i es) z (drop (i + 1) es)
    ∙ ap (λ v. finite.union (set_of (take i es)) (finite.union v (set_of (drop (i + 1) es)))) union
    ∙ added_inside (set_of (take i es)) (set_of (drop (i + 1) es)) (entry_dots e) (entry_dots single)
    ∙ ap (λ v. finite.union v (entry_dots single)) (sym (dots_of_split (take i es) e (drop (i + 1) es)) ∙ ap set_of (split_at es i e h is) ∙ es_is)
    ∙ ap (λ v. finite.union s v) of_dot.dots
    ∙ union_single s d

-- ---- an entry of a new site

inserted_form : (low : ℕ) (a : List EntryValue) (x : EntryValue) (b : List EntryValue) → AreEntriesAbove low (a ++ b) → low < x.site → IsEntry x → ((site n : ℕ) → HoldsDot (set_of a) site n → site < x.site) → ((site n : ℕ) → HoldsDot (set_of b) site n → x.site < site) → AreEntriesAbove low (a ++ x ∷ b)
inserted_form low [] x [] form above is below over = (above, is, tt)
inserted_form low [] x (f ∷ b) form above is below over =
    let some = some_dot f form.1 in (above, is, (over f.site some.0 (cons_first f b some.0 some.1), form.1, form.2))
inserted_form low (e ∷ a) x b form above is below over =
    let some = some_dot e form.1 in
    (form.0, form.1, inserted_form e.site a x b form.2 (below e.site some.0 (cons_first e a some.0 some.1)) is (λ site n h. below site n (cons_rest e a site n h)) over)

none : EntryValue
none = record { site = 0; base = 0; loose = [] }

front_lower : (es : List EntryValue) (i bound : ℕ) → i ≤ length es → AllWithin (λ v. v.site < bound) es 0 i → (site n : ℕ) → HoldsDot (set_of (take i es)) site n → site < bound
front_lower es i bound h below site n holds =
    let place = place_of_site (take i es) site n none holds in
    let inside : place.0 < i = omega (arith, place.1, length-take-le i es h) in
    let at : (get_or es place.0 none).site ≡ site = ap (λ v. v.site) (sym (get_or-take i es place.0 none inside)) ∙ place.2 in
    omega (arith, below place.0 none (omega arith) inside, at)

rest_higher : (es : List EntryValue) (i bound : ℕ) → AllWithin (λ v. bound < v.site) es i (length es) → (site n : ℕ) → HoldsDot (set_of (drop i es)) site n → bound < site
rest_higher es i bound above site n holds =
    let place = place_of_site (drop i es) site n none holds in
    let at : (get_or es (i + place.0) none).site ≡ site = ap (λ v. v.site) (sym (get_or-drop i es place.0 none)) ∙ place.2 in
    omega (arith, above (i + place.0) none (omega arith) (omega (arith, place.1, length-drop i es)), at)

-- at a place whose entry is of another site, all from there on are higher
pub higher_read : (es : List EntryValue) (i bound : ℕ) (e : EntryValue) → AreEntries es → AllWithin (λ v. bound ≤ v.site) es i (length es) → i < length es → e ≡ get_or es i e → (e.site ≡ bound → ⊥) → AllWithin (λ v. bound < v.site) es i (length es)
higher_read es i bound e form above h is other k d low high =
    let at : e ≡ get_or es i d = get_or_read es i e h is d in
    let sites : e.site ≡ (get_or es i d).site = ap (λ v. v.site) at in
    let first = above i d (omega arith) h in
    elim (Rattle.std.proofs.lemmas.Bool.cases_eq e.site bound) [
      | inl same ↦ absurd (other same)
      | inr apart ↦ omega (arith, sites_rise_or_same es i k d form low high, first, sites)
    ]

pub higher_past : (es : List EntryValue) (i bound : ℕ) → length es ≤ i → AllWithin (λ v. bound < v.site) es i (length es)
higher_past es i bound past k d low high = absurd (omega arith)

module _ (es new : List EntryValue) (i : ℕ) (x : EntryValue) (d : DotValue) (s : DotSet) (form : AreEntries es) (h : i ≤ length es) (of_dot : IsEntryOfDot d x) (new_is : new ≡ take i es ++ x ∷ drop i es) where
  pub inserted_entries : AllWithin (λ v. v.site < d.site) es 0 i → AllWithin (λ v. d.site < v.site) es i (length es) → AreEntries new
  inserted_entries below above =
      let site = site_of_dot d x of_dot in
      subst AreEntries (sym new_is)
      (inserted_form 0 (take i es) x (drop i es) (subst AreEntries (sym (take-append-drop i es)) form) of_dot.form.site_low of_dot.form
      (λ j n held. omega (arith, site, front_lower es i d.site h below j n held))
      (λ j n held. omega (arith, site, rest_higher es i d.site above j n held)))

  pub inserted_dots : set_of es ≡ s → set_of new ≡ finite.insert s d
  inserted_dots es_is =
      ap set_of new_is
      ∙ dots_of_split (take i es) x (drop i es)
      ∙ ap (λ v. finite.union (set_of (take i es)) v) (union_comm (entry_dots x) (set_of (drop i es)))
      ∙ sym (union_assoc (set_of (take i es)) (set_of (drop i es)) (entry_dots x))
      ∙ ap (λ v. finite.union v (entry_dots x)) (sym (set_of-append (take i es) (drop i es)) ∙ ap set_of (take-append-drop i es) ∙ es_is)
      ∙ ap (λ v. finite.union s v) of_dot.dots
      ∙ union_single s d
