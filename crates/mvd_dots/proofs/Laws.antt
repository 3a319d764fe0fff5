-- Sets within the limits are equal exactly where their entries are, and where their texts are.
use Rattle.std.proofs.Common.{◌≡◌, ℕ, Bool, true, false, ◌==◌, List, [], ◌∷◌, length, Err, ◌⊎◌, inl, inr, refl, sym, ap, ◌∙◌, ◌↔◌, arith, eqb-true, ne_eqb}
use Rattle.std.specs.FinSet as set
use Rattle.mvd_dots.specs.declared.refusals.Refusal.{Refusal}
use Rattle.mvd_dots.specs.declared.refusals.Refusal.TheVariants.{BadContext, Memory}
use Rattle.mvd_dots.specs.Answer.{IsReading}
use Rattle.mvd_dots.specs.Entry.{EntryValue, HasCounter, HasDot}
use Rattle.mvd_dots.specs.Dot.{dot_cmp}
use Rattle.mvd_dots.specs.Context.{DotSet, HoldsDot, AreInRange, AreEntries, set_of, entries_of}
use Rattle.mvd_dots.specs.Text.{IsTextOf, entries_text, text_of}
use Rattle.mvd_dots.proofs.Canonical.{AreEntriesOf-entries_of, set_of-entries_of}
use Rattle.mvd_dots.proofs.Reading.{same_texts}
use Rattle.mvd_dots.proofs.Members.{set_of-nil, cons_first}
use Rattle.mvd_dots.proofs.Sets.{empty_holds}

-- what has entries has just the dots of the set
pub one_set : (s t : DotSet) → AreInRange s → AreInRange t → entries_of s ≡ entries_of t → s ≡ t
one_set s t p q same = sym (set_of-entries_of s p) ∙ ap set_of same ∙ set_of-entries_of t q

-- sets within the limits are equal exactly where their entries are
pub entries_decide : (s t : DotSet) → AreInRange s → AreInRange t → (s ≡ t) ↔ (entries_of s ≡ entries_of t)
entries_decide s t p q = (λ same. ap entries_of same, one_set s t p q)

-- and exactly where their texts are
pub texts_decide : (s t : DotSet) → AreInRange s → AreInRange t → (s ≡ t) ↔ (text_of s ≡ text_of t)
texts_decide s t p q = (
  λ same. ap text_of same,
  λ same. one_set s t p q (same_texts (entries_of s) (entries_of t) (AreEntriesOf-entries_of s p).form (AreEntriesOf-entries_of t q).form same),
)

-- a text that is of no entries is of no set
pub reading_refused : (text : List ℕ) (e : Refusal) → (e ≡ BadContext) ⊎ (e ≡ Memory) → (e ≡ BadContext → (es : List EntryValue) → AreEntries es → text ≡ entries_text es → ⊥) → IsReading (λ dots. IsTextOf dots text) BadContext (Err e)
reading_refused text e only none other =
    elim only [
      | inl bad ↦ (bad, λ dots is. none bad (entries_of dots) (AreEntriesOf-entries_of dots is.in_range).form is.spelled)
      | inr memory ↦ absurd (other memory)
    ]

-- ---- whether there is a dot

some_counter : (base : ℕ) (loose : List ℕ) → HasDot base loose → (n : ℕ) × HasCounter base loose n
some_counter base [] some = (base, inl (some, omega arith))
some_counter base (n ∷ ns) some = (n, inr (inl refl))

-- a set with a dot is not of length 0
pub counted_dot : (dots : DotSet) (site n : ℕ) → HoldsDot dots site n → (set.len dots == 0) ≡ false
counted_dot dots site n has = elim (set.len dots == 0) as (λ b. (set.len dots == 0) ≡ b → b ≡ false) [
  | true ↦ λ none. absurd (empty_holds site n (ap (λ s. set.contains s record { site = site; counter = n }) (sym (set.empty_of_len dots (eqb-true (set.len dots) 0 none))) ∙ has))
  | false ↦ λ _. refl
] refl

-- entries in form are as empty as the set of their dots
pub counted_entries : (es : List EntryValue) → AreEntries es → (length es == 0) ≡ (set.len (set_of es) == 0)
counted_entries [] form = sym (ap (λ s. set.len s == 0) set_of-nil ∙ ap (λ n. n == 0) (set.len-empty dot_cmp))
counted_entries (e ∷ es) form =
    let some : (n : ℕ) × HasCounter e.base e.loose n = some_counter e.base e.loose form.1.some in
    ne_eqb (length (e ∷ es)) 0 (λ none. absurd (omega (arith, none))) ∙ sym (counted_dot (set_of (e ∷ es)) e.site some.0 (cons_first e es some.0 some.1))

-- a set has the length 0 exactly where it is empty
pub empty_decides : (dots : DotSet) (b : Bool) → b ≡ (set.len dots == 0) → (b ≡ true) ↔ (dots ≡ set.empty)
empty_decides dots b is = (
  λ h. set.empty_of_len dots (eqb-true (set.len dots) 0 (sym is ∙ h)),
  λ e. is ∙ ap (λ s. set.len s == 0) e ∙ ap (λ n. n == 0) (set.len-empty dot_cmp),
)
