-- The one list of entries of a set of dots, and the lists of entries that have a spelling.
use Rattle.std.proofs.Common.{◌≡◌, ℕ, suc, ◌+◌, ◌*◌, ◌<◌, ◌≤◌, ◌^◌, leb, List, [], ◌∷◌, length, Result, Ok, Err, ◌≢◌, ◌-◌, refl, sym, ap, ◌∙◌, arith, inl, inr}
use Rattle.std.proofs.lemmas.Bool.{leb-true, ltb-true}
use Rattle.std.specs.Int.{byte_len}
use Rattle.mvd_dots.specs.declared.dots.TheConstants.{COUNTER_MAX}
use Rattle.mvd_dots.specs.Entry.{EntryValue, IsEntry, RisesAbove, AllBelow, HasDot}
use Rattle.mvd_dots.specs.Context.{DotSet, HoldsDot, AreEntriesAbove, entry_dots, set_of}
use Rattle.std.specs.FinSet as set
use Rattle.mvd_dots.specs.declared.refusals.Refusal.{Refusal}
use Rattle.mvd_dots.specs.declared.refusals.Refusal.TheVariants.{Memory}
use Rattle.mvd_dots.proofs.Sets.{union-empty, union_empty_left, union_assoc, holds_union}
use Rattle.mvd_dots.proofs.Members.{set_of-nil, set_of-cons, holds_entry}
use Rattle.mvd_keys.proofs.Lists.{and_true}
use Rattle.mvd_wire.specs.Codec.{◌>>=◌, number, FitEach, read_each}
use Rattle.mvd_wire.specs.Codecs.{Layout, entry, loose_from, loose_above, dots_read, entries, context_codec}

-- ---- what fits is in the form of entries

loose_form : (low least : ℕ) (ns : List ℕ) → least ≡ low + 1 → FitEach loose_from (λ _ n. n + 1) least ns → RisesAbove low ns × AllBelow (2 ^ 48) ns
unfolding loose_from
loose_form low least [] at fits = (tt, tt)
loose_form low least (n ∷ ns) at fits =
    let tests = and_true (leb least n) (leb n COUNTER_MAX) fits.0.1 in
    let above : least ≤ n = leb-true _ _ tests.0 in
    let below : n ≤ COUNTER_MAX = leb-true _ _ tests.1 in
    let rest = loose_form n (n + 1) ns refl fits.1 in
    ((omega arith, rest.0), (omega arith, rest.1))

has_dot : (base : ℕ) (loose : List ℕ) → 0 < base + length loose → HasDot base loose
has_dot base [] some = omega arith
has_dot base (n ∷ ns) some = tt

pub entry_form : (v : Layout) (previous : ℕ) (e : EntryValue) → 2 ^ (8 * byte_len v.site) ≤ 2 ^ 32 → (entry v previous).Fits e → (previous < e.site) × IsEntry e
unfolding entry loose_above number
entry_form v previous e narrow fits =
    let above : previous < e.site = ltb-true _ _ fits.0.0.1 in
    let site : e.site < 2 ^ (8 * byte_len v.site) = fits.0.0.0 in
    let base : e.base ≤ COUNTER_MAX = leb-true _ _ fits.0.1.0.1 in
    let loose = loose_form (e.base + 1) (e.base + 2) e.loose (omega arith) fits.0.1.1.1.1 in
    let some : 0 < e.base + length e.loose = ltb-true _ _ fits.1 in (
      above,
      record {
        site_low = omega arith;
        site_high = omega arith;
        base_high = omega arith;
        rising = loose.0;
        loose_high = loose.1;
        some = has_dot e.base e.loose some;
      },
    )

pub entries_form : (v : Layout) (previous : ℕ) (es : List EntryValue) → 2 ^ (8 * byte_len v.site) ≤ 2 ^ 32 → FitEach (entry v) (λ _ e. e.site) previous es → AreEntriesAbove previous es
entries_form v previous [] narrow fits = tt
entries_form v previous (e ∷ es) narrow fits =
    let one = entry_form v previous e narrow fits.0 in
    (one.0, one.1, entries_form v e.site es narrow fits.1)

-- ---- the dots of entries, as a loop gathers them

-- the dots so far, and those that are still read
abbrev pub with_dots : DotSet → Result (List EntryValue × List ℕ) Refusal → Result (DotSet × List ℕ) Refusal
with_dots dots found = found >>= λ x. Ok (set.union dots (set_of x.0), x.1)

regroup : (dots : DotSet) (e : EntryValue) (found : Result (List EntryValue × List ℕ) Refusal) → with_dots dots (found >>= λ x. Ok (e ∷ x.0, x.1)) ≡ with_dots (set.union dots (entry_dots e)) found
regroup dots e (Ok x) = ap (λ (s : DotSet). Ok (s, x.1)) (ap (set.union dots) (set_of-cons e x.0) ∙ sym (union_assoc dots (entry_dots e) (set_of x.0)))
regroup dots e (Err f) = refl

pub dots_start : (found : Result (List EntryValue × List ℕ) Refusal) → with_dots set.empty found ≡ dots_read found
dots_start (Ok x) = ap (λ (s : DotSet). Ok (s, x.1)) (union_empty_left (set_of x.0))
dots_start (Err f) = refl

module _ (v : Layout) where
  abbrev rest_of : ℕ → ℕ → List ℕ → Result (List EntryValue × List ℕ) Refusal
  rest_of previous n bytes = read_each (entry v) (λ _ e. e.site) previous n bytes

  pub dots_go_on : (dots : DotSet) (previous count i : ℕ) (bytes : List ℕ) (e : EntryValue) (after : List ℕ) (total : Result (DotSet × List ℕ) Refusal) → i < count → (entry v previous).read bytes ≡ Ok (e, after)
      → with_dots dots (rest_of previous (count - i) bytes) ≡ total → with_dots (set.union dots (entry_dots e)) (rest_of e.site (count - (i + 1)) after) ≡ total
  unfolding read_each
  dots_go_on dots previous count i bytes e after total lt h so_far =
      let k : count - i ≡ suc (count - (i + 1)) = omega arith in
      let one : with_dots dots (rest_of previous (count - i) bytes) ≡ with_dots (set.union dots (entry_dots e)) (rest_of e.site (count - (i + 1)) after) = rw (k, h) (regroup dots e (rest_of e.site (count - (i + 1)) after)) in
      sym one ∙ so_far

  pub dots_end : (f : Refusal) (dots : DotSet) (previous count i : ℕ) (bytes : List ℕ) (total : Result (DotSet × List ℕ) Refusal) → i < count → (f ≢ Memory → (entry v previous).read bytes ≡ Err f)
      → with_dots dots (rest_of previous (count - i) bytes) ≡ total → f ≢ Memory → total ≡ Err f
  unfolding read_each
  dots_end f dots previous count i bytes total lt h so_far no_memory =
      let k : count - i ≡ suc (count - (i + 1)) = omega arith in
      let fault = h no_memory in
      let one : with_dots dots (rest_of previous (count - i) bytes) ≡ Err f = rw (k, fault) refl in
      sym so_far ∙ one

  pub dots_done : (dots : DotSet) (previous count i : ℕ) (bytes : List ℕ) (total : Result (DotSet × List ℕ) Refusal) → count ≤ i → with_dots dots (rest_of previous (count - i) bytes) ≡ total → total ≡ Ok (dots, bytes)
  unfolding read_each
  dots_done dots previous count i bytes total le so_far =
      let k : count - i ≡ 0 = omega arith in
      let one : with_dots dots (rest_of previous (count - i) bytes) ≡ Ok (dots, bytes) = rw k (ap (λ (s : DotSet). Ok (s, bytes)) (ap (set.union dots) set_of-nil ∙ union-empty dots)) in
      sym so_far ∙ one

counted_dots : (n : ℕ) (found : Result (List EntryValue × List ℕ) Refusal) → dots_read (◌>>=◌ {A = (ℕ × List EntryValue) × List ℕ} (found >>= λ y. Ok ((n, y.0), y.1)) (λ x. Ok (x.0.1, x.1))) ≡ dots_read found
counted_dots n (Ok x) = refl
counted_dots n (Err f) = refl

-- a context is its number of entries and then its entries
pub context_read : (v : Layout) (n : ℕ) (bytes rest : List ℕ) → (number v.entries).read bytes ≡ Ok (n, rest) → (context_codec v).read bytes ≡ dots_read (read_each (entry v) (λ _ e. e.site) 0 n rest)
unfolding context_codec entries
context_read v n bytes rest e = rw e (counted_dots n (read_each (entry v) (λ _ e. e.site) 0 n rest))

-- a set whose sites are at most one number, and one entry of a site above it
pub sites_after : (dots : DotSet) (low : ℕ) (e : EntryValue) → ((site n : ℕ) → HoldsDot dots site n → site ≤ low) → low < e.site → (site n : ℕ) → HoldsDot (set.union dots (entry_dots e)) site n → site ≤ e.site
sites_after dots low e within above site n there =
    elim (holds_union dots (entry_dots e) site n there) [
      | inl old ↦ let k = within site n old in omega arith
      | inr new ↦ let k = (holds_entry e site n new).0 in omega (arith, k)
    ]
