-- A state of the first version of the format has a spelling in the second, which is at most an eighth longer.
use Rattle.std.proofs.Common.{ℕ, ◌+◌, ◌*◌, ◌≤◌, List, [], ◌∷◌, length, Option, Some, None, Result, Ok, Err, subst, arith}
use Rattle.std.specs.Prelude.{IfOk}
use Rattle.std.specs.Int.{w16, w32}
use Rattle.std.specs.FinMap.{entries as pairs}
use Rattle.std.proofs.lemmas.Bool.{leb-true, le-leb}
use Rattle.std.proofs.lemmas.List.{length-append}
use Rattle.mvd_dots.specs.declared.refusals.Refusal.{Refusal}
use Rattle.mvd_dots.specs.Dot.{DotValue}
use Rattle.mvd_dots.specs.Entry.{EntryValue}
use Rattle.mvd_dots.specs.Context.{DotSet, entries_of}
use Rattle.mvd_keys.specs.State.{State, Text}
use Rattle.mvd_wire.specs.Codec.{Codec, Spells, number, spell_each, FitEach}
use Rattle.mvd_wire.specs.Codecs.{layout1, layout2, state_limit, dot, document, loose_above, entry, entries, context_codec, sibling, siblings_codec, unlimited_state, state_codec, spell_state}
use Rattle.mvd_wire.proofs.Spellings.{sized_number, unlimited_is}

-- ---- what fits the first version fits the second

narrow : (n : ℕ) → (number w16).Fits n → (number w32).Fits n
unfolding number
narrow n fits = omega arith

entry_widens : (previous : ℕ) (e : EntryValue) → (entry layout1 previous).Fits e → (entry layout2 previous).Fits e
unfolding entry
entry_widens previous e fits = (((narrow e.site fits.0.0.0, fits.0.0.1), fits.0.1), fits.1)

entries_widen : (previous : ℕ) (es : List EntryValue) → FitEach (entry layout1) (λ _ e. e.site) previous es → FitEach (entry layout2) (λ _ e. e.site) previous es
entries_widen previous [] fits = tt
entries_widen previous (e ∷ es) fits = (entry_widens previous e fits.0, entries_widen e.site es fits.1)

context_widens : (dots : DotSet) → (context_codec layout1).Fits dots → (context_codec layout2).Fits dots
unfolding context_codec entries
context_widens dots fits = (fits.0, (narrow (length (entries_of dots)) fits.1.0, (fits.1.1.0, entries_widen 0 (entries_of dots) fits.1.1.1)))

sibling_widens : (dots : DotSet) (previous : Option DotValue) (p : DotValue × Text) → (sibling layout1 dots previous).Fits p → (sibling layout2 dots previous).Fits p
unfolding sibling dot
sibling_widens dots previous p fits = ((((narrow p.0.site fits.0.0.0.0, fits.0.0.0.1), fits.0.0.1), fits.0.1), fits.1)

each_sibling_widens : (dots : DotSet) (previous : Option DotValue) (ps : List (DotValue × Text)) → FitEach (sibling layout1 dots) (λ _ s. Some s.0) previous ps → FitEach (sibling layout2 dots) (λ _ s. Some s.0) previous ps
each_sibling_widens dots previous [] fits = tt
each_sibling_widens dots previous (p ∷ ps) fits = (sibling_widens dots previous p fits.0, each_sibling_widens dots (Some p.0) ps fits.1)

siblings_widen : (dots : DotSet) (ps : List (DotValue × Text)) → (siblings_codec layout1 dots).Fits ps → (siblings_codec layout2 dots).Fits ps
unfolding siblings_codec
siblings_widen dots ps fits = (fits.0, (fits.1.0, each_sibling_widens dots None ps fits.1.1))

-- ---- the lengths: seven bytes become at most eight

entry_stretched : (previous : ℕ) (e : EntryValue) → 7 * length ((entry layout2 previous).spell e) ≤ 8 * length ((entry layout1 previous).spell e)
unfolding entry loose_above
entry_stretched previous e =
    let site = sized_number e.site in
    let base = sized_number e.base in
    let count = sized_number (length e.loose) in
    simp length-append (omega (arith, site.0, site.1, base.2, count.1))

sibling_stretched : (dots : DotSet) (previous : Option DotValue) (p : DotValue × Text) → 7 * length ((sibling layout2 dots previous).spell p) ≤ 8 * length ((sibling layout1 dots previous).spell p)
unfolding sibling dot document
sibling_stretched dots previous p =
    let site = sized_number p.0.site in
    let counter = sized_number p.0.counter in
    let count = sized_number (length p.1) in
    simp length-append (omega (arith, site.0, site.1, counter.2, count.1))

module _ {S X : Type 0} (old new : S → Codec X) (next : S → X → S) (one : (s : S) (x : X) → 7 * length ((new s).spell x) ≤ 8 * length ((old s).spell x)) where
  each_stretched : (s : S) (xs : List X) → 7 * length (spell_each new next s xs) ≤ 8 * length (spell_each old next s xs)
  each_stretched s [] = omega arith
  each_stretched s (x ∷ xs) =
      omega (arith, length-append ((new s).spell x) (spell_each new next (next s x) xs), length-append ((old s).spell x) (spell_each old next (next s x) xs), one s x, each_stretched (next s x) xs)

context_stretched : (dots : DotSet) → 7 * length ((context_codec layout2).spell dots) ≤ 8 * length ((context_codec layout1).spell dots) + 12
unfolding context_codec entries
context_stretched dots =
    let es = entries_of dots in
    let count = sized_number (length es) in
    simp length-append (omega (arith, count.0, count.1, each_stretched (entry layout1) (entry layout2) (λ _ e. e.site) entry_stretched 0 es))

siblings_stretched : (dots : DotSet) (ps : List (DotValue × Text)) → 7 * length ((siblings_codec layout2 dots).spell ps) ≤ 8 * length ((siblings_codec layout1 dots).spell ps)
unfolding siblings_codec
siblings_stretched dots ps =
    let count = sized_number (length ps) in
    simp length-append (omega (arith, count.0, each_stretched (sibling layout1 dots) (sibling layout2 dots) (λ _ s. Some s.0) (sibling_stretched dots) None ps))

state_stretched : (s : State) → 7 * length ((unlimited_state layout2).spell s) ≤ 8 * length ((unlimited_state layout1).spell s) + 12
unfolding unlimited_state
state_stretched s =
    let ps = pairs s.siblings in
    omega (arith, length-append ((context_codec layout2).spell s.context) ((siblings_codec layout2 s.context).spell ps), length-append ((context_codec layout1).spell s.context) ((siblings_codec layout1 s.context).spell ps), context_stretched s.context, siblings_stretched s.context ps)

-- ---- states

parts_widen : (s : State) → (unlimited_state layout1).Fits s → (unlimited_state layout2).Fits s
unfolding unlimited_state
parts_widen s fits = (context_widens s.context fits.0, siblings_widen s.context (pairs s.siblings) fits.1)

state_fits_anew : (s : State) → (unlimited_state layout1).Fits s → length ((unlimited_state layout1).spell s) ≤ 1000000 → (state_codec layout2).Fits s × (length (spell_state s) ≤ state_limit)
unfolding state_codec
state_fits_anew s fits short =
    let long : length ((unlimited_state layout2).spell s) ≤ state_limit = omega (arith, state_stretched s, short) in
    ((parts_widen s fits, le-leb _ _ long), subst (λ (bytes : List ℕ). length bytes ≤ state_limit) (unlimited_is s) long)

pub old_state_is_short : (s : State) → (state_codec layout1).Fits s → (state_codec layout2).Fits s × (length (spell_state s) ≤ state_limit)
unfolding state_codec
old_state_is_short s fits = state_fits_anew s fits.0 (leb-true _ _ fits.1)

-- a state that was read so
pub was_spelled : (bytes : List ℕ) (r : Result State Refusal) → IfOk r (λ s. Spells (state_codec layout1) s bytes) → IfOk r (λ s. (state_codec layout2).Fits s)
was_spelled bytes (Ok s) found = (old_state_is_short s found.0).0
was_spelled bytes (Err e) found = tt

pub was_short : (bytes : List ℕ) (r : Result State Refusal) → IfOk r (λ s. Spells (state_codec layout1) s bytes) → IfOk r (λ s. length (spell_state s) ≤ state_limit)
was_short bytes (Ok s) found = (old_state_is_short s found.0).1
was_short bytes (Err e) found = tt
