-- The spelling of a list of values, where what came before does not change it.
use Rattle.std.proofs.Common.{◌≡◌, ℕ, ◌+◌, ◌*◌, arith, List, [], ◌∷◌, ◌++◌, length, Option, Some, None, Result, Ok, Err, if◌then◌else◌, nat_le, refl, sym, ap, ◌∙◌, append_assoc}
use Rattle.std.specs.Int.{w16, w32, w64}
use Rattle.std.specs.List.{flat_map}
use Rattle.std.specs.FinMap.{entries as pairs}
use Rattle.std.proofs.lemmas.List.Concat.{flat_map-cons}
use Rattle.std.proofs.lemmas.List.{length-append}
use Rattle.mvd_dots.specs.declared.refusals.Refusal.{Refusal}
use Rattle.mvd_dots.specs.declared.refusals.Refusal.TheVariants.{StateTooLarge}
use Rattle.mvd_dots.specs.Dot.{DotValue}
use Rattle.mvd_dots.specs.Entry.{EntryValue}
use Rattle.std.specs.FinSet as set
use Rattle.mvd_dots.specs.Context.{DotSet, entries_of, set_of}
use Rattle.mvd_keys.proofs.Parts.{entries_of_pairs}
use Rattle.mvd_dots.proofs.Canonical.{entries_are}
use Rattle.mvd_keys.specs.State.{State, Text, empty_state, pair_of, pairs_of}
use Rattle.mvd_keys.specs.declared.siblings.Sibling.{Sibling}
use Rattle.mvd_wire.specs.Codec.{Codec, number, raw, spell_each, spelled_within}
use Rattle.mvd_wire.specs.Codecs.{layout2, state_limit, dot, document, loose_from, loose_above, entry, entries, context_codec, sibling, siblings_codec, unlimited_state, state_codec, spell_state, spell_entry, spell_sibling}

pub spell_each-flat_map : {S X : Type 0} (kind : S → Codec X) (next : S → X → S) (f : X → List ℕ) → ((s : S) (x : X) → (kind s).spell x ≡ f x) → (s : S) (xs : List X) → spell_each kind next s xs ≡ flat_map f xs
spell_each-flat_map kind next f same s [] = refl
spell_each-flat_map kind next f same s (x ∷ xs) =
    rw (same s x, spell_each-flat_map kind next f same (next s x) xs, flat_map-cons) refl

entry_is : (previous : ℕ) (e : EntryValue) → (entry layout2 previous).spell e ≡ spell_entry e
unfolding entry loose_above loose_from
entry_is previous e = ap (λ (t : List ℕ). (number w32).spell e.site ++ ((number w64).spell e.base ++ ((number w32).spell (length e.loose) ++ t))) (spell_each-flat_map loose_from (λ _ n. n + 1) (number w64).spell (λ s n. refl) (e.base + 2) e.loose)

pub entries_is : (es : List EntryValue) → (entries layout2).spell es ≡ (number w32).spell (length es) ++ flat_map spell_entry es
unfolding entries
entries_is es = ap (λ (t : List ℕ). (number w32).spell (length es) ++ t) (spell_each-flat_map (entry layout2) (λ _ e. e.site) spell_entry entry_is 0 es)

pub context_is : (dots : DotSet) → (context_codec layout2).spell dots ≡ (number w32).spell (length (entries_of dots)) ++ flat_map spell_entry (entries_of dots)
unfolding context_codec
context_is dots = entries_is (entries_of dots)

pub sibling_parts : (s : DotValue × Text) → (dot layout2).spell s.0 ++ document.spell s.1 ≡ spell_sibling s
unfolding dot document raw
sibling_parts s = refl

sibling_is : (dots : DotSet) (previous : Option DotValue) (s : DotValue × Text) → (sibling layout2 dots previous).spell s ≡ spell_sibling s
unfolding sibling
sibling_is dots previous s = sibling_parts s

pub state_is : (s : State) → spell_state s ≡ (context_codec layout2).spell s.context ++ ((number w16).spell (length (pairs s.siblings)) ++ flat_map spell_sibling (pairs s.siblings))
unfolding spell_state
state_is s = ap (λ (t : List ℕ). t ++ ((number w16).spell (length (pairs s.siblings)) ++ flat_map spell_sibling (pairs s.siblings))) (sym (context_is s.context))

-- the codec of states spells a state so
pub codec_is : (s : State) → (state_codec layout2).spell s ≡ spell_state s
unfolding state_codec unlimited_state siblings_codec
codec_is s =
    ap (λ (t : List ℕ). (context_codec layout2).spell s.context ++ ((number w16).spell (length (pairs s.siblings)) ++ t)) (spell_each-flat_map (sibling layout2 s.context) (λ _ x. Some x.0) spell_sibling (sibling_is s.context) None (pairs s.siblings))
    ∙ sym (state_is s)

-- so is the spelling, where it is not too long
pub spelled_as : (s : State) → spelled_within StateTooLarge state_limit (state_codec layout2) s ≡ (if nat_le (length (spell_state s)) state_limit then Ok (spell_state s) else Err StateTooLarge)
spelled_as s = ap (λ (bytes : List ℕ). if nat_le (length bytes) state_limit then Ok bytes else Err StateTooLarge) (codec_is s)

pub unlimited_is : (s : State) → (unlimited_state layout2).spell s ≡ spell_state s
unfolding unlimited_state siblings_codec
unlimited_is s =
    ap (λ (t : List ℕ). (context_codec layout2).spell s.context ++ ((number w16).spell (length (pairs s.siblings)) ++ t)) (spell_each-flat_map (sibling layout2 s.context) (λ _ x. Some x.0) spell_sibling (sibling_is s.context) None (pairs s.siblings))
    ∙ sym (state_is s)

-- ---- lengths

pub sized_number : (n : ℕ) → (length ((number w16).spell n) ≡ 2) × (length ((number w32).spell n) ≡ 4) × (length ((number w64).spell n) ≡ 8)
unfolding number
sized_number n = (refl, refl, refl)

pub length_sibling : (s : DotValue × Text) → length (spell_sibling s) ≡ length s.1 + 16
length_sibling s =
    let a = sized_number s.0.site in
    let b = sized_number s.0.counter in
    let d = sized_number (length s.1) in
    simp length-append (omega (arith, a.1, b.2, d.1))

length_loose : (xs : List ℕ) → length (flat_map (number w64).spell xs) ≡ 8 * length xs
length_loose [] = refl
length_loose (x ∷ xs) =
    let a = sized_number x in
    rw (flat_map-cons, length-append, a.2, length_loose xs) (omega arith)

pub length_entry : (e : EntryValue) → length (spell_entry e) ≡ 8 * length e.loose + 16
length_entry e =
    let a = sized_number e.site in
    let b = sized_number e.base in
    let n = sized_number (length e.loose) in
    simp (length-append, length_loose) (omega (arith, a.1, b.2, n.1))

pub length_context : (dots : DotSet) → length ((context_codec layout2).spell dots) ≡ length (flat_map spell_entry (entries_of dots)) + 4
length_context dots =
    let n = sized_number (length (entries_of dots)) in
    rw (context_is dots, length-append) (omega (arith, n.1))

pub length_state : (s : State) → length (spell_state s) ≡ length ((context_codec layout2).spell s.context) + 2 + length (flat_map spell_sibling (pairs s.siblings))
length_state s =
    let n = sized_number (length (pairs s.siblings)) in
    rw (state_is s, length-append, length-append) (omega (arith, n.0))

one_sibling_first : (x : DotValue × Text) (ps : List (DotValue × Text)) → length (flat_map spell_sibling (x ∷ ps)) ≡ length (spell_sibling x) + length (flat_map spell_sibling ps)
one_sibling_first x ps = rw (flat_map-cons, length-append (spell_sibling x) (flat_map spell_sibling ps)) refl

pub one_sibling_more : (ss : List Sibling) (s : Sibling) → length (flat_map spell_sibling (pairs_of (ss ++ s ∷ []))) ≡ length (flat_map spell_sibling (pairs_of ss)) + length (spell_sibling (pair_of s))
one_sibling_more [] s = rw (flat_map-cons, length-append) (omega arith)
one_sibling_more (x ∷ ss) s =
    omega (arith, one_sibling_first (pair_of x) (pairs_of (ss ++ s ∷ [])), one_sibling_first (pair_of x) (pairs_of ss), one_sibling_more ss s)

-- three texts put one after the other
pub three : (a b c d x y z : List ℕ) → b ≡ a ++ x → c ≡ b ++ y → d ≡ c ++ z → d ≡ a ++ (x ++ (y ++ z))
three a b c d x y z p q r =
    r ∙ ap (λ (t : List ℕ). t ++ z) (q ∙ ap (λ (t : List ℕ). t ++ y) p) ∙ append_assoc (a ++ x) y z ∙ append_assoc a x (y ++ z)

-- ---- the empty state

no_entries : entries_of set.empty ≡ []
unfolding set_of
no_entries = sym (entries_are set.empty [] (record { form = tt; same = refl }))

no_siblings : pairs (empty_state.siblings) ≡ []
no_siblings = entries_of_pairs [] refl

pub length_empty : length (spell_state empty_state) ≡ 6
length_empty =
    let none : length (flat_map spell_entry (entries_of set.empty)) ≡ 0 = ap (λ es. length (flat_map spell_entry es)) no_entries in
    let no_more : length (flat_map spell_sibling (pairs (empty_state.siblings))) ≡ 0 = ap (λ ss. length (flat_map spell_sibling ss)) no_siblings in
    rw (length_state empty_state) (omega (arith, length_context set.empty, none, no_more))
