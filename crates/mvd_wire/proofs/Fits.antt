-- What the types hold has a spelling.
use Rattle.std.proofs.Common.{◌≡◌, ℕ, suc, ◌+◌, ◌*◌, ◌<◌, ◌≤◌, ◌^◌, Bool, true, false, T, cond, not, ltb, leb, ◌&&◌, List, [], ◌∷◌, ◌++◌, length, Option, Some, None, Result, Ok, Err, refl, sym, subst, arith}
use Rattle.std.proofs.lemmas.Bool.{leb-true, ltb-true, le-leb, lt-ltb}
use Rattle.std.proofs.lemmas.List.{length-append, length-map}
use Rattle.std.proofs.lemmas.List.Concat.{flat_map-cons}
use Rattle.std.proofs.lemmas.Slice.Eq.{bytes_eq-Decides}
use Rattle.std.proofs.lemmas.Str.{is_utf8-from_IsUtf8}
use Rattle.std.specs.List.{All, flat_map, list_all}
use Rattle.std.specs.Str.{is_utf8, bytes_eq}
use Rattle.std.specs.FinSet.{contains}
use Rattle.std.specs.FinMap.{entries as pairs, is_sorted}
use Rattle.std.specs.FinMap.Entries.{below_all}
use Rattle.std.specs.Ordering.{is_lt}
use Rattle.serde_json.specs.Data.{Data, null, boolean, number as num, string, array, object, Members, no_members, member}
use Rattle.serde_json.specs.Read.{read}
use Rattle.serde_json.specs.Written.{compact_text, members_text}
use Rattle.json.specs.Print.{quoted}
use Rattle.mvd_dots.specs.declared.refusals.Refusal.{Refusal}
use Rattle.mvd_dots.specs.declared.refusals.Refusal.TheVariants.{BadDocument, BadNumber, DocumentTooLong, NotCanonical}
use Rattle.mvd_dots.specs.Dot.{DotValue, IsDot, dot_cmp}
use Rattle.mvd_dots.specs.Entry.{EntryValue, IsEntry, RisesAbove, AllBelow, HasDot}
use Rattle.mvd_dots.specs.Context.{DotSet, AreInRange, AreEntriesAbove, entries_of}
use Rattle.mvd_dots.proofs.Canonical.{AreEntriesOf-entries_of}
use Rattle.mvd_docs.specs.Name.{is_graphic}
use Rattle.mvd_docs.specs.Numbers.{has_whole_numbers}
use Rattle.mvd_docs.specs.Document.{IsDocument, canonical_document_of, document_of, document_of_data, document_of_read, same_text}
use Rattle.mvd_keys.specs.Key.{is_key}
use Rattle.mvd_keys.specs.State.{State, Text, AreParts, pair_of, pairs_of}
use Rattle.mvd_keys.specs.declared.siblings.Sibling.{Sibling}
use Rattle.mvd_keys.proofs.Parts.{is_true, holds, tests_of_parts}
use Rattle.mvd_keys.proofs.Lists.{and_true}
use Rattle.mvd_keys.proofs.Rising.{first_true, second_true}
use Rattle.mvd_wire.specs.Codec.{number, raw, FitEach}
use Rattle.mvd_wire.specs.Prefix.{is_prefix}
use Rattle.mvd_wire.specs.Codecs.{layout2, state_limit, dot, key, prefix, token, document, loose_from, loose_above, entry, entries, context_codec, comes_after, sibling, siblings_codec, unlimited_state, state_codec, spell_state, spell_entry, spell_sibling}
use Rattle.mvd_wire.proofs.Spellings.{length_entry, length_sibling, length_context, length_state, unlimited_is}

-- ---- keys, prefixes, tokens

pub key_fits : (k : Text) → is_key k ≡ true → key.Fits k
unfolding key raw
key_fits k is =
    let parts = and_true (ltb 0 (length k) && leb (length k) 128) (list_all is_graphic k) is in
    let sizes = and_true (ltb 0 (length k)) (leb (length k) 128) parts.0 in
    let some : 0 < length k = ltb-true _ _ sizes.0 in
    let few : length k ≤ 128 = leb-true _ _ sizes.1 in
    let least : leb 1 (length k) ≡ true = le-leb _ _ (omega arith) in
    ((omega arith, rw (least, sizes.1) refl), (refl, rw is refl))

pub prefix_fits : (p : Text) → is_prefix p ≡ true → prefix.Fits p
unfolding prefix raw
prefix_fits p is =
    let few_is = (and_true (leb (length p) 128) (list_all is_graphic p) is).0 in
    let few : length p ≤ 128 = leb-true _ _ few_is in
    ((omega arith, few_is), (refl, rw is refl))

pub token_fits : (t : List ℕ) → length t ≤ 256 → token.Fits t
unfolding token raw number
token_fits t few =
    let few_is : leb (length t) 256 ≡ true = le-leb _ _ few in
    ((omega arith, few_is), (refl, rw few_is refl))

-- ---- documents

not_refused : (b : Bool) (f : Refusal) (r : Result Text Refusal) (y : Text) → cond b (Err f) r ≡ Ok y → r ≡ Ok y
not_refused true f r y e = absurd cc
not_refused false f r y e = e

some_byte : (ms : Members) → 1 ≤ length (members_text false ms)
some_byte no_members = omega arith
some_byte (member k d ms) = omega (arith, length-append (quoted k) (58 ∷ (compact_text d ++ members_text true ms)))

given_ok : (x y : Text) → ◌≡◌ {A = Result Text Refusal} (Ok x) (Ok y) → x ≡ y
given_ok x y e = cc

two_of_data : (d : Data) (text : Text) → document_of_data d ≡ Ok text → 2 ≤ length text
two_of_data null text e = absurd cc
two_of_data (boolean b) text e = absurd cc
two_of_data (num n) text e = absurd cc
two_of_data (string s) text e = absurd cc
two_of_data (array ds) text e = absurd cc
two_of_data (object ms) text e =
    let a = not_refused (not (has_whole_numbers (object ms))) BadNumber (cond (ltb 65536 (length (compact_text (object ms)))) (Err DocumentTooLong) (Ok (compact_text (object ms)))) text e in
    let b = not_refused (ltb 65536 (length (compact_text (object ms)))) DocumentTooLong (Ok (compact_text (object ms))) text a in
    let is : 123 ∷ members_text false ms ≡ text = given_ok _ _ b in
    rw (← is) (omega (arith, some_byte ms))

two_of_read : (found : Option Data) (text : Text) → document_of_read found ≡ Ok text → 2 ≤ length text
two_of_read None text e = absurd cc
two_of_read (Some d) text e = two_of_data d text e

pub own_of_same : (text : Text) (r : Result Text Refusal) → same_text text r ≡ Ok text → r ≡ Ok text
own_of_same text (Ok other) e = own (bytes_eq other text) other text e
  where
    own : (b : Bool) (x y : Text) → cond b (Ok x) (Err NotCanonical) ≡ Ok y → ◌≡◌ {A = Result Text Refusal} (Ok x) (Ok y)
    own true x y e = e
    own false x y e = absurd cc
own_of_same text (Err f) e = absurd cc

pub if_text : (b : Bool) (r : Result Text Refusal) (y : Text) → cond b r (Err BadDocument) ≡ Ok y → r ≡ Ok y
if_text true r y e = e
if_text false r y e = absurd cc

-- a document has at least the two brackets
pub two_at_least : (d : Text) → document.Fits d → 2 ≤ length d
unfolding document document_of
two_at_least d fits = two_of_read (read d) d (own_of_same d (document_of d) (if_text (is_utf8 d) (canonical_document_of d) d fits.1.1))

pub document_fits : (d : Text) → IsDocument d → length d ≤ 65536 → document.Fits d
unfolding document raw number
document_fits d is few =
    let same : bytes_eq d d ≡ true = (bytes_eq-Decides d d).1 refl in
    let text : is_utf8 d ≡ true = is_utf8-from_IsUtf8 d is.is_text in
    ((omega arith, le-leb _ _ few), (refl, rw (text, is.is_its_own, same) refl))

-- ---- contexts

loose_fit : (low least : ℕ) (ns : List ℕ) → least ≡ low + 1 → RisesAbove low ns → AllBelow (2 ^ 48) ns → FitEach loose_from (λ _ n. n + 1) least ns
unfolding loose_from number
loose_fit low least [] at rises below = tt
loose_fit low least (n ∷ ns) at rises below =
    let above = rises.0 in
    let small = below.0 in
    ((omega arith, rw (le-leb least n (omega arith), le-leb n 281474976710655 (omega arith)) refl), loose_fit n (n + 1) ns refl rises.1 below.1)

some_dot : (base : ℕ) (loose : List ℕ) → HasDot base loose → 0 < base + length loose
some_dot base [] some = omega arith
some_dot base (n ∷ ns) some = omega arith

entry_fits : (previous : ℕ) (e : EntryValue) → previous < e.site → IsEntry e → length e.loose < 2 ^ 32 → (entry layout2 previous).Fits e
unfolding entry loose_above number
entry_fits previous e above is few =
    let high = is.base_high in
    ((((is.site_high, lt-ltb _ _ above), ((omega arith, le-leb _ _ (omega arith)), (few, (refl, loose_fit (e.base + 1) (e.base + 2) e.loose (omega arith) is.rising is.loose_high)))), lt-ltb _ _ (some_dot e.base e.loose is.some)))

entries_fit : (previous : ℕ) (es : List EntryValue) → AreEntriesAbove previous es → length (flat_map spell_entry es) < 2 ^ 32 → FitEach (entry layout2) (λ _ e. e.site) previous es
entries_fit previous [] form short = tt
entries_fit previous (e ∷ es) form short =
    let parts : length (flat_map spell_entry (e ∷ es)) ≡ 8 * length e.loose + 16 + length (flat_map spell_entry es) = rw (flat_map-cons, length-append, length_entry e) refl in
    (entry_fits previous e form.0 form.1 (omega arith), entries_fit e.site es form.2 (omega arith))

sixteen_each : (es : List EntryValue) → 16 * length es ≤ length (flat_map spell_entry es)
sixteen_each [] = omega arith
sixteen_each (e ∷ es) =
    let parts : length (flat_map spell_entry (e ∷ es)) ≡ 8 * length e.loose + 16 + length (flat_map spell_entry es) = rw (flat_map-cons, length-append, length_entry e) refl in
    omega (arith, parts, sixteen_each es)

fitting : (ds : DotSet) → AreInRange ds → length (entries_of ds) < 2 ^ 32 → FitEach (entry layout2) (λ _ e. e.site) 0 (entries_of ds) → (context_codec layout2).Fits ds
unfolding context_codec entries number
fitting ds ranged few each = (ranged, (few, (refl, each)))

pub context_fits : (dots : DotSet) → AreInRange dots → length ((context_codec layout2).spell dots) < 2 ^ 32 → (context_codec layout2).Fits dots
context_fits dots in_range short =
    let es = entries_of dots in
    let all : length ((context_codec layout2).spell dots) ≡ length (flat_map spell_entry es) + 4 = length_context dots in
    let form = (AreEntriesOf-entries_of dots in_range).form in
    fitting dots in_range (omega (arith, sixteen_each es, all, short)) (entries_fit 0 es form (omega (arith, all, short)))

-- ---- states

pub dot_fits : (d : DotValue) → IsDot d → (dot layout2).Fits d
unfolding dot number
dot_fits d is =
    let site = is.site_low in
    let counter = is.counter_low in
    let high = is.counter_high in
    ((is.site_high, le-leb _ _ (omega arith)), (omega arith, rw (le-leb 1 d.counter (omega arith), le-leb d.counter 281474976710655 (omega arith)) refl))

-- all dots of the list are above the one before it, if there is one
abbrev follows : Option DotValue → List (DotValue × Text) → Type 0
follows None ps = Unit {0}
follows (Some d) ps = T (below_all dot_cmp d ps)

comes_next : (previous : Option DotValue) (p : DotValue × Text) (ps : List (DotValue × Text)) → follows previous (p ∷ ps) → comes_after previous p.0 ≡ true
comes_next None p ps after = refl
comes_next (Some d) p ps after = is_true _ (first_true (is_lt (dot_cmp d p.0)) _ after)

module _ (dots : DotSet) (in_range : AreInRange dots) where
  siblings_fit : (previous : Option DotValue) (ss : List Sibling) → follows previous (pairs_of ss) → T (is_sorted dot_cmp (pairs_of ss)) → list_all (λ s. contains dots s.dot) ss ≡ true → All (λ s. document.Fits s.document) ss
      → FitEach (sibling layout2 dots) (λ _ s. Some s.0) previous (pairs_of ss)
  unfolding sibling
  siblings_fit previous [] after sorted seen documents = tt
  siblings_fit previous (s ∷ ss) after sorted seen documents =
      let seens = and_true (contains dots s.dot) (list_all (λ s. contains dots s.dot) ss) seen in
      let d = dot_fits s.dot (in_range s.dot.site s.dot.counter seens.0) in
      let next = comes_next previous (pair_of s) (pairs_of ss) after in
      (((d, rw (next, seens.0) refl), documents 0 s (omega arith)), siblings_fit (Some s.dot) ss (first_true (below_all dot_cmp s.dot (pairs_of ss)) (is_sorted dot_cmp (pairs_of ss)) sorted) (second_true (below_all dot_cmp s.dot (pairs_of ss)) _ sorted) seens.1 (λ k x lt. documents (suc k) x (omega arith)))

eighteen_each : (ss : List Sibling) → All (λ s. document.Fits s.document) ss → 18 * length ss ≤ length (flat_map spell_sibling (pairs_of ss))
eighteen_each [] documents = omega arith
eighteen_each (s ∷ ss) documents =
    let parts : length (flat_map spell_sibling (pairs_of (s ∷ ss))) ≡ length s.document + 16 + length (flat_map spell_sibling (pairs_of ss)) = rw (flat_map-cons, length-append, length_sibling (pair_of s)) refl in
    omega (arith, parts, two_at_least s.document (documents 0 s (omega arith)), eighteen_each ss (λ k x lt. documents (suc k) x (omega arith)))

parts_fit : (dots : DotSet) (ss : List Sibling) → AreParts ss dots → AreInRange dots → All (λ s. document.Fits s.document) ss → length ss < 2 ^ 16 → (siblings_codec layout2 dots).Fits (pairs_of ss)
unfolding siblings_codec number
parts_fit dots ss parts in_range documents few =
    (rw (length-map ss pair_of) few, (refl, siblings_fit dots in_range None ss tt (holds _ parts.rising) (tests_of_parts dots ss parts) documents))

-- a state that is not too long has a spelling
pub state_fits : (s : State) (ss : List Sibling) → pairs_of ss ≡ pairs s.siblings → AreParts ss s.context → AreInRange s.context → All (λ s. document.Fits s.document) ss → length (spell_state s) ≤ state_limit → (state_codec layout2).Fits s
unfolding state_codec unlimited_state
state_fits s ss same parts in_range documents short =
    let all = length_state s in
    let each : 18 * length ss ≤ length (flat_map spell_sibling (pairs s.siblings)) = rw (← same) (eighteen_each ss documents) in
    let fit = parts_fit s.context ss parts in_range documents (omega (arith, all, each, short)) in
    ((context_fits s.context in_range (omega (arith, all, short)), subst (λ ps. (siblings_codec layout2 s.context).Fits ps) same fit), le-leb _ _ (subst (λ (bytes : List ℕ). length bytes ≤ state_limit) (sym (unlimited_is s)) short))
