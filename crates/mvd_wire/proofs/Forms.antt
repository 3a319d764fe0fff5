-- The states with a spelling are those in form.
use Rattle.std.proofs.Common.{◌≡◌, ℕ, ◌≤◌, Bool, true, false, T, cond, List, [], ◌∷◌, map, length, Option, Some, None, Result, Ok, Err, refl, sym, ap, subst, ◌∙◌, arith}
use Rattle.std.proofs.lemmas.Bool.{leb-true}
use Rattle.std.proofs.lemmas.List.Elements.{All-cons}
use Rattle.std.proofs.lemmas.Str.{IsUtf8-from_is_utf8}
use Rattle.std.specs.List.{All}
use Rattle.std.specs.Str.{is_utf8}
use Rattle.std.specs.Ordering.{eq_by_cmp}
use Rattle.std.specs.FinMap.{FinMap, entries as pairs, entries_sorted, find, from_entries, get-entries, is_sorted}
use Rattle.std.specs.FinMap.Entries.{below_all}
use Rattle.mvd_dots.specs.declared.refusals.Refusal.{Refusal}
use Rattle.mvd_dots.specs.declared.refusals.Refusal.TheVariants.{BadDocument}
use Rattle.mvd_dots.specs.Dot.{DotValue, dot_cmp}
use Rattle.mvd_dots.specs.Context.{DotSet, AreInRange}
use Rattle.mvd_docs.specs.Document.{IsDocument, canonical_document_of, document_of}
use Rattle.mvd_keys.specs.State.{State, Text, AreParts, IsValid, pairs_of, rises, state_of}
use Rattle.mvd_keys.specs.declared.siblings.Sibling.{Sibling}
use Rattle.mvd_keys.proofs.Lists.{tied_itself_dot}
use Rattle.mvd_keys.proofs.Parts.{is_true}
use Rattle.mvd_keys.proofs.Rising.{Pair, first_true, second_true, none_found}
use Rattle.mvd_wire.specs.Codec.{FitEach}
use Rattle.mvd_wire.specs.Codecs.{layout2, document, context_codec, sibling, siblings_codec, unlimited_state, state_codec, state_limit, IsInForm}
use Rattle.mvd_wire.proofs.Fits.{document_fits, if_text, own_of_same, state_fits}
use Rattle.mvd_wire.proofs.Spellings.{unlimited_is}
use Rattle.mvd_wire.proofs.Siblings.{pairs_back as map_back, siblings_parts}

-- ---- a state of the siblings in its map

abbrev sibling_of : Pair → Sibling
sibling_of p = record { dot = p.0; document = p.1 }

abbrev siblings_of : State → List Sibling
siblings_of s = map sibling_of (pairs s.siblings)

pairs_again : (ps : List Pair) → pairs_of (map sibling_of ps) ≡ ps
pairs_again [] = refl
pairs_again (p ∷ ps) = ap (λ (qs : List Pair). p ∷ qs) (pairs_again ps)

state_again : (s : State) → state_of (siblings_of s) s.context ≡ s
state_again s =
    let same : from_entries {R = dot_cmp} (pairs_of (siblings_of s)) ≡ s.siblings = ap (λ ps. from_entries {R = dot_cmp} ps) (pairs_again (pairs s.siblings)) ∙ map_back s.siblings in
    ap (λ (m : FinMap dot_cmp Text). record { siblings = m; context = s.context }) same

-- ---- documents

text_of_ok : (b : Bool) (r : Result Text Refusal) (y : Text) → cond b r (Err BadDocument) ≡ Ok y → b ≡ true
text_of_ok true r y e = refl
text_of_ok false r y e = absurd cc

document_is : (d : Text) → document.Fits d → IsDocument d × (length d ≤ 65536)
unfolding document
document_is d fits = (
  record {
    is_text = IsUtf8-from_is_utf8 d (text_of_ok (is_utf8 d) (canonical_document_of d) d fits.1.1);
    is_its_own = own_of_same d (document_of d) (if_text (is_utf8 d) (canonical_document_of d) d fits.1.1);
  },
  leb-true _ _ fits.0.1,
)

some_is : (x y : Text) → ◌≡◌ {A = Option Text} (Some x) (Some y) → x ≡ y
some_is x y e = cc

module _ (dots : DotSet) where
  document_at : (previous : Option DotValue) (ps : List Pair) (q : DotValue) (text : Text) → FitEach (sibling layout2 dots) (λ _ s. Some s.0) previous ps → find dot_cmp q ps ≡ Some text → document.Fits text
  unfolding sibling
  document_at previous [] q text fits found = absurd cc
  document_at previous (p ∷ ps) q text fits found =
      elim (eq_by_cmp dot_cmp q p.0) as (λ b. cond b (Some p.1) (find dot_cmp q ps) ≡ Some text → document.Fits text) [
        | true ↦ λ e. subst document.Fits (some_is p.1 text e) fits.0.1
        | false ↦ λ e. document_at (Some p.0) ps q text fits.1 e
      ] found

found_later : (p : Pair) (ps : List Pair) (q : DotValue) (text : Text) → T (below_all dot_cmp p.0 ps) → find dot_cmp q ps ≡ Some text → find dot_cmp q (p ∷ ps) ≡ Some text
found_later p ps q text below found =
    elim (eq_by_cmp dot_cmp q p.0) as (λ b. eq_by_cmp dot_cmp q p.0 ≡ b → cond b (Some p.1) (find dot_cmp q ps) ≡ Some text) [
      | true ↦ λ tied. let none : find dot_cmp q ps ≡ None = none_found q p.0 ps tied below in absurd cc
      | false ↦ λ _. found
    ] refl

documents_fit : (ps : List Pair) → T (is_sorted dot_cmp ps) → ((q : DotValue) (text : Text) → find dot_cmp q ps ≡ Some text → document.Fits text) → All (λ s. document.Fits s.document) (map sibling_of ps)
documents_fit [] sorted each = λ k x lt. absurd (omega arith)
documents_fit (p ∷ ps) sorted each =
    let one : document.Fits p.1 = each p.0 p.1 (ap (λ b. cond b (Some p.1) (find dot_cmp p.0 ps)) (tied_itself_dot p.0)) in
    All-cons (λ (s : Sibling). document.Fits s.document) (sibling_of p) (map sibling_of ps) one
    (documents_fit ps (second_true (below_all dot_cmp p.0 ps) _ sorted) (λ q text found. each q text (found_later p ps q text (first_true _ _ sorted) found)))

-- ---- both ways

ranged : (dots : DotSet) → (context_codec layout2).Fits dots → AreInRange dots
unfolding context_codec
ranged dots fits = fits.0

each_fits : (dots : DotSet) (ps : List Pair) → (siblings_codec layout2 dots).Fits ps → FitEach (sibling layout2 dots) (λ _ s. Some s.0) None ps
unfolding siblings_codec
each_fits dots ps fits = fits.1.1

valid_of : (s : State) → (siblings_codec layout2 s.context).Fits (pairs s.siblings) → IsValid s
valid_of s fits =
    let parts : AreParts (siblings_of s) s.context = siblings_parts layout2 s.context (siblings_of s) (subst (λ ps. (siblings_codec layout2 s.context).Fits ps) (sym (pairs_again (pairs s.siblings))) fits) in
    subst IsValid (state_again s) parts.valid

pub form_of : (s : State) → (state_codec layout2).Fits s → IsInForm s
unfolding state_codec unlimited_state
form_of s fits = record {
  valid = valid_of s fits.0.1;
  in_range = ranged s.context fits.0.0;
  documents = λ q text found. document_is text (document_at s.context None (pairs s.siblings) q text (each_fits s.context (pairs s.siblings) fits.0.1) (sym (get-entries s.siblings q) ∙ found));
  short = subst (λ (bytes : List ℕ). length bytes ≤ state_limit) (unlimited_is s) (leb-true _ _ fits.1);
}

pub fits_of : (s : State) → IsInForm s → (state_codec layout2).Fits s
fits_of s form =
    let sorted = entries_sorted s.siblings in
    let same : pairs_of (siblings_of s) ≡ pairs s.siblings = pairs_again (pairs s.siblings) in
    let rising : rises (siblings_of s) ≡ true = subst (λ ps. is_sorted dot_cmp ps ≡ true) (sym same) (is_true _ sorted) in
    let parts : AreParts (siblings_of s) s.context = record { rising = rising; valid = subst IsValid (sym (state_again s)) form.valid } in
    let documents = documents_fit (pairs s.siblings) sorted (λ q text found. let d = form.documents q text (get-entries s.siblings q ∙ found) in document_fits text d.0 d.1) in
    state_fits s (siblings_of s) same parts form.in_range documents form.short
