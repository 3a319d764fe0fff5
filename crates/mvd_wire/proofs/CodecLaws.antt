-- Each kind of spelled value is lawful.
use Rattle.std.proofs.Common.{◌≡◌, ℕ, ◌+◌, ◌*◌, ◌^◌, ◌≤◌, Bool, true, false, cond, leb, ltb, ◌&&◌, List, length, Option, Some, None, Result, Ok, Err, refl, ap, subst, sym, ◌∙◌, arith}
use Rattle.std.specs.Int.{w16, w32, w64, byte_len}
use Rattle.std.specs.Str.{is_utf8, bytes_eq}
use Rattle.std.proofs.lemmas.Slice.Eq.{bytes_eq-Decides}
use Rattle.std.specs.FinSet.{contains}
use Rattle.std.specs.FinMap.{entries as pairs, from_entries}
use Rattle.mvd_dots.specs.declared.refusals.Refusal.{Refusal}
use Rattle.mvd_dots.specs.declared.refusals.Refusal.TheVariants.{BadKey, BadContext, BadDocument, NotCanonical, DocumentTooLong, StateTooLarge, BadPath, BadBody}
use Rattle.mvd_dots.specs.declared.dots.TheConstants.{COUNTER_MAX}
use Rattle.mvd_dots.specs.Dot.{DotValue}
use Rattle.mvd_dots.specs.Entry.{EntryValue}
use Rattle.mvd_dots.specs.Context.{DotSet, AreInRange, AreEntries, entries_of, set_of}
use Rattle.mvd_docs.specs.Document.{canonical_document_of, document_of, same_text}
use Rattle.mvd_keys.specs.Key.{is_key, key_of_text}
use Rattle.mvd_keys.specs.Path.{is_path, path_of}
use Rattle.mvd_keys.specs.State.{Text}
use Rattle.mvd_wire.specs.Prefix.{is_prefix, prefix_of_text}
use Rattle.mvd_wire.specs.Token.{token_of_bytes}
use Rattle.mvd_wire.specs.declared.version.Version.{Version}
use Rattle.mvd_wire.specs.declared.version.Version.TheVariants.{First, Second}
use Rattle.mvd_wire.specs.Codec.{Codec, byte, number, raw, followed, checked, accepted, named}
use Rattle.mvd_wire.specs.Codecs.{Layout, layout1, layout2, layout_of, dot, loose_from, loose_above, entry, entries, context_codec, key, document_of_bytes, document, path, prefix, token, comes_after, sibling, siblings_codec, unlimited_state, state_codec}
use Rattle.mvd_wire.proofs.Laws.{IsLawful, IsWide, Takes, wide16, wide32, wide64, bind_ok, ok_is, passed_ok, lawful_byte, lawful_number, lawful_raw, lawful_followed, lawful_checked, lawful_accepted, lawful_named, lawful_counted}
use Rattle.mvd_wire.proofs.Entries.{entries_form}
use Rattle.mvd_dots.proofs.Canonical.{set_of-entries_of, entries_of-set_of, AreInRange-set_of}
use Rattle.mvd_wire.proofs.Siblings.{siblings_back, pairs_back}

-- both numbers of a layout are of a width with lawful bytes, and a site has at most four
pub record IsWideLayout (v : Layout) : Type 0 where
  pub site : IsWide v.site
  pub entries : IsWide v.entries
  pub narrow : 2 ^ (8 * byte_len v.site) ≤ 2 ^ 32

pub wide_layout1 : IsWideLayout layout1
wide_layout1 = record { site = wide16; entries = wide16; narrow = omega arith }

pub wide_layout2 : IsWideLayout layout2
wide_layout2 = record { site = wide32; entries = wide32; narrow = omega arith }

-- either version is lawful
pub wide_layout_of : (version : Version) → IsWideLayout (layout_of version)
wide_layout_of First = wide_layout1
wide_layout_of Second = wide_layout2

-- ---- what is accepted is what was given

passed_if : (b : Bool) (r : Result Text Refusal) (f : Refusal) (y : Text) → cond b r (Err f) ≡ Ok y → r ≡ Ok y
passed_if true r f y e = e
passed_if false r f y e = absurd cc

accepts_same : (text d : Text) (r : Result Text Refusal) → same_text text r ≡ Ok d → text ≡ d
accepts_same text d (Ok other) e =
    let p = passed_ok (bytes_eq other text) NotCanonical other d e in
    sym ((bytes_eq-Decides other text).0 p.0) ∙ p.1
accepts_same text d (Err f) e = absurd cc

accepts_document : (text d : Text) → document_of_bytes text ≡ Ok d → text ≡ d
accepts_document text d e = accepts_same text d (document_of text) (passed_if (is_utf8 text) (canonical_document_of text) BadDocument d e)

accepts_key : (text k : Text) → key_of_text text ≡ Ok k → text ≡ k
accepts_key text k e = (passed_ok (is_key text) BadKey text k e).1

accepts_path : (digits p : List ℕ) → path_of digits ≡ Ok p → digits ≡ p
accepts_path digits p e = (passed_ok (is_path digits) BadPath digits p e).1

accepts_prefix : (text p : Text) → prefix_of_text text ≡ Ok p → text ≡ p
accepts_prefix text p e = (passed_ok (is_prefix text) BadKey text p e).1

accepts_token : (bytes t : List ℕ) → token_of_bytes bytes ≡ Ok t → bytes ≡ t
accepts_token bytes t e = (passed_ok (leb (length bytes) 256) BadBody bytes t e).1

-- a length, and that many bytes
pub lawful_sized : (count : Codec ℕ) (bytes : ℕ → Codec (List ℕ)) → IsLawful count → ((n : ℕ) → IsLawful (bytes n)) → ((n : ℕ) (t : List ℕ) → (bytes n).Fits t → length t ≡ n) → IsLawful (named (λ t. (length t, t)) (λ p. p.1) (followed count bytes))
lawful_sized count bytes counts lawful sized =
    lawful_named (λ t. (length t, t)) (λ p. p.1) (followed count bytes)
    (λ p fits. ap (λ (n : ℕ). (n, p.1)) (sized p.0 p.1 fits.1)) (λ t. refl)
    (lawful_followed count bytes counts lawful)

pub lawful_key : IsLawful key
unfolding key raw
lawful_key = lawful_sized (checked BadKey (λ n. leb 1 n && leb n 128) byte) (λ n. accepted key_of_text (raw n))
    (lawful_checked BadKey (λ n. leb 1 n && leb n 128) byte lawful_byte)
    (λ n. lawful_accepted key_of_text (raw n) accepts_key (lawful_raw n))
    (λ n t fits. fits.0)

pub lawful_document : IsLawful document
unfolding document raw
lawful_document = lawful_sized (checked DocumentTooLong (λ n. leb n 65536) (number w32)) (λ n. accepted document_of_bytes (raw n))
    (lawful_checked DocumentTooLong (λ n. leb n 65536) (number w32) (lawful_number w32 wide32))
    (λ n. lawful_accepted document_of_bytes (raw n) accepts_document (lawful_raw n))
    (λ n t fits. fits.0)

pub lawful_path : IsLawful path
unfolding path raw
lawful_path = lawful_sized (checked BadPath (λ n. leb n 3) byte) (λ n. accepted path_of (raw n))
    (lawful_checked BadPath (λ n. leb n 3) byte lawful_byte)
    (λ n. lawful_accepted path_of (raw n) accepts_path (lawful_raw n))
    (λ n t fits. fits.0)

pub lawful_prefix : IsLawful prefix
unfolding prefix raw
lawful_prefix = lawful_sized (checked BadKey (λ n. leb n 128) byte) (λ n. accepted prefix_of_text (raw n))
    (lawful_checked BadKey (λ n. leb n 128) byte lawful_byte)
    (λ n. lawful_accepted prefix_of_text (raw n) accepts_prefix (lawful_raw n))
    (λ n t fits. fits.0)

pub lawful_token : IsLawful token
unfolding token raw
lawful_token = lawful_sized (checked BadBody (λ n. leb n 256) (number w16)) (λ n. accepted token_of_bytes (raw n))
    (lawful_checked BadBody (λ n. leb n 256) (number w16) (lawful_number w16 wide16))
    (λ n. lawful_accepted token_of_bytes (raw n) accepts_token (lawful_raw n))
    (λ n t fits. fits.0)

module _ (v : Layout) (wide : IsWideLayout v) where
  pub lawful_dot : IsLawful (dot v)
  unfolding dot
  lawful_dot =
      let site = checked BadBody (λ s. leb 1 s) (number v.site) in
      let counter = checked BadBody (λ n. leb 1 n && leb n COUNTER_MAX) (number w64) in
      lawful_named (λ d. (d.site, d.counter)) (λ p. record { site = p.0; counter = p.1 }) (followed site (λ _. counter)) (λ p fits. refl) (λ d. refl)
      (lawful_followed site (λ _. counter)
      (lawful_checked BadBody (λ s. leb 1 s) (number v.site) (lawful_number v.site wide.site))
      (λ _. lawful_checked BadBody (λ n. leb 1 n && leb n COUNTER_MAX) (number w64) (lawful_number w64 wide64)))

  lawful_loose_from : (least : ℕ) → IsLawful (loose_from least)
  unfolding loose_from
  lawful_loose_from least = lawful_checked BadContext (λ n. leb least n && leb n COUNTER_MAX) (number w64) (lawful_number w64 wide64)

  lawful_loose_above : (base : ℕ) → IsLawful (loose_above base)
  unfolding loose_above
  lawful_loose_above base = lawful_counted loose_from (λ _ n. n + 1) lawful_loose_from (number w32) (base + 2) (lawful_number w32 wide32)

  pub lawful_entry : (previous : ℕ) → IsLawful (entry v previous)
  unfolding entry
  lawful_entry previous =
      let site = checked BadContext (λ s. ltb previous s) (number v.site) in
      let base = checked BadContext (λ b. leb b COUNTER_MAX) (number w64) in
      let parts = followed site (λ _. followed base loose_above) in
      lawful_checked BadContext (λ e. ltb 0 (e.base + length e.loose)) (named (λ e. (e.site, (e.base, e.loose))) (λ p. record { site = p.0; base = p.1.0; loose = p.1.1 }) parts)
      (lawful_named (λ e. (e.site, (e.base, e.loose))) (λ p. record { site = p.0; base = p.1.0; loose = p.1.1 }) parts (λ p fits. refl) (λ e. refl)
      (lawful_followed site (λ _. followed base loose_above)
      (lawful_checked BadContext (λ s. ltb previous s) (number v.site) (lawful_number v.site wide.site))
      (λ _. lawful_followed base loose_above
      (lawful_checked BadContext (λ b. leb b COUNTER_MAX) (number w64) (lawful_number w64 wide64))
      lawful_loose_above)))

  lawful_entries : IsLawful (entries v)
  unfolding entries
  lawful_entries = lawful_counted (entry v) (λ _ e. e.site) lawful_entry (number v.entries) 0 (lawful_number v.entries wide.entries)

  form_of : (es : List EntryValue) → (entries v).Fits es → AreEntries es
  unfolding entries
  form_of es fits = entries_form v 0 es wide.narrow fits.1.1

  context_takes : (bytes : List ℕ) (x : DotSet × List ℕ) (es : List EntryValue) (rest : List ℕ) → Takes bytes ((entries v).spell es) rest → (entries v).Fits es → (set_of es, rest) ≡ x
      → Takes bytes ((context_codec v).spell x.0) x.1 × (context_codec v).Fits x.0
  unfolding context_codec
  context_takes bytes x es rest taken fits is =
      let form = form_of es fits in
      let same = entries_of-set_of es form in
      let at : Takes bytes ((entries v).spell (entries_of (set_of es))) rest × (AreInRange (set_of es) × (entries v).Fits (entries_of (set_of es))) =
      (subst (λ fs. Takes bytes ((entries v).spell fs) rest) (sym same) taken, (AreInRange-set_of es form, subst (λ fs. (entries v).Fits fs) (sym same) fits)) in
      subst (λ (y : DotSet × List ℕ). Takes bytes ((entries v).spell (entries_of y.0)) y.1 × (AreInRange y.0 × (entries v).Fits (entries_of y.0))) is at

  pub lawful_context : IsLawful (context_codec v)
  unfolding context_codec
  lawful_context = record {
    again = λ dots rest fits. rw (lawful_entries.again (entries_of dots) rest fits.1, set_of-entries_of dots fits.0) refl;
    takes = λ bytes x fits e.
        let a = bind_ok ((entries v).read bytes) (λ y. Ok (set_of y.0, y.1)) x e in
        let t = lawful_entries.takes bytes a.0 fits a.1 in
        context_takes bytes x a.0.0 a.0.1 t.0 t.1 (ok_is (set_of a.0.0, a.0.1) x a.2);
  }

  pub lawful_sibling : (dots : DotSet) (previous : Option DotValue) → IsLawful (sibling v dots previous)
  unfolding sibling
  lawful_sibling dots previous =
      lawful_followed (checked BadBody (λ d. comes_after previous d && contains dots d) (dot v)) (λ _. document)
      (lawful_checked BadBody (λ d. comes_after previous d && contains dots d) (dot v) lawful_dot)
      (λ _. lawful_document)

  pub lawful_siblings : (dots : DotSet) → IsLawful (siblings_codec v dots)
  unfolding siblings_codec
  lawful_siblings dots = lawful_counted (sibling v dots) (λ _ s. Some s.0) (lawful_sibling dots) (number w16) None (lawful_number w16 wide16)

  pub lawful_unlimited_state : IsLawful (unlimited_state v)
  unfolding unlimited_state
  lawful_unlimited_state =
      lawful_named (λ s. (s.context, pairs s.siblings)) (λ p. record { siblings = from_entries p.1; context = p.0 }) (followed (context_codec v) (siblings_codec v))
      (λ p fits. ap (λ ps. (p.0, ps)) (siblings_back v p.0 p.1 fits.1)) (λ s. ap (λ m. record { siblings = m; context = s.context }) (pairs_back s.siblings))
      (lawful_followed (context_codec v) (siblings_codec v) lawful_context lawful_siblings)

  pub lawful_state : IsLawful (state_codec v)
  unfolding state_codec
  lawful_state = lawful_checked StateTooLarge (λ s. leb (length ((unlimited_state v).spell s)) v.limit) (unlimited_state v) lawful_unlimited_state
