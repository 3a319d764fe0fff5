-- Bytes that are no text are no document, no key and no prefix.
use Rattle.std.proofs.Common.{◌≡◌, ℕ, ◌≤◌, true, false, cond, ltb, leb, ◌&&◌, List, [], ◌∷◌, length, Ok, Err, refl, arith}
use Rattle.std.specs.Str.{IsUtf8, IsAscii, is_utf8}
use Rattle.std.specs.List.{list_all}
use Rattle.std.proofs.lemmas.Str.{IsUtf8-from_is_utf8, is_utf8-from_IsUtf8, IsUtf8-from_ascii}
use Rattle.std.proofs.lemmas.Str.Ascii.{IsAscii-nil, IsAscii-cons}
use Rattle.std.proofs.lemmas.Bool.{leb-true}
use Rattle.mvd_dots.specs.declared.refusals.Refusal.TheVariants.{BadDocument, BadKey}
use Rattle.mvd_docs.specs.Name.{is_graphic}
use Rattle.mvd_docs.specs.Document.{canonical_document_of}
use Rattle.mvd_keys.specs.Key.{is_key, key_of_text}
use Rattle.mvd_keys.proofs.Lists.{and_true}
use Rattle.mvd_wire.specs.Codecs.{document_of_bytes}
use Rattle.mvd_wire.specs.Prefix.{is_prefix, prefix_of_text}

pub text_is_document : (bytes : List ℕ) → IsUtf8 bytes → document_of_bytes bytes ≡ canonical_document_of bytes
text_is_document bytes h = rw (is_utf8-from_IsUtf8 bytes h) refl

pub no_text_no_document : (bytes : List ℕ) → ¬ (IsUtf8 bytes) → document_of_bytes bytes ≡ Err BadDocument
no_text_no_document bytes h =
    elim (is_utf8 bytes) as (λ b. is_utf8 bytes ≡ b → cond b (canonical_document_of bytes) (Err BadDocument) ≡ Err BadDocument) [
      | true ↦ λ e. absurd (h (IsUtf8-from_is_utf8 bytes e))
      | false ↦ λ _. refl
    ] refl

-- bytes of a key are ASCII
pub graphic_is_ascii : (bytes : List ℕ) → list_all is_graphic bytes ≡ true → IsAscii bytes
graphic_is_ascii [] e = IsAscii-nil
graphic_is_ascii (b ∷ bytes) e =
    let s = and_true (is_graphic b) (list_all is_graphic bytes) e in
    let t = and_true (leb 33 b) (leb b 126) s.0 in
    let low : b ≤ 126 = leb-true _ _ t.1 in
    IsAscii-cons b bytes (omega arith) (graphic_is_ascii bytes s.1)

key_is_ascii : (bytes : List ℕ) → is_key bytes ≡ true → IsAscii bytes
key_is_ascii bytes e = graphic_is_ascii bytes (and_true (ltb 0 (length bytes) && leb (length bytes) 128) (list_all is_graphic bytes) e).1

pub no_text_no_key : (bytes : List ℕ) → ¬ (IsUtf8 bytes) → key_of_text bytes ≡ Err BadKey
no_text_no_key bytes h =
    elim (is_key bytes) as (λ b. is_key bytes ≡ b → cond b (Ok bytes) (Err BadKey) ≡ Err BadKey) [
      | true ↦ λ e. absurd (h (IsUtf8-from_ascii bytes (key_is_ascii bytes e)))
      | false ↦ λ _. refl
    ] refl

pub no_text_no_prefix : (bytes : List ℕ) → ¬ (IsUtf8 bytes) → prefix_of_text bytes ≡ Err BadKey
no_text_no_prefix bytes h =
    elim (is_prefix bytes) as (λ b. is_prefix bytes ≡ b → cond b (Ok bytes) (Err BadKey) ≡ Err BadKey) [
      | true ↦ λ e. absurd (h (IsUtf8-from_ascii bytes (graphic_is_ascii bytes (and_true (leb (length bytes) 128) (list_all is_graphic bytes) e).1)))
      | false ↦ λ _. refl
    ] refl
