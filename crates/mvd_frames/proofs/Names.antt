-- Bytes that are no text are no name, and a name that is refused is no name.
use Rattle.std.proofs.Common.{◌≡◌, ℕ, Bool, true, false, cond, ltb, leb, ◌&&◌, List, length, Ok, Err, refl}
use Rattle.std.specs.Str.{IsUtf8, is_utf8}
use Rattle.std.specs.List.{list_all}
use Rattle.std.proofs.lemmas.Str.{IsUtf8-from_ascii, IsUtf8-from_is_utf8, is_utf8-from_IsUtf8}
use Rattle.mvd_dots.specs.declared.refusals.Refusal.{Refusal}
use Rattle.mvd_dots.specs.declared.refusals.Refusal.TheVariants.{BadDefs, BadBody, BadTerm}
use Rattle.mvd_docs.specs.Name.{is_graphic, is_field, is_view_name, is_some_name, names_of, field_of, view_name_of}
use Rattle.mvd_docs.specs.TermText.{term_text_of}
use Rattle.mvd_keys.proofs.Lists.{and_true}
use Rattle.mvd_wire.specs.Rows.{field_of_bytes, view_name_of_bytes, text_of_bytes}
use Rattle.mvd_wire.proofs.Texts.{graphic_is_ascii}

name_is_text : (bytes : List ℕ) → is_view_name bytes ≡ true → IsUtf8 bytes
name_is_text bytes e = IsUtf8-from_ascii bytes (graphic_is_ascii bytes (and_true (ltb 0 (length bytes) && leb (length bytes) 64) (list_all is_graphic bytes) e).1)

field_is_text : (bytes : List ℕ) → is_field bytes ≡ true → IsUtf8 bytes
field_is_text bytes e = name_is_text bytes (and_true (is_view_name bytes) (leb (length (names_of bytes)) 8) (and_true (is_view_name bytes && leb (length (names_of bytes)) 8) (list_all is_some_name (names_of bytes)) e).0).0

pub no_text_no_field : (bytes : List ℕ) → ¬ (IsUtf8 bytes) → field_of_bytes bytes ≡ Err BadBody
no_text_no_field bytes h =
    elim (is_field bytes) as (λ b. is_field bytes ≡ b → cond b (Ok bytes) (Err BadBody) ≡ Err BadBody) [
      | true ↦ λ e. absurd (h (field_is_text bytes e))
      | false ↦ λ _. refl
    ] refl

pub no_text_no_view_name : (bytes : List ℕ) → ¬ (IsUtf8 bytes) → view_name_of_bytes bytes ≡ Err BadBody
no_text_no_view_name bytes h =
    elim (is_view_name bytes) as (λ b. is_view_name bytes ≡ b → cond b (Ok bytes) (Err BadBody) ≡ Err BadBody) [
      | true ↦ λ e. absurd (h (name_is_text bytes e))
      | false ↦ λ _. refl
    ] refl

pub text_is_term : (bytes : List ℕ) → IsUtf8 bytes → text_of_bytes bytes ≡ term_text_of bytes
text_is_term bytes h = rw (is_utf8-from_IsUtf8 bytes h) refl

pub no_text_no_term : (bytes : List ℕ) → ¬ (IsUtf8 bytes) → text_of_bytes bytes ≡ Err BadTerm
no_text_no_term bytes h =
    elim (is_utf8 bytes) as (λ b. is_utf8 bytes ≡ b → cond b (term_text_of bytes) (Err BadTerm) ≡ Err BadTerm) [
      | true ↦ λ e. absurd (h (IsUtf8-from_is_utf8 bytes e))
      | false ↦ λ _. refl
    ] refl
