-- A number is read from just the digits that write it.
use Rattle.std.proofs.Common.{◌≡◌, ◌∙◌, ◌<◌, ◌^◌, ◌==◌, false, ℕ, List, [], ◌∷◌, get_or, length, ap, arith, inl, inr, refl, sym, subst}
use Rattle.std.specs.Prelude.{Option, Result, Ok, Err, IfSome, IfNone}
use Rattle.std.specs.Fmt.{decimal}
use Rattle.std.specs.Result.{result_ok}
use Rattle.std.specs.Str.Parse.{AllDigits, IsNumeral, ParsesUnsigned, digits_value, without_leading_plus}
use Rattle.std.specs.Int.{IsInRange}
use Rattle.std.proofs.lemmas.Bool.{cases_lt, ne_eqb}
use Rattle.std.proofs.lemmas.Fmt.{decimal-digits_value, decimal_is_IsNumeral, first_decimal, length-decimal-le}
use Rattle.std.proofs.lemmas.Str.Parse.{IsNumeralModel, digit_from_value, numerals_by_value, tells_digits, without_leading_plus_none}
use Rattle.mvd_input.specs.Lines.{IsNoNumber, IsNumber, IsPadded, IsWord}

own : IsNumeralModel (AllDigits 10) (digits_value 10)
own = numerals_by_value (AllDigits 10) tells_digits

abbrev pub IsRead : List ℕ → Type 0
IsRead digits = IsNumeral 10 digits × (digits_value 10 digits < 2 ^ 64)

-- without a plus or a zero first, what is read is what writes it
pub read_is_written : (text : List ℕ) (number : ℕ) → ¬ IsPadded text → IsRead (without_leading_plus text) → number ≡ digits_value 10 (without_leading_plus text) → IsNumber number text
read_is_written text number plain read is =
    let same = without_leading_plus_none text (λ plus. plain (inl plus)) in
    let whole = subst IsRead same read in
    let zero : get_or text 0 0 ≡ 48 → length text ≡ 1
    = λ z. elim (cases_lt 1 (length text)) [ inl long ↦ absurd (plain (inr (z, long))) | inr short ↦ omega (arith, short, whole.0.0) ] in
    let value = is ∙ ap (digits_value 10) same in
    (sym (decimal-digits_value own text whole.0.1 whole.0.0 zero whole.1) ∙ sym (ap decimal value), omega (arith, value, whole.1))

first_digit : (digits : List ℕ) → IsNumeral 10 digits → IsInRange 48 57 (get_or digits 0 0)
first_digit [] numeral = absurd (omega (arith, numeral.0))
first_digit (c ∷ cs) numeral = digit_from_value c numeral.1.0

-- no digit is a space
digits_have_no_space : (digits : List ℕ) → AllDigits 10 digits → IsWord digits
digits_have_no_space [] all = refl
digits_have_no_space (c ∷ cs) all =
    let range = digit_from_value c all.0 in
    let apart : (c == 32) ≡ false = ne_eqb c 32 (λ is. omega (arith, is, range.0)) in
    rw apart (digits_have_no_space cs all.1)

pub digits_are_word : (number : ℕ) (digits : List ℕ) → IsNumber number digits → IsWord digits
digits_are_word number digits (is, fits) = subst IsWord (sym is) (digits_have_no_space (decimal number) (decimal_is_IsNumeral number fits).0.1)

-- what writes a number has neither first
pub written_is_plain : (text : List ℕ) (number : ℕ) → number < 2 ^ 64 → text ≡ decimal number → ¬ IsPadded text
written_is_plain text number fits is (inl plus) =
    omega (arith, plus, ap (λ v. get_or v 0 0) is, (first_digit (decimal number) (decimal_is_IsNumeral number fits).0).0)
written_is_plain text number fits is (inr zero) = elim (cases_lt 0 number) [
  | inl above ↦ omega (arith, zero.0, ap (λ v. get_or v 0 0) is, first_decimal number above fits)
  | inr none ↦ omega (arith, zero.1, ap length is, length-decimal-le 1 number (omega arith) (omega (arith, none)) fits)
]

pub written_is_read : (text : List ℕ) (number : ℕ) → number < 2 ^ 64 → text ≡ decimal number → IsRead (without_leading_plus text)
written_is_read text number fits is =
    let numeral = decimal_is_IsNumeral number fits in
    let same = without_leading_plus_none text (λ plus. written_is_plain text number fits is (inl plus)) in
    subst IsRead (sym (same ∙ is)) (numeral.0, omega (arith, numeral.1, fits))

-- what is made of the result of a parser
module _ {E : Type 0} (text : List ℕ) where
  pub found_by : (r : Result ℕ E) (o : Option ℕ) → ¬ IsPadded text → ParsesUnsigned 64 10 text r → o ≡ result_ok r → IfSome o (λ number. IsNumber number text)
  found_by (Ok number) o plain parsed is = subst (λ v. IfSome v (λ n. IsNumber n text)) (sym is) (read_is_written text number plain parsed.0 parsed.1)
  found_by (Err error) o plain parsed is = subst (λ v. IfSome v (λ n. IsNumber n text)) (sym is) tt

  pub none_by : (r : Result ℕ E) (o : Option ℕ) → ParsesUnsigned 64 10 text r → o ≡ result_ok r → IfNone o (IsNoNumber text)
  none_by (Ok number) o parsed is = subst (λ v. IfNone v (IsNoNumber text)) (sym is) tt
  none_by (Err error) o parsed is = subst (λ v. IfNone v (IsNoNumber text)) (sym is) (λ n spelled. parsed (written_is_read text n spelled.1 spelled.0))
