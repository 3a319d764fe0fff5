-- Whether bytes are a text, and whether they are digits, as tests.
use Rattle.std.proofs.Common.{◌≡◌, ◌<◌, ℕ, List, [], ◌∷◌, Bool, true, false, refl, arith}
use Rattle.std.specs.Char.{digit_value, is_ascii_digit}
use Rattle.std.specs.List.{list_all}
use Rattle.std.specs.Str.Parse.{AllDigits}
use Rattle.mvd_keys.proofs.Lists.{and_true}
use Rattle.std.proofs.lemmas.Bool.Decides.{nat_tests}
use Rattle.std.proofs.lemmas.Str.{digit_value_digit}
use Rattle.std.specs.Str.{IsUtf8, is_utf8}
use Rattle.std.proofs.lemmas.Str.{IsUtf8-from_is_utf8, is_utf8-from_IsUtf8}

pub is_text : (bs : List ℕ) → IsUtf8 bs → is_utf8 bs ≡ true
is_text bs utf8 = is_utf8-from_IsUtf8 bs utf8

untrue : (bs : List ℕ) (b : Bool) → is_utf8 bs ≡ b → (IsUtf8 bs → ⊥) → is_utf8 bs ≡ false
untrue bs false is not = is
untrue bs true is not = absurd (not (IsUtf8-from_is_utf8 bs is))

pub is_no_text : (bs : List ℕ) → (IsUtf8 bs → ⊥) → is_utf8 bs ≡ false
is_no_text bs not = untrue bs (is_utf8 bs) refl not

digit : (c : ℕ) → is_ascii_digit c ≡ true → digit_value c < 10
digit c is = grind (arith, nat_tests, digit_value_digit)

pub digits_all : (ds : List ℕ) → list_all is_ascii_digit ds ≡ true → AllDigits 10 ds
digits_all [] is = tt
digits_all (c ∷ cs) is = let both = and_true (is_ascii_digit c) (list_all is_ascii_digit cs) is in (digit c both.0, digits_all cs both.1)
