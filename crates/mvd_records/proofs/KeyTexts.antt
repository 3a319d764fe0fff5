-- A key's text is ASCII.
use Rattle.std.proofs.Common.{◌≡◌, ◌<◌, ℕ, zero, suc, List, [], ◌∷◌, true, get_or, arith, nat_le}
use Rattle.std.specs.List.{list_all}
use Rattle.std.specs.Str.{IsUtf8}
use Rattle.std.proofs.lemmas.Str.{IsUtf8-from_ascii}
use Rattle.std.proofs.lemmas.Bool.{and_parts}
use Rattle.std.proofs.lemmas.Bool.Decides.{nat_tests}
use Rattle.mvd_docs.specs.Name.{is_graphic}
use Rattle.mvd_keys.specs.Key.{is_key}

low : (b : ℕ) → nat_le b 0x7e ≡ true → b < 128
low b h = grind (arith, nat_tests)

graphic_low : (text : List ℕ) → list_all is_graphic text ≡ true → (i : ℕ) → get_or text i 0 < 128
graphic_low [] all zero = omega arith
graphic_low [] all (suc i) = omega arith
graphic_low (b ∷ text) all zero = low b (and_parts _ _ (and_parts _ _ all).0).1
graphic_low (b ∷ text) all (suc i) = graphic_low text (and_parts _ _ all).1 i

pub key_utf8 : (text : List ℕ) → is_key text ≡ true → IsUtf8 text
key_utf8 text form = IsUtf8-from_ascii text (graphic_low text (and_parts _ _ form).1)
