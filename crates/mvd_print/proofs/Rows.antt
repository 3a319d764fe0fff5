-- The line of a row, from its parts.
use Rattle.std.proofs.Common.{◌≡◌, ℕ, ℤ, List, ◌++◌, Option, codes, append_assoc}
use Rattle.std.specs.Fmt.{decimal, signed_decimal}
use Rattle.std.specs.List.{flat_map}
use Rattle.mvd_print.specs.Text.{ends_words, line, row_words}

pub row_line : (count : ℕ) (sum : ℤ) (ends : Option (ℤ × ℤ)) (old s1 s2 s3 s4 s5 : List ℕ) → s1 ≡ old ++ decimal count → s2 ≡ s1 ++ codes " " → s3 ≡ s2 ++ signed_decimal sum → s4 ≡ s3 ++ flat_map (λ word. codes " " ++ word) (ends_words ends) → s5 ≡ s4 ++ codes "\n" → s5 ≡ old ++ line (row_words count sum ends)
row_line count sum ends old s1 s2 s3 s4 s5 e1 e2 e3 e4 e5 = rw (e5, e4, e3, e2, e1) (simp append_assoc)
