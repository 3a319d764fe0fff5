-- What a text holds after something was printed behind it: this repository's own words.
use Rattle.std.specs.Prelude.{◌≡◌, ℕ, List, ◌++◌, Result, Ok, Err}
use Rattle.mvd_dots.specs.declared.refusals.Refusal.{Refusal}
use Rattle.mvd_dots.specs.declared.refusals.Refusal.TheVariants.{Memory}

-- the old text still stands first, whatever came behind it
pub record Extends (old new : List ℕ) : Type 0 where
  pub more : List ℕ
  pub is : new ≡ old ++ more

-- The text came behind the old one, or memory was refused and the old one still stands first. Where there is a
-- refusal in place of a text, it is given back and nothing was printed.
abbrev pub Prints : Result (List ℕ) Refusal → List ℕ → List ℕ → Result (Unit {0}) Refusal → Type 0
Prints (Ok text) old new (Ok done) = new ≡ old ++ text
Prints (Ok text) old new (Err refusal) = (refusal ≡ Memory) × Extends old new
Prints (Err refusal) old new result = (result ≡ Err refusal) × (new ≡ old)
