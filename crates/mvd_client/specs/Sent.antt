-- What a link was given to send.
use Rattle.std.specs.Prelude.{ℕ, List, map}

abbrev pub bytes_in : List (ℕ × Unit {0}) → List ℕ
bytes_in = map (λ byte. byte.0)
