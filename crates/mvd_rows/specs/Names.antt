-- What documents are asked for.
use Rattle.std.specs.Prelude.{ℕ, List}

-- a path of member names, seen as its bytes
abbrev pub Field : Type 0
Field = List ℕ
