-- Times at which something is due.
use Rattle.std.specs.Prelude.{ℕ, min, Option, None, Some}

-- the earlier of two times
abbrev pub earlier_of : Option ℕ → Option ℕ → Option ℕ
earlier_of None second = second
earlier_of (Some first) None = Some first
earlier_of (Some first) (Some second) = Some (min first second)
