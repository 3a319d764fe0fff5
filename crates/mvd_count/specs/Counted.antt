-- Counts of work.
use Rattle.std.specs.Prelude.{ℕ, ◌+◌, ◌^◌, ◌-◌, ◌≤◌, min}

-- a count to which so much was added: one that is full stays full
abbrev pub counted : ℕ → ℕ → ℕ
counted made more = min (made + more) (2 ^ 64 - 1)

-- a count rose by so much at most
pub record RoseBy (so_much old new : ℕ) : Type 0 where
  pub least : old ≤ new
  pub most : new ≤ old + so_much
