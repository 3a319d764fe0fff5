-- The order of states: one has all that another has (Shapiro et al., RR-7506: the partial order of the semilattice).
use Rattle.std.specs.Prelude.{◌≡◌}
use Rattle.mvd_keys.specs.State.{State, join}

-- the first has all that the second has: a join with it changes nothing
abbrev pub Includes : State → State → Type 0
Includes new old = join old new ≡ new
