-- The most bytes of the replies that are due.
use Rattle.std.proofs.Common.{◌≡◌, ℕ, zero, suc, cond, eqb, ◌*◌, ◌≤◌, arith}
use Rattle.std.proofs.Math.Dec.{eqb-suc-zero}
use Rattle.mvd_conn.specs.History.{short_most}

-- where each that is due counts as a short one at least, they do together
pub owes_least : (count most : ℕ) → short_most * count ≤ most → short_most * count ≤ cond (eqb count 0) 0 most
owes_least zero most few = omega arith
owes_least (suc count) most few = rw (eqb-suc-zero count) few
