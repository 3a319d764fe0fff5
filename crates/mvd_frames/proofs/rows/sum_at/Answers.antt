use Rattle.std.proofs.Common.{rules}
use Rattle.mvd_wire.specs.Rows.{sum}
use Rattle.mvd_frames.proofs.rows.sum_at.Goals as goal

pub returns : goal.returns
unfolding sum
returns c = rw (c.in_ok-upper.ensures, c.in_ok-lower.ensures) (search rules)
