use Rattle.std.proofs.Common.{rules}
use Rattle.mvd_wire.specs.Rows.{row_codec}
use Rattle.mvd_frames.proofs.rows.row_at.Goals as goal

pub returns : goal.returns
unfolding row_codec
returns c = rw (c.in_ok-count.ensures, c.in_ok-sum.ensures, c.in_ok-ends.ensures) (search rules)
