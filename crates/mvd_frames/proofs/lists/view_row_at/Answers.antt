use Rattle.std.proofs.Common.{rules}
use Rattle.mvd_wire.specs.Rows.{view_row}
use Rattle.mvd_frames.proofs.lists.view_row_at.Goals as goal

pub returns : goal.returns
unfolding view_row
returns c = rw (c.in_ok-term.ensures, c.in_ok-row.ensures) (search rules)
