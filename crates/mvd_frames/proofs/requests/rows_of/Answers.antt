use Rattle.std.proofs.Common.{refl}
use Rattle.mvd_wire.specs.Requests.{rows_of_view_codec}
use Rattle.mvd_frames.proofs.requests.rows_of.Goals as goal

pub returns : goal.returns
unfolding rows_of_view_codec
returns c = rw (c.in_ok-name.ensures, c.in_ok-after.ensures, ← c.is_empty.ensures, c.if-not-is_empty.false) refl
