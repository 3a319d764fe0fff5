use Rattle.std.proofs.Common.{refl}
use Rattle.mvd_wire.specs.Requests.{row_of_view_codec}
use Rattle.mvd_frames.proofs.requests.row_of.Goals as goal

pub returns : goal.returns
unfolding row_of_view_codec
returns c = rw (c.in_ok-name.ensures, c.in_ok-term.ensures, ← c.is_empty.ensures, c.if-not-is_empty.false) refl
