use Rattle.std.proofs.Common.{refl}
use Rattle.mvd_wire.specs.Requests.{range}
use Rattle.mvd_frames.proofs.requests.range_of.Goals as goal

pub returns : goal.returns
unfolding range
returns c = rw (c.in_ok-field.ensures, c.in_ok-from.ensures, c.in_ok-to.ensures, c.in_ok-after.ensures, ← c.is_empty.ensures, c.if-not-is_empty.false) refl
