use Rattle.std.proofs.Common.{refl}
use Rattle.mvd_wire.specs.Requests.{find_codec}
use Rattle.mvd_frames.proofs.requests.find_of.Goals as goal

pub returns : goal.returns
unfolding find_codec
returns c = rw (c.in_ok-field.ensures, c.in_ok-term.ensures, c.in_ok-after.ensures, ← c.is_empty.ensures, c.if-not-is_empty.false) refl
