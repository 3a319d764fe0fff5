use Rattle.std.proofs.Common.{refl}
use Rattle.mvd_wire.specs.Requests.{keys_of_prefix}
use Rattle.mvd_frames.proofs.requests.keys_of.Goals as goal

pub returns : goal.returns
unfolding keys_of_prefix
returns c = rw (c.in_ok-prefix.ensures, c.in_ok-after.ensures, ← c.is_empty.ensures, c.if-not-is_empty.false) refl
