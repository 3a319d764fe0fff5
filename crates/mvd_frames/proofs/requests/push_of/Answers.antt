use Rattle.std.proofs.Common.{refl}
use Rattle.mvd_wire.specs.Requests.{push}
use Rattle.mvd_frames.proofs.requests.push_of.Goals as goal

pub returns : goal.returns
unfolding push
returns c = rw (c.in_ok-key.ensures, c.in_ok-state.ensures, ← c.is_empty.ensures, c.if-not-is_empty.false) refl
