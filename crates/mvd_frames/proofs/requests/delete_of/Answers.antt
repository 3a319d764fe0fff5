use Rattle.std.proofs.Common.{refl}
use Rattle.mvd_wire.specs.Requests.{delete}
use Rattle.mvd_frames.proofs.requests.delete_of.Goals as goal

pub returns : goal.returns
unfolding delete
returns c = rw (c.in_ok-key.ensures, c.in_ok-context.ensures, ← c.is_empty.ensures, c.if-not-is_empty.false) refl
