use Rattle.std.proofs.Common.{refl}
use Rattle.mvd_wire.specs.Requests.{bucket}
use Rattle.mvd_frames.proofs.requests.bucket_of.Goals as goal

pub returns : goal.returns
unfolding bucket
returns c = rw (c.in_ok-path.ensures, c.in_ok-after.ensures, ← c.is_empty.ensures, c.if-not-is_empty.false) refl
