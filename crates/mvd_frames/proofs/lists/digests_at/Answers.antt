use Rattle.std.proofs.Common.{refl}
use Rattle.mvd_wire.specs.Rows.{digests_codec}
use Rattle.mvd_frames.proofs.lists.digests_at.Goals as goal

pub returns : goal.returns
unfolding digests_codec
returns c = rw (c.in_ok-own.ensures, c.in_ok-children.ensures) refl
