use Rattle.std.proofs.Common.{refl}
use Rattle.mvd_wire.specs.Rows.{key_count}
use Rattle.mvd_frames.proofs.lists.key_count_at.Goals as goal

pub returns : goal.returns
unfolding key_count
returns c = rw (c.in_ok-key.ensures, c.in_ok-count.ensures) refl
