use Rattle.std.proofs.Common.{refl}
use Rattle.mvd_wire.specs.Rows.{place}
use Rattle.mvd_frames.proofs.rows.place_at.Goals as goal

pub returns : goal.returns
unfolding place
returns c = rw (c.in_ok-term.ensures, c.in_ok-key.ensures) refl
