use Rattle.std.proofs.Common.{refl}
use Rattle.mvd_wire.specs.Rows.{view_name}
use Rattle.mvd_frames.proofs.rows.view_name_at.Goals as goal

pub returns : goal.returns
unfolding view_name
returns c = rw (c.in_ok-count.ensures, ← c.from.ensures, c.in_ok-text.ensures, c.in_ok-view_name_of_text.ensures) refl
