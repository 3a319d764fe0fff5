use Rattle.std.proofs.Common.{refl}
use Rattle.mvd_wire.specs.Rows.{field}
use Rattle.mvd_frames.proofs.rows.field_at.Goals as goal

pub returns : goal.returns
unfolding field
returns c = rw (c.in_ok-count.ensures, ← c.from.ensures, c.in_ok-text.ensures, c.in_ok-field_of_text.ensures) refl
