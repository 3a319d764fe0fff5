use Rattle.std.proofs.Common.{refl, rules}
use Rattle.mvd_wire.specs.Rows.{spot_codec}
use Rattle.mvd_frames.proofs.rows.spot_at.Goals as goal

pub returns-in-Ok : goal.returns-in-Ok
unfolding spot_codec
returns-in-Ok c = rw (c.in_ok-key.ensures, c.in-Ok.ensures) (search rules)

pub returns-in-Err : goal.returns-in-Err
unfolding spot_codec
returns-in-Err c = λ other. rw (c.in_ok-key.ensures, c.in-Err.ensures other) refl
