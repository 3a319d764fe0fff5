use Rattle.std.proofs.Common.{refl}
use Rattle.mvd_wire.specs.Rows.{key_entry}
use Rattle.mvd_frames.proofs.lists.key_entry_at.Goals as goal

pub returns : goal.returns
unfolding key_entry
returns c = rw (c.in_ok-key.ensures, c.in_ok-digest.ensures) refl
