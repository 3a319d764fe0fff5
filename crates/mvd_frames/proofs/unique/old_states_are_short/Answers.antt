use Rattle.mvd_wire.proofs.Versions.{old_state_is_short}
use Rattle.mvd_frames.proofs.unique.old_states_are_short.Goals as goal

pub returns : goal.returns
returns c = old_state_is_short
