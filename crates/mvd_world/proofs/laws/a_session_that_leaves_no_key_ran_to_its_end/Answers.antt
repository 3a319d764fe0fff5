use Rattle.mvd_world.proofs.Ended.{session_ran}
use Rattle.mvd_world.proofs.laws.a_session_that_leaves_no_key_ran_to_its_end.Goals as goal

pub returns : goal.returns
returns c = λ setting before after local peer report may whole apart. session_ran setting before local peer report after may whole apart
