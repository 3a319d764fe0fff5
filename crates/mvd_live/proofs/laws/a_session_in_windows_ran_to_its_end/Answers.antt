use Rattle.mvd_live.proofs.RanInWindows.{session_ends}
use Rattle.mvd_live.proofs.laws.a_session_in_windows_ran_to_its_end.Goals as goal

pub returns : goal.returns
returns c = λ setting before after local peer report ran whole. session_ends setting before after local peer report ran whole
