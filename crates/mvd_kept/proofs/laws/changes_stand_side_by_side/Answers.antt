use Rattle.mvd_kept.proofs.SideBySide.{still_now}
use Rattle.mvd_kept.proofs.laws.changes_stand_side_by_side.Goals as goal

pub returns : goal.returns
returns c = still_now
