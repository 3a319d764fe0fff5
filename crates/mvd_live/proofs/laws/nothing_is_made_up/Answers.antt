use Rattle.mvd_live.proofs.Whole.{given}
use Rattle.mvd_live.proofs.laws.nothing_is_made_up.Goals as goal

pub returns : goal.returns
returns c = λ number questions most old new legs asking step begins run next. given number questions most old legs new begins run asking step next
