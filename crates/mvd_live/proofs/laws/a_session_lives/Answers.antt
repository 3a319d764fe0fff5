use Rattle.mvd_live.proofs.Whole.{lives}
use Rattle.mvd_live.proofs.laws.a_session_lives.Goals as goal

pub returns : goal.returns
returns c = λ number questions most old new legs done begins run next. lives number questions most old legs new begins run done next
