use Rattle.mvd_host.proofs.Runs.{has_right, has_shown, told_end}
use Rattle.mvd_host.proofs.laws.none_before_the_token.Goals as goal

pub returns : goal.returns
returns c = record { shown = has_shown; right = has_right; told = told_end }
