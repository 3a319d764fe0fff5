use Rattle.mvd_host.proofs.Idle.{idle_stays, is_idle}
use Rattle.mvd_host.proofs.laws.nothing_comes_of_the_idle.Goals as goal

pub returns : goal.returns
returns c h answered = (idle_stays h answered, is_idle h answered)
