use Rattle.mvd_model.specs.Handed.{nothing_known}
use Rattle.mvd_model.proofs.Agreeing.{sound_run, sound_start}
use Rattle.mvd_model.proofs.laws.nothing_is_made_up.Goals as goal

pub returns : goal.returns
returns c = λ setups events end happen brings. sound_run (nothing_known setups) events end happen brings (sound_start setups)
