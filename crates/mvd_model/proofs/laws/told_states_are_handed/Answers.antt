use Rattle.mvd_model.proofs.Handing.{handed_start}
use Rattle.mvd_model.proofs.laws.told_states_are_handed.Goals as goal

pub returns : goal.returns
returns c = λ setups events end happen told. handed_start setups events end happen told
