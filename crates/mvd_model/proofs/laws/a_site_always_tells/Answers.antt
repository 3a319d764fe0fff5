use Rattle.mvd_model.proofs.Placing.{tells}
use Rattle.mvd_model.proofs.laws.a_site_always_tells.Goals as goal

pub returns : goal.returns
returns c = λ a i request valid. tells a i request valid
