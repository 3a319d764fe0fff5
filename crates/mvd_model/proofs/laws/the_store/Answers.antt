use Rattle.mvd_model.proofs.Runs.{promised}
use Rattle.mvd_model.proofs.laws.the_store.Goals as goal

pub returns : goal.returns
returns c = λ start end events happen. promised start events end happen
