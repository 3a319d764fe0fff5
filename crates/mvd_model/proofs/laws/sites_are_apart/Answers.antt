use Rattle.mvd_model.proofs.Mixing.{alone, mixed}
use Rattle.mvd_model.proofs.laws.sites_are_apart.Goals as goal

pub returns : goal.returns
returns c = record { mixed = λ a end events each. mixed a end events each; alone = λ a end events happen i. alone a end events happen i }
