use Rattle.mvd_dots.proofs.Greatest.{greatest_bounds, greatest_attained, greatest-union}
use Rattle.mvd_dots.proofs.contexts.greatest_counter.Goals as goal

pub returns : goal.returns
returns c = record { bound = greatest_bounds; attained = greatest_attained; union = λ s t site. greatest-union site s t }
