use Rattle.mvd_kept.proofs.KnownKeys.{states_of-stands}
use Rattle.mvd_kept.proofs.OfTheSet.{of_the_set}
use Rattle.mvd_kept.proofs.laws.answers_are_of_the_set.Goals as goal

pub returns : goal.returns
returns c = record { answers = of_the_set; states = states_of-stands }
