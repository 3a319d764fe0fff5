use Rattle.mvd_host.specs.Round.{turns_of}
use Rattle.mvd_host.proofs.Growths.{turns_grow}
use Rattle.mvd_host.proofs.laws.rounds_only_grow.Goals as goal

pub returns : goal.returns
returns g c = λ ready turns old new held round. turns_grow (turns_of turns) _ _ held round.serves
