use Rattle.std.proofs.Common.{refl}
use Rattle.mvd_server.specs.Talking.{TurnsAway, talking_of}
use Rattle.mvd_server.proofs.Deeds.{deeds_one}
use Rattle.mvd_server.proofs.talks.Talks.turn_away.Goals as goal

pub returns-clause-deeds : goal.returns-clause-deeds
returns-clause-deeds c =
    let old = talking_of c.args.self.now in
    deeds_one (TurnsAway old.next) old _ (λ site. tt) (refl, refl)
