use Rattle.std.proofs.Common.{subst}
use Rattle.mvd_server.specs.OwnSides.{AdmitsOwn}
use Rattle.mvd_server.specs.Talking.{ComesOwn, talking_of}
use Rattle.mvd_server.proofs.Deeds.{deeds_one}
use Rattle.mvd_server.proofs.own_session.OwnSession.begin.Goals as goal

pub returns-clause-deeds : goal.returns-clause-deeds
returns-clause-deeds c =
    deeds_one (ComesOwn c.in-Some.client) (talking_of c.args.talks.now) (talking_of c.admit_own.new.self) (λ site. tt) (subst (λ o. AdmitsOwn c.args.talks.now o c.admit_own.new.self) c.in-Some.is c.admit_own.ensures)
