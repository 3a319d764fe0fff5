use Rattle.mvd_remote.proofs.LiveAsked.{turn_none, turn_took}
use Rattle.mvd_remote.proofs.remote.Remote.turn.Goals as goal

pub returns-in-Some-clause-live : goal.returns-in-Some-clause-live
returns-in-Some-clause-live g c t = turn_none g.L.Line g.met.L.Line.live_form c.args.none c.args.self.now c.in-Some.refusal c.in-Some.is c.requires t

pub returns-in-None-clause-live : goal.returns-in-None-clause-live
returns-in-None-clause-live g c t = turn_took g.L.Line c.args.none c.args.self.now c.read-reply.new.self c.read-reply.result c.in_default.not-Some (c.read-reply.ensures.live t) c.in-None.is
