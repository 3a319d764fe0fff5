use Rattle.std.proofs.Common.{refl}
use Rattle.mvd_server.specs.Talking.{talking_of}
use Rattle.mvd_server.proofs.Deeds.{carries_back, carries_comes, carries_deeds}
use Rattle.mvd_server.proofs.clientele.Clientele.let_in.Goals as goal

pub returns-in_default-clause-carries : goal.returns-in_default-clause-carries
returns-in_default-clause-carries g c = carries_deeds g.K.Sockets (talking_of c.args.crowd.now.talks) (talking_of c.admit.new.self) c.args.sockets.now c.args.sockets.now refl c.admit.ensures.deeds

pub returns-in-Some-get_mut-clause-carries : goal.returns-in-Some-get_mut-clause-carries
returns-in-Some-get_mut-clause-carries g c =
    carries_comes g.K.Sockets c.args.kind c.in-Some.number (talking_of c.args.crowd.now.talks) (talking_of c.admit.new.self) c.args.sockets.now c.place.new.sockets c.in-Some.ensures.comes c.place.ensures

pub returns-in_default-get_mut-clause-carries : goal.returns-in_default-get_mut-clause-carries
returns-in_default-get_mut-clause-carries g c =
    carries_comes g.K.Sockets c.args.kind c.in-Some.number (talking_of c.args.crowd.now.talks) (talking_of c.admit.new.self) c.args.sockets.now c.place.new.sockets c.in-Some.ensures.comes c.place.ensures

pub returns-in-Err-clause-carries : goal.returns-in-Err-clause-carries
returns-in-Err-clause-carries g c =
    carries_back g.K.Sockets c.args.kind c.in-Some.number (talking_of c.args.crowd.now.talks) (talking_of c.admit.new.self) (talking_of c.turn_back.new.self) c.args.sockets.now c.place.new.sockets
    c.in-Some.ensures.comes c.place.ensures c.turn_back.ensures.deeds
