use Rattle.std.proofs.Common.{refl}
use Rattle.mvd_server.specs.Talking.{TurnsAway, talking_of}
use Rattle.mvd_server.specs.Wires.{wired_of}
use Rattle.mvd_server.proofs.Deeds.{carries_come, carries_deeds, carries_on}
use Rattle.mvd_server.proofs.clientele.Clientele.turn_away.Goals as goal

pub returns-in_default : goal.returns-in_default
returns-in_default g c = carries_deeds g.K.Sockets (talking_of c.args.crowd.now.talks) (talking_of c.turn_away.new.self) c.args.sockets.now c.args.sockets.now refl c.turn_away.ensures.deeds

pub returns-then-is_err : goal.returns-then-is_err
returns-then-is_err g c =
    carries_come g.K.Sockets (TurnsAway c.in-Some.number) c.in-Some.number (talking_of c.args.crowd.now.talks) (talking_of c.turn_away.new.self) c.args.sockets.now c.place.new.sockets (λ site. tt) refl c.in-Some.ensures.away c.place.ensures

pub returns-in_default-get_mut : goal.returns-in_default-get_mut
returns-in_default-get_mut g c =
    carries_come g.K.Sockets (TurnsAway c.in-Some.number) c.in-Some.number (talking_of c.args.crowd.now.talks) (talking_of c.turn_away.new.self) c.args.sockets.now c.place.new.sockets (λ site. tt) refl c.in-Some.ensures.away c.place.ensures

pub returns-then-set_alarm : goal.returns-then-set_alarm
returns-then-set_alarm g c =
    carries_on g.K.Sockets (wired_of c.args.crowd.now.talks c.args.sockets.now) (wired_of c.turn_away.new.self c.place.new.sockets) (wired_of c.turn_away.new.self c.tell_no_place.new.sockets)
    (carries_come g.K.Sockets (TurnsAway c.in-Some.number) c.in-Some.number (talking_of c.args.crowd.now.talks) (talking_of c.turn_away.new.self) c.args.sockets.now c.place.new.sockets (λ site. tt) refl c.in-Some.ensures.away c.place.ensures)
    c.tell_no_place.ensures

pub returns-else-leave : goal.returns-else-leave
returns-else-leave g c =
    carries_on g.K.Sockets (wired_of c.args.crowd.now.talks c.args.sockets.now) (wired_of c.turn_away.new.self c.place.new.sockets) (wired_of c.turn_away.new.self c.tell_no_place.new.sockets)
    (carries_come g.K.Sockets (TurnsAway c.in-Some.number) c.in-Some.number (talking_of c.args.crowd.now.talks) (talking_of c.turn_away.new.self) c.args.sockets.now c.place.new.sockets (λ site. tt) refl c.in-Some.ensures.away c.place.ensures)
    c.tell_no_place.ensures
