use Rattle.mvd_replica.specs.Replicas.{site_of}
use Rattle.mvd_web.specs.Inside.{web_of}
use Rattle.mvd_server.proofs.Errands.{asks_told, listed_told, stop_told}
use Rattle.mvd_server.proofs.gate.carry_out.Goals as goal

pub returns-in-Asks : goal.returns-in-Asks
returns-in-Asks g c =
    asks_told c.args.changes.now c.args.is_guarded c.args.number c.args.plan c.in-Asks.right (site_of c.args.replica.now) (web_of c.args.web.now) (web_of c.tell_asks.new.web) c.args.hand.now c.in-Asks.is c.tell_asks.ensures

pub returns-in-Listed : goal.returns-in-Listed
returns-in-Listed g c =
    listed_told c.args.changes.now c.args.is_guarded c.args.number c.args.plan (site_of c.args.replica.now) (web_of c.args.web.now) (web_of c.tell_listed.new.web) c.args.hand.now c.in-Listed.is c.tell_listed.ensures

pub returns-in-Stop : goal.returns-in-Stop
returns-in-Stop g c =
    stop_told (site_of c.args.replica.now) c.args.changes.now c.args.is_guarded c.args.number c.args.plan (web_of c.args.web.now) (web_of c.stop_if.new.web) c.args.hand.now _ c.in-Stop.is c.stop_if.ensures
