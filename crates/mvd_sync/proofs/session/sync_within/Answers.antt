use Rattle.std.proofs.Common.{refl, subst}
use Rattle.mvd_peer.specs.PeerSides.{side_of}
use Rattle.mvd_peer.specs.Sides.{two}
use Rattle.mvd_sync.specs.Machines.{Starts}
use Rattle.mvd_sync.specs.Ran.{after, before}
use Rattle.mvd_sync.proofs.Amid.{Laws}
use Rattle.mvd_sync.proofs.Courses.{fault_is_session, run_is_session}
use Rattle.mvd_sync.proofs.session.sync_within.Goals as goal

pub returns-in-Err-clause-session : goal.returns-in-Err-clause-session
returns-in-Err-clause-session g c =
    let l = side_of g.L.Peer in
    let p = side_of g.P.Peer in
    let a : Laws l = record { on = g.met.L.Peer.follows_on; self = g.met.L.Peer.follows_self; stays = g.met.L.Peer.most_stays; form = g.met.L.Peer.in_form } in
    let b : Laws p = record { on = g.met.P.Peer.follows_on; self = g.met.P.Peer.follows_self; stays = g.met.P.Peer.most_stays; form = g.met.P.Peer.in_form } in
    fault_is_session l p a b c.args.questions (two c.args.local.now c.args.peer.now) (two c.args.local.now c.args.peer.now) c.in-Err.fault (before c.in-Err.ensures.memory refl)

pub returns-in-Err-clause-ended : goal.returns-in-Err-clause-ended
returns-in-Err-clause-ended g c = before c.in-Err.ensures.memory refl

pub converse-requires : goal.converse-requires
converse-requires g c = record { starts = (c.args.questions, subst (λ n. Starts n c.args.questions c.in-Ok.machine) c.number.ensures c.in-Ok.ensures.begins) }

pub returns-in-Err-converse-clause-session : goal.returns-in-Err-converse-clause-session
returns-in-Err-converse-clause-session g c =
    let l = side_of g.L.Peer in
    let p = side_of g.P.Peer in
    let a : Laws l = record { on = g.met.L.Peer.follows_on; self = g.met.L.Peer.follows_self; stays = g.met.L.Peer.most_stays; form = g.met.L.Peer.in_form } in
    let b : Laws p = record { on = g.met.P.Peer.follows_on; self = g.met.P.Peer.follows_self; stays = g.met.P.Peer.most_stays; form = g.met.P.Peer.in_form } in
    let starts = subst (λ n. Starts n c.args.questions c.in-Ok.machine) c.number.ensures c.in-Ok.ensures.begins in
    fault_is_session l p a b c.args.questions (two c.args.local.now c.args.peer.now) (two c.converse.new.local c.converse.new.peer) c.in-Err-converse.fault (after c.in-Ok.machine starts c.in-Err-converse.ensures.ended)

pub returns-in-Err-converse-clause-ended : goal.returns-in-Err-converse-clause-ended
returns-in-Err-converse-clause-ended g c =
    after c.in-Ok.machine (subst (λ n. Starts n c.args.questions c.in-Ok.machine) c.number.ensures c.in-Ok.ensures.begins) c.in-Err-converse.ensures.ended

pub returns-in-Ok-converse-clause-session : goal.returns-in-Ok-converse-clause-session
returns-in-Ok-converse-clause-session g c =
    let l = side_of g.L.Peer in
    let p = side_of g.P.Peer in
    let a : Laws l = record { on = g.met.L.Peer.follows_on; self = g.met.L.Peer.follows_self; stays = g.met.L.Peer.most_stays; form = g.met.L.Peer.in_form } in
    let b : Laws p = record { on = g.met.P.Peer.follows_on; self = g.met.P.Peer.follows_self; stays = g.met.P.Peer.most_stays; form = g.met.P.Peer.in_form } in
    run_is_session l p a b c.args.questions (two c.args.local.now c.args.peer.now) (two c.converse.new.local c.converse.new.peer) c.report.result
    (record {
      begun = c.in-Ok.machine;
      done = c.converse.new.machine;
      starts = subst (λ n. Starts n c.args.questions c.in-Ok.machine) c.number.ensures c.in-Ok.ensures.begins;
      runs = c.in-Ok-converse.ensures.done.1;
      is_done = c.in-Ok-converse.ensures.done.0;
      counts = (c.report.ensures.keys, c.report.ensures.refused, c.report.ensures.old, c.report.ensures.first);
    })

pub returns-in-Ok-converse-clause-ran : goal.returns-in-Ok-converse-clause-ran
returns-in-Ok-converse-clause-ran g c = record {
  begun = c.in-Ok.machine;
  done = c.converse.new.machine;
  starts = subst (λ n. Starts n c.args.questions c.in-Ok.machine) c.number.ensures c.in-Ok.ensures.begins;
  runs = c.in-Ok-converse.ensures.done.1;
  is_done = c.in-Ok-converse.ensures.done.0;
  counts = (c.report.ensures.keys, c.report.ensures.refused, c.report.ensures.old, c.report.ensures.first);
}
