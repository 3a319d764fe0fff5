use Rattle.std.proofs.Common.{refl}
use Rattle.std.specs.Prelude.{Ok}
use Rattle.mvd_peer.specs.PeerSides.{side_of}
use Rattle.mvd_peer.specs.Sides.{two}
use Rattle.mvd_sync.specs.Ran.{begins, now_at}
use Rattle.mvd_sync.proofs.Amid.{Laws}
use Rattle.mvd_sync.proofs.Courses.{over_runs, runs_stand, window_less, window_runs}
use Rattle.mvd_sync.proofs.session.converse.Goals as goal

pub windows-init : goal.windows-init
windows-init g c = record { questions = c.requires.starts.0; starts = c.requires.starts.1; runs = begins _ refl }

pub windows-preserved : goal.windows-preserved
windows-preserved g c =
    let l = side_of g.L.Peer in
    let p = side_of g.P.Peer in
    let a : Laws l = record { on = g.met.L.Peer.follows_on; self = g.met.L.Peer.follows_self; stays = g.met.L.Peer.most_stays; form = g.met.L.Peer.in_form } in
    let b : Laws p = record { on = g.met.P.Peer.follows_on; self = g.met.P.Peer.follows_self; stays = g.met.P.Peer.most_stays; form = g.met.P.Peer.in_form } in
    let so_far = c.windows.invariant in
    let old = two c.args.local.now c.args.peer.now in
    let r = now_at c.windows.machine c.windows.local c.windows.peer in
    let new = now_at c.go_on.new.machine c.go_on.new.local c.go_on.new.peer in
    let w = rw c.if-not-more.false at c.in-Ok.ensures.window in
    record {
      questions = so_far.questions;
      starts = so_far.starts;
      runs = window_runs l p a b so_far.questions old r new (runs_stand l p a b so_far.questions old c.args.machine.now so_far.starts so_far.runs) (Ok tt) w (now_at c.args.machine.now c.args.local.now c.args.peer.now) so_far.runs refl;
    }

pub windows-smaller : goal.windows-smaller
windows-smaller g c =
    let l = side_of g.L.Peer in
    let p = side_of g.P.Peer in
    let a : Laws l = record { on = g.met.L.Peer.follows_on; self = g.met.L.Peer.follows_self; stays = g.met.L.Peer.most_stays; form = g.met.L.Peer.in_form } in
    let b : Laws p = record { on = g.met.P.Peer.follows_on; self = g.met.P.Peer.follows_self; stays = g.met.P.Peer.most_stays; form = g.met.P.Peer.in_form } in
    let so_far = c.windows.invariant in
    let old = two c.args.local.now c.args.peer.now in
    let r = now_at c.windows.machine c.windows.local c.windows.peer in
    let new = now_at c.go_on.new.machine c.go_on.new.local c.go_on.new.peer in
    let w = rw c.if-not-more.false at c.in-Ok.ensures.window in
    window_less l p a b so_far.questions old r new (runs_stand l p a b so_far.questions old c.args.machine.now so_far.starts so_far.runs) (Ok tt) w refl

pub returns-then-not-more-clause-done : goal.returns-then-not-more-clause-done
returns-then-not-more-clause-done g c =
    let l = side_of g.L.Peer in
    let p = side_of g.P.Peer in
    let a : Laws l = record { on = g.met.L.Peer.follows_on; self = g.met.L.Peer.follows_self; stays = g.met.L.Peer.most_stays; form = g.met.L.Peer.in_form } in
    let b : Laws p = record { on = g.met.P.Peer.follows_on; self = g.met.P.Peer.follows_self; stays = g.met.P.Peer.most_stays; form = g.met.P.Peer.in_form } in
    let so_far = c.windows.invariant in
    let h = rw c.if-not-more.true at c.in-Ok.ensures.window in
    over_runs l p a b so_far.questions (two c.args.local.now c.args.peer.now) (now_at c.args.machine.now c.args.local.now c.args.peer.now) (now_at c.windows.machine c.windows.local c.windows.peer) c.go_on.new.machine c.go_on.new.local c.go_on.new.peer so_far.runs h.0 h.1 h.2

pub returns-in-Err-clause-ended : goal.returns-in-Err-clause-ended
returns-in-Err-clause-ended g c = record { now = now_at c.windows.machine c.windows.local c.windows.peer; runs = c.windows.invariant.runs; ends = c.in-Err.ensures.ended }
