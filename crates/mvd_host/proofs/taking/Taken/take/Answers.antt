use Rattle.std.proofs.Common.{length, ap, refl, arith, inr}
use Rattle.mvd_host.proofs.Frames.{none_moved, same}
use Rattle.mvd_host.proofs.Holding.{kept_more, kept_nothing, kept_requests, took_no_request, takes_more, takes_requests}
use Rattle.mvd_host.proofs.Weights.{weighed_same}
use Rattle.mvd_host.proofs.taking.Taken.take.Goals as goal

pub loop-frame-init : goal.loop-frame-init
loop-frame-init c = record { took = took_no_request c.args.client c.args.connection.now c.args.self.now; count = omega arith; weighed = c.requires.weighed }

pub loop-frame-preserved : goal.loop-frame-preserved
loop-frame-preserved c = record {
  took = takes_requests c.args.client c.args.connection.now c.loop-frame.connection c.take_one.new.connection c.args.self.now c.loop-frame.self c.take_one.new.self c.loop-frame.invariant.took
      (kept_requests c.args.client c.loop-frame.connection c.take_one.new.connection c.loop-frame.self c.make_room.new.self c.take_one.new.self c.make_room.ensures.same
      (c.in_ok-take_one.ensures.more c.if-not-branch.false));
  count = let one = c.in_ok-take_one.ensures.one c.if-not-branch.false in
      let kept = ap length c.make_room.ensures.same.clients in
      let so_far = c.loop-frame.invariant.count in
      omega arith;
  weighed = c.take_one.ensures.weighed (weighed_same _ _ _ _ c.make_room.ensures.same.requests c.loop-frame.invariant.weighed);
}

pub returns-in_err-make_room-clause-took : goal.returns-in_err-make_room-clause-took
returns-in_err-make_room-clause-took c =
    takes_more c.args.client c.args.connection.now c.loop-frame.connection c.loop-frame.connection c.args.self.now c.loop-frame.self c.make_room.new.self c.loop-frame.invariant.took
    (kept_nothing c.args.client c.loop-frame.connection c.loop-frame.connection c.loop-frame.self c.make_room.new.self c.make_room.ensures.same
    (same c.loop-frame.connection c.loop-frame.connection (record { taken = refl; answers = refl; moved = none_moved c.loop-frame.connection })))

pub returns-in_err-take_one-clause-took : goal.returns-in_err-take_one-clause-took
returns-in_err-take_one-clause-took c =
    takes_more c.args.client c.args.connection.now c.loop-frame.connection c.take_one.new.connection c.args.self.now c.loop-frame.self c.take_one.new.self c.loop-frame.invariant.took
    (kept_more c.args.client c.loop-frame.connection c.take_one.new.connection c.loop-frame.self c.make_room.new.self c.take_one.new.self c.make_room.ensures.same c.take_one.ensures.took)

pub returns-then-not-branch-clause-took : goal.returns-then-not-branch-clause-took
returns-then-not-branch-clause-took c =
    takes_more c.args.client c.args.connection.now c.loop-frame.connection c.take_one.new.connection c.args.self.now c.loop-frame.self c.take_one.new.self c.loop-frame.invariant.took
    (kept_more c.args.client c.loop-frame.connection c.take_one.new.connection c.loop-frame.self c.make_room.new.self c.take_one.new.self c.make_room.ensures.same c.take_one.ensures.took)

pub returns-then-waits-clause-took : goal.returns-then-waits-clause-took
returns-then-waits-clause-took c = c.loop-frame.invariant.took.took

pub returns-then-waits-clause-end : goal.returns-then-waits-clause-end
returns-then-waits-clause-end c = inr (c.waits.ensures c.if-waits.true)

pub returns-in_err-make_room-clause-weighed : goal.returns-in_err-make_room-clause-weighed
returns-in_err-make_room-clause-weighed c = weighed_same _ _ _ _ c.make_room.ensures.same.requests c.loop-frame.invariant.weighed

pub returns-in_err-take_one-clause-weighed : goal.returns-in_err-take_one-clause-weighed
returns-in_err-take_one-clause-weighed c = c.take_one.ensures.weighed (weighed_same _ _ _ _ c.make_room.ensures.same.requests c.loop-frame.invariant.weighed)

pub returns-then-not-branch-clause-weighed : goal.returns-then-not-branch-clause-weighed
returns-then-not-branch-clause-weighed c = c.take_one.ensures.weighed (weighed_same _ _ _ _ c.make_room.ensures.same.requests c.loop-frame.invariant.weighed)

pub returns-clause-took : goal.returns-clause-took
returns-clause-took c = c.loop-frame.invariant.took.took
