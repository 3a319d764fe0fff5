use Rattle.std.proofs.Common.{◌+◌, Some, ap, slice_index, subst, sym}
use Rattle.mvd_host.specs.Runs.{Meets}
use Rattle.mvd_server.specs.Guarded.{AreSettled}
use Rattle.mvd_server.specs.Talking.{Calls, with_host}
use Rattle.mvd_server.proofs.Deeds.{deeds_on, deeds_one}
use Rattle.mvd_server.proofs.Meeting.{settled_more}
use Rattle.mvd_server.proofs.talks.meeting.meet_each.Goals as goal

pub loop-number-preserved : goal.loop-number-preserved
loop-number-preserved c =
    let count = c.loop-number.number-index in
    let host = c.loop-number.host in
    let passes = c.args.passes.now in
    record {
      deeds = λ t known from.
          deeds_on t (with_host t host) (with_host t c.meet.new.self) (c.loop-number.invariant.deeds t known from)
          (deeds_one (Calls (slice_index c.args.ready.now count) (Meets passes)) (with_host t host) (with_host t c.meet.new.self) (λ site. tt) (known, ap (with_host t) c.meet.ensures));
      settled =
          subst (AreSettled (Some passes) c.args.ready.now (count + 1)) (sym c.meet.ensures)
          (settled_more passes c.args.ready.now count host c.loop-number.invariant.settled);
    }
