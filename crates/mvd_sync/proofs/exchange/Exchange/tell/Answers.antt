use Rattle.std.proofs.Common.{◌∷◌, [], map, sym, subst, arith, length-append}
use Rattle.std.proofs.lemmas.List.{map-append}
use Rattle.mvd_sync.specs.Exchanges.{CountsDone}
use Rattle.mvd_sync.specs.Meetings.{done_of}
use Rattle.mvd_sync.proofs.Counting.{adds_none, adds_on, adds_room}
use Rattle.mvd_sync.proofs.exchange.Exchange.tell.Goals as goal

pub loop-meeting-init : goal.loop-meeting-init
loop-meeting-init c = record { adds = adds_none c.args.self.now; room = omega arith }

pub loop-meeting-preserved : goal.loop-meeting-preserved
loop-meeting-preserved c =
    let before = c.loop-meeting.invariant in
    let one = done_of c.in-Some.meeting in
    let now = c.in_ok-count.ensures.adds in
    let longer = length-append c.loop-meeting.yielded (c.in-Some.meeting ∷ []) in
    let more = adds_room one c.loop-meeting.self c.count.new.self now in
    record {
      adds = subst (λ ds. CountsDone ds c.args.self.now c.count.new.self) (sym (map-append done_of c.loop-meeting.yielded (c.in-Some.meeting ∷ [])))
          (adds_on (map done_of c.loop-meeting.yielded) (one ∷ []) c.args.self.now c.loop-meeting.self c.count.new.self before.adds now);
      room = omega (arith, before.room, more, longer);
    }

pub loop-meeting-preserved-in_ok-count : goal.loop-meeting-preserved-in_ok-count
loop-meeting-preserved-in_ok-count c =
    let before = c.loop-meeting.invariant in
    let one = done_of c.in-Some.meeting in
    let now = c.in_ok-count.ensures.adds in
    let longer = length-append c.loop-meeting.yielded (c.in-Some.meeting ∷ []) in
    let more = adds_room one c.loop-meeting.self c.count.new.self now in
    record {
      adds = subst (λ ds. CountsDone ds c.args.self.now c.count.new.self) (sym (map-append done_of c.loop-meeting.yielded (c.in-Some.meeting ∷ [])))
          (adds_on (map done_of c.loop-meeting.yielded) (one ∷ []) c.args.self.now c.loop-meeting.self c.count.new.self before.adds now);
      room = omega (arith, before.room, more, longer);
    }
