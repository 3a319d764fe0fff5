use Rattle.std.proofs.Common.{refl}
use Rattle.mvd_sync.specs.Ran.{answered, unasked}
use Rattle.mvd_sync.proofs.session.go_on.Goals as goal

pub returns-in-Ok-None-clause-window : goal.returns-in-Ok-None-clause-window
returns-in-Ok-None-clause-window g c = (rw c.in-Ok-None.field-0-is at c.in-Ok-None.ensures.next, refl, refl)

pub returns-in-Err-clause-ended : goal.returns-in-Err-clause-ended
returns-in-Err-clause-ended g c = unasked c.in-Err.ensures.ended refl

pub ask-mine-requires : goal.ask-mine-requires
ask-mine-requires g c =
    let next = rw c.in-Ok-Some.field-0-is at c.in-Ok-Some.ensures.next in
    record { bounded = next.asks.0.bounded.0 }

pub ask-theirs-requires : goal.ask-theirs-requires
ask-theirs-requires g c =
    let next = rw c.in-Ok-Some.field-0-is at c.in-Ok-Some.ensures.next in
    record { bounded = next.asks.0.bounded.1 }

pub returns-in-Ok-clause-window : goal.returns-in-Ok-clause-window
returns-in-Ok-clause-window g c =
    let next = rw c.in-Ok-Some.field-0-is at c.in-Ok-Some.ensures.next in
    record {
      next = c.next.new.self;
      step = c.in-Ok-Some.step;
      mine = c.ask-mine.result;
      theirs = c.ask-theirs.result;
      goes = next;
      local = c.ask-mine.ensures;
      peer = c.ask-theirs.ensures;
      takes = c.in-Ok.ensures;
    }

pub returns-in-Err-take-clause-ended : goal.returns-in-Err-take-clause-ended
returns-in-Err-take-clause-ended g c =
    let next = rw c.in-Ok-Some.field-0-is at c.in-Ok-Some.ensures.next in
    answered c.take.new.self (record {
      next = c.next.new.self;
      step = c.in-Ok-Some.step;
      mine = c.ask-mine.result;
      theirs = c.ask-theirs.result;
      goes = next;
      local = c.ask-mine.ensures;
      peer = c.ask-theirs.ensures;
      takes = c.in-Err-take.ensures;
    })
