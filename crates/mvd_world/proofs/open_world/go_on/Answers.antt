use Rattle.std.proofs.Common.{subst}
use Rattle.std.specs.Prelude.{Ok, Err}
use Rattle.mvd_sync.specs.Machines.{HasNext, TakesTold}
use Rattle.mvd_world.proofs.Opened.{goes_done, goes_failed, goes_stops, goes_went, went_on}
use Rattle.mvd_world.proofs.open_world.go_on.Goals as goal

pub returns-in-Ok-None : goal.returns-in-Ok-None
returns-in-Ok-None c = goes_done c.args.world.now c.args.local c.args.peer c.args.machine c.next.new.self c.report.result
    (subst (HasNext c.args.machine c.next.new.self) c.in-Ok-None.field-0-is c.in-Ok-None.ensures.next)
    (record { keys = c.report.ensures.keys; refused = c.report.ensures.refused; old = c.report.ensures.old; first = c.report.ensures.first })

pub returns-in-Err : goal.returns-in-Err
returns-in-Err c = goes_stops c.args.world.now c.args.local c.args.peer c.args.machine c.in-Err.fault c.in-Err.ensures.ended

pub returns-in-Ok : goal.returns-in-Ok
returns-in-Ok c =
    let has = subst (HasNext c.args.machine c.next.new.self) c.in-Ok-Some.field-0-is c.in-Ok-Some.ensures.next in
    let takes = subst (TakesTold c.next.new.self c.ask_site-mine.result c.ask_site-theirs.result c.take.new.self) c.in-Ok.is c.take.ensures in
    goes_went c.args.world.now c.ask_site-theirs.new.world c.args.local c.args.peer c.args.machine c.next.new.self c.take.new.self c.in-Ok-Some.step has
    (went_on c.args.world.now c.ask_site-mine.new.world c.ask_site-theirs.new.world c.args.local c.args.peer c.args.machine c.next.new.self c.take.new.self c.in-Ok-Some.step c.ask_site-mine.result c.ask_site-theirs.result (Ok tt) has
    c.ask_site-mine.ensures c.ask_site-theirs.ensures takes)

pub returns-in-Err-take : goal.returns-in-Err-take
returns-in-Err-take c =
    let has = subst (HasNext c.args.machine c.next.new.self) c.in-Ok-Some.field-0-is c.in-Ok-Some.ensures.next in
    let takes = subst (TakesTold c.next.new.self c.ask_site-mine.result c.ask_site-theirs.result c.take.new.self) c.in-Err-take.is c.take.ensures in
    goes_failed c.args.world.now c.ask_site-theirs.new.world c.args.local c.args.peer c.args.machine c.next.new.self c.take.new.self c.in-Ok-Some.step c.in-Err-take.fault has
    (went_on c.args.world.now c.ask_site-mine.new.world c.ask_site-theirs.new.world c.args.local c.args.peer c.args.machine c.next.new.self c.take.new.self c.in-Ok-Some.step c.ask_site-mine.result c.ask_site-theirs.result (Err c.in-Err-take.fault) has
    c.ask_site-mine.ensures c.ask_site-theirs.ensures takes)
