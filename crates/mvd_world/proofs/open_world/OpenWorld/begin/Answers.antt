use Rattle.std.proofs.Common.{sym, ap, ◌∙◌}
use Rattle.mvd_sync.specs.declared.report.SyncFault.TheVariants.{Local}
use Rattle.mvd_world.specs.declared.open_world.OpenWorld.{OpenWorld}
use Rattle.mvd_world.proofs.Opened.{begin_acts, begin_refused}
use Rattle.mvd_world.proofs.open_world.OpenWorld.begin.Goals as goal

pub returns-in-Ok-append-clause-acts : goal.returns-in-Ok-append-clause-acts
returns-in-Ok-append-clause-acts c =
    let new : OpenWorld = c.append.new.self in
    begin_acts c.args.self.now new c.args.local c.args.peer c.len.result c.in-Ok.machine (sym c.may_meet.ensures ∙ c.if-not-may_meet.false) c.in-Ok.ensures.begins
    c.append.ensures.world c.in-Ok-append.ensures.ok (c.len.ensures ∙ new.sessions.ok.0)

pub returns-in-Err-append-clause-acts : goal.returns-in-Err-append-clause-acts
returns-in-Err-append-clause-acts c =
    begin_refused c.args.self.now c.append.new.self c.args.local c.args.peer (Local c.in-Err-append.refusal) (sym c.may_meet.ensures ∙ c.if-not-may_meet.false) (ap Local c.in-Err-append.ensures.memory)
    c.append.ensures.world c.in-Err-append.ensures.err
