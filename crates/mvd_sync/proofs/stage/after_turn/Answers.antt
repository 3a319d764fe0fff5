use Rattle.std.proofs.Common.{ap, arith, length}
use Rattle.mvd_sync.proofs.Machined.{noted_long}
use Rattle.mvd_sync.proofs.stage.after_turn.Goals as goal

pub tell-requires : goal.tell-requires
tell-requires c =
    let n = ap length c.in_ok-meetings.ensures.noted in
    let m = noted_long c.args.turn.side c.args.turn.meetings.items c.args.turn.told.items in
    let r = c.requires.room in
    record { room = omega (arith, n, m, r) }
