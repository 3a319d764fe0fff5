use Rattle.std.proofs.Common.{refl}
use Rattle.mvd_meet.proofs.Turning.{one_turn}
use Rattle.mvd_meet.proofs.turns.has_turns.Goals as goal

pub loop-none-preserved : goal.loop-none-preserved
loop-none-preserved c = one_turn c.args.nones.now c.loop-none.none-index _ _ c.loop-none.rest.now c.args.bytes.now c.in-Ok.left.now c.loop-none-test.true refl c.loop-none.invariant c.in-Ok.ensures.left
