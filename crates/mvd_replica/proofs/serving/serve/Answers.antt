use Rattle.std.proofs.Common.{arith, refl, []}
use Rattle.mvd_replica.proofs.Whole.{Went-none, Went-more, Served-after, Served-some, Served-full}
use Rattle.mvd_replica.proofs.serving.serve.Goals as goal

pub loop-frame-init : goal.loop-frame-init
loop-frame-init g c = ([], refl, Went-none _)

pub loop-frame-preserved : goal.loop-frame-preserved
loop-frame-preserved g c =
    Went-more c.loop-frame.invariant.0 _ _ _ c.in-Ok-None.field-0 c.loop-frame._frame c.loop-frame.invariant.1 c.loop-frame.invariant.2 c.in-Ok-None.field-0-is c.in-Ok-None.ensures

pub returns-in-Ok-Some : goal.returns-in-Ok-Some
returns-in-Ok-Some g c =
    Served-some c.loop-frame.invariant.0 _ _ _ c.in-Ok-Some.field-0 c.in-Ok-Some.ended c.loop-frame.invariant.2 (omega (arith, c.loop-frame.invariant.1, c.loop-frame-test.true)) c.in-Ok-Some.field-0-is c.in-Ok-Some.ensures

pub returns-in-Err : goal.returns-in-Err
returns-in-Err g c =
    Served-after c.loop-frame.invariant.0 _ _ _ _ c.loop-frame.invariant.2 (omega (arith, c.loop-frame.invariant.1, c.loop-frame-test.true)) c.in-Err.ensures

pub returns : goal.returns
returns g c =
    Served-full c.loop-frame.invariant.0 _ _ _ _ c.loop-frame.invariant.2 (omega (arith, c.loop-frame.invariant.1, c.loop-frame-test.false, c.loop-frame.auto._frame-end)) c.stop.ensures
