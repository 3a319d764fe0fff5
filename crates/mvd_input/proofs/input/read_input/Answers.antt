use Rattle.std.proofs.Common.{◌++◌, arith, take}
use Rattle.mvd_input.proofs.Consumed.{consumed_on, too_long}
use Rattle.mvd_input.proofs.input.read_input.Goals as goal

pub returns-then-count-most-clause-long : goal.returns-then-count-most-clause-long
returns-then-count-most-clause-long g c same =
    let bytes = c.loop-bytes.bytes.items in
    let piece = c.read.new.buf in (
      bytes ++ take c.in-Ok.count piece,
      consumed_on _ _ _ bytes (take c.in-Ok.count piece) c.loop-bytes.invariant.1 c.in-Ok.ensures.bytes.0,
      too_long bytes piece c.in-Ok.count c.len.result c.args.most c.in-Ok.ensures.bound.0 (omega (arith, c.len.ensures, c.loop-bytes.bytes.ok.0)) c.loop-bytes.invariant.0 c.if-count-most.true,
    )
