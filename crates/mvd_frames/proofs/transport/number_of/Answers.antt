use Rattle.std.proofs.Common.{arith, ap, ◌∙◌}
use Rattle.std.specs.Int.{w32, to_be_bytes}
use Rattle.mvd_wire.proofs.Laws.{wide32}
use Rattle.mvd_wire.specs.Codec.{number}
use Rattle.mvd_frames.proofs.transport.number_of.Goals as goal

pub returns-clause-spelled : goal.returns-clause-spelled
unfolding number
returns-clause-spelled c = ap (to_be_bytes w32) c.from_be_bytes.ensures ∙ wide32.back c.args.head.now c.told-head (λ i. omega (arith, c.fits-head i))
