use Rattle.std.proofs.Common.{rules}
use Rattle.std.specs.Int.{w32}
use Rattle.mvd_wire.specs.Codec.{number}
use Rattle.mvd_frames.proofs.FrameLemmas.{head_spelled}
use Rattle.mvd_frames.proofs.transport.read_length.Goals as goal

pub returns-clause-spelled : goal.returns-clause-spelled
returns-clause-spelled g c = head_spelled (g.R.Read.remaining c.args.reader.now) (g.R.Read.remaining c.fill.new.reader) c.fill.new.buf ((number w32).spell c.number_of-length.result) c.in_ok-came.came (search rules) c.if-came-lt4.false c.number_of-length.ensures.spelled c.in_ok-came.ensures.bytes
