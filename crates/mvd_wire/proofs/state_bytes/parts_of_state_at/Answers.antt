use Rattle.std.proofs.Common.{rules}
use Rattle.mvd_wire.specs.Codecs.{unlimited_state}
use Rattle.mvd_wire.proofs.state_bytes.parts_of_state_at.Goals as goal

pub returns : goal.returns
unfolding unlimited_state
returns c = rw (c.in_ok-context.ensures, c.in_ok-siblings.ensures.read) (search rules)
