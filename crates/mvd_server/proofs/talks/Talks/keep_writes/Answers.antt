use Rattle.std.proofs.Common.{ap}
use Rattle.mvd_server.specs.Talking.{talking_of}
use Rattle.mvd_server.proofs.talks.Talks.keep_writes.Goals as goal

pub returns-clause-keeps : goal.returns-clause-keeps
returns-clause-keeps c = ap (λ e. record (talking_of c.args.self.now) { batches = e }) c.in_ok-insert.ensures.entries
