use Rattle.std.proofs.Common.{ap}
use Rattle.mvd_server.specs.Talking.{talking_of}
use Rattle.mvd_server.proofs.talks.Talks.open_web.Goals as goal

pub returns-clause-opens : goal.returns-clause-opens
returns-clause-opens c = (c.new-web.result, c.new-web.ensures, ap (λ e. record (talking_of c.args.self.now) { webs = e }) c.in_ok-insert.ensures.entries)
