use Rattle.mvd_web.specs.Inside.{web_of}
use Rattle.mvd_web.proofs.Calls.{passes_nothing}
use Rattle.mvd_web.proofs.web_connection.WebConnection.pass_on.Goals as goal

pub returns-else-wants_write : goal.returns-else-wants_write
returns-else-wants_write c = passes_nothing (web_of c.args.self.now) c.wants_write.result c.wants_write.ensures c.if-wants_write.false
