use Rattle.std.proofs.Common.{option_copied}
use Rattle.mvd_http.specs.Guard.{named_by}
use Rattle.mvd_web.specs.Inside.{web_of}
use Rattle.mvd_web.proofs.Calls.{not_free}
use Rattle.mvd_web.proofs.web_connection.WebConnection.next.Goals as goal

pub returns : goal.returns
returns c = not_free (option_copied c.args.passes) (named_by c.args.names.now) (web_of c.args.self.now) c.is_free.result c.is_free.ensures c.if-is_free.false
