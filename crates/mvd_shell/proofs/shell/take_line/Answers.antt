use Rattle.mvd_shell.proofs.Typing.{unread}
use Rattle.mvd_shell.proofs.shell.take_line.Goals as goal

pub returns-clause-told : goal.returns-clause-told
returns-clause-told g c =
    let written = g.W.Write.contents c.args.writer.now in
    unread g.A.Endpoint.answers g.L.Losses.lost c.args.number c.args.asked.now (g.R.Read.remaining c.args.reader.now) (g.R.Read.remaining c.read_line.new.reader) written c.read_line.new.line.items c.in-Err.fault c.in-Err.ensures.read
