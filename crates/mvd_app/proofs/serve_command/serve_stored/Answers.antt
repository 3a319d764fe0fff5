use Rattle.std.proofs.Common.{option_copied}
use Rattle.mvd_app.proofs.Unserved.{serves_nothing}
use Rattle.mvd_app.proofs.serve_command.serve_stored.Goals as goal
use Rattle.mvd_replica.specs.Replicas.{site_of}
use Rattle.mvd_server.proofs.Closing.{ends_unread}
use Rattle.mvd_server.specs.TokenFiles.{names_asked, passes_asked}

pub returns-in-Err : goal.returns-in-Err
returns-in-Err g c =
    serves_nothing g.K.Sockets (passes_asked c.args.terms) (names_asked c.args.terms) c.args.sockets.now c.args.replica.now c.unheard.result (ends_unread (site_of c.args.replica.now) c.unheard.result.fault c.unheard.ensures)
