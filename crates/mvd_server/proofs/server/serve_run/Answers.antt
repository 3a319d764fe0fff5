use Rattle.mvd_server.proofs.Rounds.{left_from, served_from, served_none}
use Rattle.mvd_server.proofs.server.serve_run.Goals as goal

pub returns-in_err-server-clause-served : goal.returns-in_err-server-clause-served
returns-in_err-server-clause-served g c = served_none g.K.Sockets _ _ c.args.sockets.now c.args.replica.now

pub returns-in_err-served-clause-served : goal.returns-in_err-served-clause-served
returns-in_err-served-clause-served g c =
    served_from g.K.Sockets _ _ c.in_ok-server.server.crowd.talks c.serve_at-served.new.self.crowd.talks c.args.sockets.now c.args.replica.now c.serve_at-served.new.sockets c.serve_at-served.new.replica c.in_ok-server.ensures.begins c.serve_at-served.ensures.goes

pub returns-clause-served : goal.returns-clause-served
returns-clause-served g c =
    served_from g.K.Sockets _ _ c.in_ok-server.server.crowd.talks c.serve_at-served.new.self.crowd.talks c.args.sockets.now c.args.replica.now c.serve_at-served.new.sockets c.serve_at-served.new.replica c.in_ok-server.ensures.begins c.serve_at-served.ensures.goes

pub returns-clause-left : goal.returns-clause-left
returns-clause-left g c =
    left_from g.K.Sockets _ _ c.in_ok-server.server.crowd.talks c.serve_at-served.new.self.crowd.talks c.args.sockets.now c.args.replica.now c.serve_at-served.new.sockets c.serve_at-served.new.replica c.in_ok-server.ensures.begins c.serve_at-served.ensures.goes c.in_ok-served.ensures.left
