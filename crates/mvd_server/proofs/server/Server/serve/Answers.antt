use Rattle.mvd_server.specs.Wires.{wired_of}
use Rattle.mvd_server.proofs.Rounds.{goes_none, goes_on}
use Rattle.mvd_server.proofs.server.Server.serve.Goals as goal

pub loop-round-init : goal.loop-round-init
loop-round-init g c = goes_none g.K.Sockets (wired_of c.args.self.now.crowd.talks c.args.sockets.now) c.args.replica.now

pub loop-round-preserved : goal.loop-round-preserved
loop-round-preserved g c =
    goes_on g.K.Sockets (wired_of c.args.self.now.crowd.talks c.args.sockets.now) (wired_of c.loop-round.self.crowd.talks c.loop-round.sockets) (wired_of c.serve_once.new.self.crowd.talks c.serve_once.new.sockets) c.args.replica.now c.loop-round.replica c.serve_once.new.replica c.loop-round.invariant c.serve_once.ensures.goes

pub returns-in_err-serve_once-clause-goes : goal.returns-in_err-serve_once-clause-goes
returns-in_err-serve_once-clause-goes g c =
    goes_on g.K.Sockets (wired_of c.args.self.now.crowd.talks c.args.sockets.now) (wired_of c.loop-round.self.crowd.talks c.loop-round.sockets) (wired_of c.serve_once.new.self.crowd.talks c.serve_once.new.sockets) c.args.replica.now c.loop-round.replica c.serve_once.new.replica c.loop-round.invariant c.serve_once.ensures.goes

pub returns-in_err-look-clause-goes : goal.returns-in_err-look-clause-goes
returns-in_err-look-clause-goes g c =
    goes_on g.K.Sockets (wired_of c.args.self.now.crowd.talks c.args.sockets.now) (wired_of c.loop-round.self.crowd.talks c.loop-round.sockets) (wired_of c.serve_once.new.self.crowd.talks c.serve_once.new.sockets) c.args.replica.now c.loop-round.replica c.serve_once.new.replica c.loop-round.invariant c.serve_once.ensures.goes
