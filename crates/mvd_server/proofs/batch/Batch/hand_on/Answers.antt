use Rattle.mvd_server.proofs.AtHand.{asks_or_not}
use Rattle.mvd_server.proofs.batch.Batch.hand_on.Goals as goal

pub returns : goal.returns
returns c = asks_or_not c.args.number c.args.self.now c.args.hand.now c.ask_all.new.self c.ask_all.new.requests c.ask_all.result c.ask_all.ensures.ok c.ask_all.ensures.err
