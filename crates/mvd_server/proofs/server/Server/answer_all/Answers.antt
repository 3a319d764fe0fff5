use Rattle.mvd_server.proofs.Rounds.{answers_join, answers_none, answers_round}
use Rattle.mvd_server.proofs.server.Server.answer_all.Goals as goal

pub loop-round-init : goal.loop-round-init
loop-round-init g c = answers_none c.args.self.now.crowd.talks c.args.replica.now

pub loop-round-preserved : goal.loop-round-preserved
loop-round-preserved g c =
    let before = c.loop-round.self.crowd.talks in
    let after = c.round.new.self.talks in
    answers_join c.args.self.now.crowd.talks before after c.args.replica.now c.loop-round.replica c.round.new.replica c.loop-round.invariant
    (answers_round before after c.loop-round.replica c.round.new.replica c.round.ensures)

pub returns-then-not-round : goal.returns-then-not-round
returns-then-not-round g c =
    let before = c.loop-round.self.crowd.talks in
    let after = c.round.new.self.talks in
    answers_join c.args.self.now.crowd.talks before after c.args.replica.now c.loop-round.replica c.round.new.replica c.loop-round.invariant
    (answers_round before after c.loop-round.replica c.round.new.replica c.round.ensures)
