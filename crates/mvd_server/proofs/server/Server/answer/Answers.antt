use Rattle.mvd_server.specs.Talking.{talking_of}
use Rattle.mvd_server.proofs.Deeds.{deeds_on, deeds_same}
use Rattle.mvd_server.proofs.Rounds.{answers_deeds, answers_join}
use Rattle.mvd_server.proofs.server.Server.answer.Goals as goal

pub returns : goal.returns
returns g c =
    let old = c.args.self.now.crowd.talks in
    let listed = c.hand_on.new.crowd.talks in
    let answered = c.answer_all.new.self.crowd.talks in
    let told = c.take_heard-told.new.self in
    let heard = c.hear_all.new.crowd.talks in
    let last = c.note_commits.new.crowd.talks in
    answers_join old listed last c.args.replica.now c.args.replica.now c.answer_all.new.replica (answers_deeds old listed c.args.replica.now c.hand_on.ensures.deeds)
    (answers_join listed answered last c.args.replica.now c.answer_all.new.replica c.answer_all.new.replica c.answer_all.ensures
    (answers_deeds answered last c.answer_all.new.replica
    (deeds_on (talking_of answered) (talking_of told) (talking_of last) (deeds_same (talking_of answered) (talking_of told) c.take_heard-told.ensures.talks)
    (deeds_on (talking_of told) (talking_of heard) (talking_of last) c.hear_all.ensures.deeds c.note_commits.ensures.deeds))))
