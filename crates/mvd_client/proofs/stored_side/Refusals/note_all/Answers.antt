use Rattle.mvd_client.proofs.Refusing.{refused_more}
use Rattle.mvd_client.proofs.stored_side.Refusals.note_all.Goals as goal

pub loop-answer-preserved : goal.loop-answer-preserved
loop-answer-preserved g c = refused_more c.args.answers.now c.loop-answer.answer-index c.answer-item.result c.answer-item.result c.args.self.now.noted.items c.loop-answer.self.noted.items _ c.loop-answer-test.true c.answer-item.is c.loop-answer.invariant c.note_one.ensures
