use Rattle.mvd_remote.proofs.Collected.{all_collected}
use Rattle.mvd_remote.proofs.remote.answer.collect.Goals as goal

pub returns-clause-collects : goal.returns-clause-collects
returns-clause-collects g c nones old new takes = all_collected g.A.Answer.as_reply (λ v. v.items) g.A.Answer.of_kind nones c.args.replies.items old new c.answers.result takes c.answers.ensures.told c.answers.ensures.ended
