use Rattle.std.proofs.Common.{◌∙◌, ◌∷◌, ◌++◌, [], ap}
use Rattle.mvd_replica.proofs.Fronts.{front_alone}
use Rattle.mvd_replica.proofs.replica.Replica.answer_front.Goals as goal

pub returns-in-Err-clause-answers : goal.returns-in-Err-clause-answers
returns-in-Err-clause-answers g c =
    front_alone c.args.requests.now c.index-requests-0.result c.answer-reply.result c.args.replies.now.items c.push_reserved.new.self.items c.args.self.now c.share.new.self c.answer-reply.new.self
    c.requires.some c.index-requests-0.is c.in-Err.ensures.err.0 (c.push_reserved.ensures.items ∙ ap (λ (v : _). v.items ++ c.answer-reply.result ∷ []) c.in-Err.ensures.err.1) c.answer-reply.ensures
