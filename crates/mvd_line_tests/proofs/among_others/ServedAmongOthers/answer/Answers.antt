use Rattle.std.proofs.Common.{◌≡◌, ◌∙◌, sym, true}
use Rattle.mvd_line_tests.specs.Among.{is_of_session}
use Rattle.mvd_site.proofs.AnsweredAtOnce.{keeps_config}
use Rattle.mvd_remote.proofs.SiteReplies.{replies_truly}
use Rattle.mvd_line_tests.proofs.Among.{answered_grown, grown_same}
use Rattle.mvd_line_tests.proofs.among_others.ServedAmongOthers.answer.Goals as goal

pub returns-clause-truth : goal.returns-clause-truth
returns-clause-truth c = replies_truly c.args.self.now.site c.answer-reply.new.self c.args.request.now c.answer-reply.result c.stands.ensures.held (λ _. c.is_valid.ensures) c.answer-reply.ensures.step c.answer-reply.ensures.broken

pub returns-then-not-is_of_session-clause-grown : goal.returns-then-not-is_of_session-clause-grown
returns-then-not-is_of_session-clause-grown c = grown_same c.args.self.now.site c.stands.ensures.held

pub returns-clause-grown : goal.returns-clause-grown
returns-clause-grown c =
    let of : is_of_session c.args.request.now ≡ true = sym c.is_of_session.ensures ∙ c.if-not-is_of_session.false in
    answered_grown c.args.self.now.site c.answer-reply.new.self c.args.request.now c.answer-reply.result of c.stands.ensures.held c.stands-2.ensures.held c.is_valid.ensures
    (keeps_config c.args.self.now.site c.answer-reply.new.self c.args.request.now c.answer-reply.result c.answer-reply.ensures)
    (replies_truly c.args.self.now.site c.answer-reply.new.self c.args.request.now c.answer-reply.result c.stands.ensures.held (λ _. c.is_valid.ensures) c.answer-reply.ensures.step c.answer-reply.ensures.broken)
