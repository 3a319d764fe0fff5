use Rattle.mvd_site.proofs.AnsweredAtOnce.{keeps_config}
use Rattle.mvd_site.proofs.Fitting.{sent_fits}
use Rattle.mvd_remote.proofs.SiteReplies.{replies_truly}
use Rattle.mvd_line_tests.proofs.served.Served.reply.Goals as goal

pub returns-clause-truth : goal.returns-clause-truth
returns-clause-truth c = replies_truly c.args.self.now.site c.answer-reply.new.self c.args.request.now c.answer-reply.result c.stands.ensures.held (λ _. c.is_valid.ensures) c.answer-reply.ensures.step c.answer-reply.ensures.broken

pub returns-clause-fits : goal.returns-clause-fits
returns-clause-fits c = sent_fits c.args.self.now.site c.answer-reply.new.self c.args.request.now c.answer-reply.result c.stands.ensures.held c.answer-reply.ensures

pub returns-clause-config : goal.returns-clause-config
returns-clause-config c = keeps_config c.args.self.now.site c.answer-reply.new.self c.args.request.now c.answer-reply.result c.answer-reply.ensures
