use Rattle.std.proofs.Common.{◌≡◌, false, Ok, subst}
use Rattle.mvd_dots.specs.declared.refusals.Refusal.TheVariants.{Broken}
use Rattle.mvd_kept.specs.Costs.{PrepareCosts}
use Rattle.mvd_kept.specs.Prepared.{IsReady, PreparesFrom}
use Rattle.mvd_kept.proofs.AnsweredAtOnce.{request_broke, request_changed, request_refused, request_told}
use Rattle.mvd_kept.proofs.Outcomes.{err_is, whole_where_ok}
use Rattle.mvd_kept.proofs.Spent.{changed_costs, refused_costs, told_costs}
use Rattle.mvd_kept.proofs.kept.Kept.answer.Goals as goal

pub returns-in-Err-clause-answer : goal.returns-in-Err-clause-answer
returns-in-Err-clause-answer c =
    request_refused c.args.self.now c.args.request.now c.in-Err.refusal (λ whole. c.in-Err.ensures.states whole)
    (λ broken. err_is c.in-Err.refusal Broken (c.in-Err.ensures.broken broken)) (λ frugal. c.in-Err.ensures.frugal frugal)

pub returns-in-Ok-Answer-clause-answer : goal.returns-in-Ok-Answer-clause-answer
returns-in-Ok-Answer-clause-answer c =
    let old = c.args.self.now in
    let whole : old.broken ≡ false = whole_where_ok old.broken c.in-Ok-Answer.field-0 c.in-Ok-Answer.ensures.broken in
    request_told old c.args.request.now c.in-Ok-Answer.reply whole
    (subst (λ p. PreparesFrom old.config old.states c.args.request.now (Ok p)) c.in-Ok-Answer.field-0-is (c.in-Ok-Answer.ensures.states whole))
    (subst (IsReady old) c.in-Ok-Answer.field-0-is c.in-Ok-Answer.ensures.ready) c.in-Ok-Answer.ensures.valid

pub returns-in-Ok-clause-answer : goal.returns-in-Ok-clause-answer
returns-in-Ok-clause-answer c =
    let old = c.args.self.now in
    request_changed old c.install.new.self c.args.request.now c.in-Ok-Change.change c.reply-reply.result c.in-Ok.ensures.ok.0 c.in-Ok.ensures.ok.1 c.reply-reply.ensures
    (subst (λ p. PreparesFrom old.config old.states c.args.request.now (Ok p)) c.in-Ok-Change.field-0-is (c.in-Ok-Change.ensures.states c.in-Ok.ensures.ok.0)) c.in-Ok-Change.ensures.valid

pub returns-in-Err-install-clause-answer : goal.returns-in-Err-install-clause-answer
returns-in-Err-install-clause-answer c =
    let old = c.args.self.now in
    let whole : old.broken ≡ false = whole_where_ok old.broken c.in-Ok-Change.field-0 c.in-Ok-Change.ensures.broken in
    request_broke old c.install.new.self c.args.request.now c.in-Ok-Change.change c.in-Err-install.broken whole c.in-Err-install.ensures.err.0 c.in-Err-install.ensures.err.1
    (subst (λ p. PreparesFrom old.config old.states c.args.request.now (Ok p)) c.in-Ok-Change.field-0-is (c.in-Ok-Change.ensures.states whole))

pub returns-in-Err-clause-costs : goal.returns-in-Err-clause-costs
returns-in-Err-clause-costs c =
    refused_costs c.args.self.now c.args.request.now c.in-Err.refusal c.args.work.now c.prepare.new.work
    c.in-Err.ensures.costs

pub returns-in-Ok-Answer-clause-costs : goal.returns-in-Ok-Answer-clause-costs
returns-in-Ok-Answer-clause-costs c =
    told_costs c.args.self.now c.args.request.now c.in-Ok-Answer.reply c.args.work.now c.prepare.new.work
    (subst (λ p. PrepareCosts c.args.request.now (Ok p) c.args.work.now c.prepare.new.work) c.in-Ok-Answer.field-0-is
    c.in-Ok-Answer.ensures.costs)

pub returns-in-Ok-clause-costs : goal.returns-in-Ok-clause-costs
returns-in-Ok-clause-costs c =
    changed_costs c.args.self.now c.args.request.now c.in-Ok-Change.change _ c.args.work.now c.prepare.new.work
    c.install.new.work
    (subst (λ p. PreparesFrom c.args.self.now.config c.args.self.now.states c.args.request.now (Ok p))
    c.in-Ok-Change.field-0-is (c.in-Ok-Change.ensures.states c.in-Ok.ensures.ok.0))
    (subst (λ p. PrepareCosts c.args.request.now (Ok p) c.args.work.now c.prepare.new.work) c.in-Ok-Change.field-0-is
    c.in-Ok-Change.ensures.costs) c.install.ensures.costs

pub returns-in-Err-install-clause-costs : goal.returns-in-Err-install-clause-costs
returns-in-Err-install-clause-costs c =
    changed_costs c.args.self.now c.args.request.now c.in-Ok-Change.change _ c.args.work.now c.prepare.new.work
    c.install.new.work
    (subst (λ p. PreparesFrom c.args.self.now.config c.args.self.now.states c.args.request.now (Ok p))
    c.in-Ok-Change.field-0-is
    (c.in-Ok-Change.ensures.states
    (whole_where_ok c.args.self.now.broken c.in-Ok-Change.field-0 c.in-Ok-Change.ensures.broken)))
    (subst (λ p. PrepareCosts c.args.request.now (Ok p) c.args.work.now c.prepare.new.work) c.in-Ok-Change.field-0-is
    c.in-Ok-Change.ensures.costs) c.install.ensures.costs
