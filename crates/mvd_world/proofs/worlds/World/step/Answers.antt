use Rattle.std.proofs.Common.{sym, ◌∙◌, subst}
use Rattle.mvd_world.specs.declared.steps.Step.TheVariants.{Write, Ask, Send, Receive, Session}
use Rattle.mvd_world.specs.declared.steps.Outcome.TheVariants.{Replied, Met, Failed}
use Rattle.mvd_world.specs.Worlds.{KnownChangesNothing, StaysTheSame}
use Rattle.mvd_world.proofs.Taking.{none_known, none_same, step_as, step_none, there_is}
use Rattle.mvd_world.proofs.worlds.World.step.Goals as goal

pub returns-then-not-may_be-clause-machine : goal.returns-then-not-may_be-clause-machine
returns-then-not-may_be-clause-machine c = step_none c.args.self.now c.args.step.now (sym c.may_be.ensures ∙ c.if-not-may_be.true)

pub returns-then-not-may_be-clause-same : goal.returns-then-not-may_be-clause-same
returns-then-not-may_be-clause-same c = none_same c.args.self.now c.args.step.now

pub returns-then-not-may_be-clause-known : goal.returns-then-not-may_be-clause-known
returns-then-not-may_be-clause-known c = none_known c.args.self.now c.args.step.now (sym c.may_be.ensures ∙ c.if-not-may_be.true)

pub returns-in-Write-clause-machine : goal.returns-in-Write-clause-machine
returns-in-Write-clause-machine c = step_as c.args.self.now c.answer.new.self c.args.step.now (Write c.in-Write.site c.in-Write.request) (Replied c.answer.result) c.in-Write.is (sym c.may_be.ensures ∙ c.if-not-may_be.false) c.answer.ensures.leads

pub returns-in-Write-clause-same : goal.returns-in-Write-clause-same
returns-in-Write-clause-same c = subst (λ s. StaysTheSame c.args.self.now c.answer.new.self s) (sym c.in-Write.is) tt

pub returns-in-Write-clause-known : goal.returns-in-Write-clause-known
returns-in-Write-clause-known c = subst (λ s. KnownChangesNothing c.args.self.now c.answer.new.self s (Replied c.answer.result)) (sym c.in-Write.is) tt

pub returns-in-Write-clause-none : goal.returns-in-Write-clause-none
returns-in-Write-clause-none c = there_is _ (Replied c.answer.result) c.args.self.now c.answer.new.self (sym c.may_be.ensures ∙ c.if-not-may_be.false)

pub returns-in-Ask-clause-machine : goal.returns-in-Ask-clause-machine
returns-in-Ask-clause-machine c = step_as c.args.self.now c.answer-in-Ask.new.self c.args.step.now (Ask c.in-Ask.site c.in-Ask.request) (Replied c.answer-in-Ask.result) c.in-Ask.is (sym c.may_be.ensures ∙ c.if-not-may_be.false) c.answer-in-Ask.ensures.leads

pub returns-in-Ask-clause-same : goal.returns-in-Ask-clause-same
returns-in-Ask-clause-same c = subst (λ s. StaysTheSame c.args.self.now c.answer-in-Ask.new.self s) (sym c.in-Ask.is) tt

pub returns-in-Ask-clause-known : goal.returns-in-Ask-clause-known
returns-in-Ask-clause-known c = subst (λ s. KnownChangesNothing c.args.self.now c.answer-in-Ask.new.self s (Replied c.answer-in-Ask.result)) (sym c.in-Ask.is) tt

pub returns-in-Ask-clause-none : goal.returns-in-Ask-clause-none
returns-in-Ask-clause-none c = there_is _ (Replied c.answer-in-Ask.result) c.args.self.now c.answer-in-Ask.new.self (sym c.may_be.ensures ∙ c.if-not-may_be.false)

pub returns-in-Send-clause-machine : goal.returns-in-Send-clause-machine
returns-in-Send-clause-machine c = step_as c.args.self.now c.send.new.self c.args.step.now (Send c.in-Send.site c.in-Send.key) c.send.result c.in-Send.is (sym c.may_be.ensures ∙ c.if-not-may_be.false) c.send.ensures.leads

pub returns-in-Send-clause-same : goal.returns-in-Send-clause-same
returns-in-Send-clause-same c = subst (λ s. StaysTheSame c.args.self.now c.send.new.self s) (sym c.in-Send.is) tt

pub returns-in-Send-clause-known : goal.returns-in-Send-clause-known
returns-in-Send-clause-known c = subst (λ s. KnownChangesNothing c.args.self.now c.send.new.self s c.send.result) (sym c.in-Send.is) tt

pub returns-in-Send-clause-none : goal.returns-in-Send-clause-none
returns-in-Send-clause-none c = there_is _ c.send.result c.args.self.now c.send.new.self (sym c.may_be.ensures ∙ c.if-not-may_be.false)

pub returns-in-Receive-clause-machine : goal.returns-in-Receive-clause-machine
returns-in-Receive-clause-machine c = step_as c.args.self.now c.receive.new.self c.args.step.now (Receive c.in-Receive.site c.in-Receive.message) (Replied c.receive.result) c.in-Receive.is (sym c.may_be.ensures ∙ c.if-not-may_be.false) c.receive.ensures.leads

pub returns-in-Receive-clause-same : goal.returns-in-Receive-clause-same
returns-in-Receive-clause-same c = subst (λ s. StaysTheSame c.args.self.now c.receive.new.self s) (sym c.in-Receive.is) c.receive.ensures.same

pub returns-in-Receive-clause-known : goal.returns-in-Receive-clause-known
returns-in-Receive-clause-known c = subst (λ s. KnownChangesNothing c.args.self.now c.receive.new.self s (Replied c.receive.result)) (sym c.in-Receive.is) c.receive.ensures.known

pub returns-in-Receive-clause-none : goal.returns-in-Receive-clause-none
returns-in-Receive-clause-none c = there_is _ (Replied c.receive.result) c.args.self.now c.receive.new.self (sym c.may_be.ensures ∙ c.if-not-may_be.false)

pub returns-in-Ok-clause-machine : goal.returns-in-Ok-clause-machine
returns-in-Ok-clause-machine c = step_as c.args.self.now c.meet.new.self c.args.step.now (Session c.in-Session.local c.in-Session.peer) (Met c.in-Ok.report) c.in-Session.is (sym c.may_be.ensures ∙ c.if-not-may_be.false) c.in-Ok.ensures.leads

pub returns-in-Ok-clause-same : goal.returns-in-Ok-clause-same
returns-in-Ok-clause-same c = subst (λ s. StaysTheSame c.args.self.now c.meet.new.self s) (sym c.in-Session.is) tt

pub returns-in-Ok-clause-known : goal.returns-in-Ok-clause-known
returns-in-Ok-clause-known c = subst (λ s. KnownChangesNothing c.args.self.now c.meet.new.self s (Met c.in-Ok.report)) (sym c.in-Session.is) tt

pub returns-in-Ok-clause-none : goal.returns-in-Ok-clause-none
returns-in-Ok-clause-none c = there_is _ (Met c.in-Ok.report) c.args.self.now c.meet.new.self (sym c.may_be.ensures ∙ c.if-not-may_be.false)

pub returns-in-Err-clause-machine : goal.returns-in-Err-clause-machine
returns-in-Err-clause-machine c = step_as c.args.self.now c.meet.new.self c.args.step.now (Session c.in-Session.local c.in-Session.peer) (Failed c.in-Err.fault) c.in-Session.is (sym c.may_be.ensures ∙ c.if-not-may_be.false) c.in-Err.ensures.leads

pub returns-in-Err-clause-same : goal.returns-in-Err-clause-same
returns-in-Err-clause-same c = subst (λ s. StaysTheSame c.args.self.now c.meet.new.self s) (sym c.in-Session.is) tt

pub returns-in-Err-clause-known : goal.returns-in-Err-clause-known
returns-in-Err-clause-known c = subst (λ s. KnownChangesNothing c.args.self.now c.meet.new.self s (Failed c.in-Err.fault)) (sym c.in-Session.is) tt

pub returns-in-Err-clause-none : goal.returns-in-Err-clause-none
returns-in-Err-clause-none c = there_is _ (Failed c.in-Err.fault) c.args.self.now c.meet.new.self (sym c.may_be.ensures ∙ c.if-not-may_be.false)
