use Rattle.std.proofs.Common.{subst}
use Rattle.mvd_input.specs.declared.command.Typed.{Typed}
use Rattle.mvd_input.specs.Lines.{IsTyped}
use Rattle.mvd_shell.proofs.Typing.{asked_told}
use Rattle.mvd_shell.proofs.shell.take.Goals as goal

pub returns-in_err-answer-in-Some-Ask-clause-left :
    goal.returns-in_err-answer-in-Some-Ask-clause-left
returns-in_err-answer-in-Some-Ask-clause-left g c =
    asked_told g.A.Endpoint.answers g.L.Losses.lost c.args.number c.args.line.now c.in-Some.text.now c.in-Some-Ask.ask c.args.asked.now c.answer.new.asked c.from_residual-in_err-answer-in-Some-Ask.result
    c.in-Some.ensures.utf8 c.in-Some.ensures.found (subst (λ (t : Typed). IsTyped t c.in-Some.text.now) c.in-Some-Ask.field-0-is c.in-Some-Ask.ensures.found) c.in_err-answer-in-Some-Ask.ensures.left
