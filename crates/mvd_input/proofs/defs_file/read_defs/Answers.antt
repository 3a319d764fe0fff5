use Rattle.std.proofs.Common.{Some, None, Ok, Option, Bor, List, ℕ, ap, subst, ◌∙◌}
use Rattle.std.specs.Option.{option_copied}
use Rattle.mvd_rows.specs.Defs.{no_definitions}
use Rattle.mvd_input.specs.Definitions.{DefineAll}
use Rattle.mvd_input.proofs.Lines.{takes_all}
use Rattle.mvd_input.proofs.Defined.{Defining, begins, fails_at, goes_on}
use Rattle.mvd_input.proofs.defs_file.read_defs.Goals as goal

pub loop-rest-init : goal.loop-rest-init
loop-rest-init c = rw c.new-defs.ensures (begins c.args.text.now)

pub loop-rest-preserved : goal.loop-rest-preserved
loop-rest-preserved c =
    let text = c.args.text.now in
    let so_far : Defining text (Some c.in-Some.lines.now) c.loop-rest.number c.loop-rest.defs = subst (λ (r : Option (Bor (List ℕ))). Defining text (option_copied r) c.loop-rest.number c.loop-rest.defs) c.in-Some.is c.loop-rest.invariant in
    goes_on text c.in-Some.lines.now c.first_line.result.0.now c.loop-rest.defs c.takes.new.defs c.first_line.result.1 c.loop-rest.number so_far c.first_line.ensures.cut c.first_line.ensures.shorter (c.takes.ensures.taken (c.in-Ok-true.is ∙ ap Ok c.in-Ok-true.field-0-test))

pub returns-in-Ok-false-clause-fault : goal.returns-in-Ok-false-clause-fault
returns-in-Ok-false-clause-fault c =
    let text = c.args.text.now in
    let so_far : Defining text (Some c.in-Some.lines.now) c.loop-rest.number c.loop-rest.defs = subst (λ (r : Option (Bor (List ℕ))). Defining text (option_copied r) c.loop-rest.number c.loop-rest.defs) c.in-Some.is c.loop-rest.invariant in
    fails_at text c.in-Some.lines.now c.first_line.result.0.now c.loop-rest.defs (option_copied c.first_line.result.1) c.loop-rest.number so_far c.first_line.ensures.cut (c.takes.ensures.nothing (c.in-Ok-false.is ∙ ap Ok c.in-Ok-false.field-0-test))

pub returns-clause-defined : goal.returns-clause-defined
returns-clause-defined c =
    let so_far : Defining c.args.text.now None c.loop-rest.number c.loop-rest.defs = subst (λ (r : Option (Bor (List ℕ))). Defining c.args.text.now (option_copied r) c.loop-rest.number c.loop-rest.defs) c.in_default.is c.loop-rest.invariant in
    takes_all c.args.text.now c.loop-rest.number (λ before. DefineAll before no_definitions c.loop-rest.defs) so_far
