use Rattle.std.proofs.Common.{false, subst}
use Rattle.std.specs.Prelude.{IfOk}
use Rattle.mvd_input.specs.declared.command.Line.TheVariants as line
use Rattle.mvd_input.specs.Definitions.{IsDefinitionTaken, view_added}
use Rattle.mvd_input.specs.Lines.{IsLine}
use Rattle.mvd_input.proofs.Defined.{view_nothing}
use Rattle.mvd_input.proofs.defs_file.takes.Goals as goal

pub returns-in-Some-View-clause-nothing : goal.returns-in-Some-View-clause-nothing
returns-in-Some-View-clause-nothing c is =
    let view = c.in-Some-View.view in
    let taken : IsDefinitionTaken (view_added c.args.defs.now view) false c.args.defs.now c.add_view.new.defs
    = subst (λ r. IfOk r (λ t. IsDefinitionTaken (view_added c.args.defs.now view) t c.args.defs.now c.add_view.new.defs)) is c.add_view.ensures.taken in
    let spelled : IsLine (line.View view) c.in-Some.text.now = subst (λ l. IsLine l c.in-Some.text.now) c.in-Some-View.field-0-is c.in-Some-View.ensures.found in
    view_nothing c.args.line.now view c.args.defs.now taken.0 (subst (IsLine (line.View view)) c.in-Some.ensures.found spelled) taken.1
