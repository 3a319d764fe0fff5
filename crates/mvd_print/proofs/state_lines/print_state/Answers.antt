use Rattle.mvd_print.specs.Text.{context_text}
use Rattle.mvd_print.proofs.Siblings.{lines_behind}
use Rattle.mvd_print.proofs.state_lines.print_state.Goals as goal

pub returns-clause-text : goal.returns-clause-text
returns-clause-text c =
    lines_behind _ _ _ (context_text c.args.state.now.context) _ _ c.siblings.ensures.entries (rw c.context.ensures.same at c.in_ok-print_context.ensures.text) c.in_ok-print_siblings.ensures.text
