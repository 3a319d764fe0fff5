use Rattle.mvd_print.proofs.Left.{left_line}
use Rattle.mvd_print.proofs.lines.print_left.Goals as goal

pub returns-clause-text : goal.returns-clause-text
returns-clause-text c = left_line c.push_word-4.result _ _ _ _ _ _ _ _ _ _ c.in_ok-push_word.ensures.text c.in_ok-push_word-2.ensures.text c.in_ok-push_word-3.ensures.text c.in_ok-push_refusal.ensures.text c.push_word-4.ensures.text
