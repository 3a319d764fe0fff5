use Rattle.std.proofs.Common.{append_assoc, append-nil}
use Rattle.mvd_print.proofs.row_lines.print_count.Goals as goal

pub returns-clause-text : goal.returns-clause-text
returns-clause-text c =
    rw (c.in_ok-push_word-3.ensures.text, c.in_ok-push_number.ensures.text, c.from.ensures, c.in_ok-push_word-2.ensures.text, c.in_ok-push_word.ensures.text, c.text.ensures.same)
    (simp (append_assoc, append-nil))
