use Rattle.std.proofs.Common.{append_assoc}
use Rattle.mvd_print.specs.Text.{refused_at_text}
use Rattle.mvd_print.proofs.lines.print_refusal_at.Goals as goal

pub returns-clause-text : goal.returns-clause-text
returns-clause-text c =
    rw (c.in_ok-push_word-4.ensures.text, c.in_ok-push_word-3.ensures.text, c.text.ensures, c.in_ok-push_word-2.ensures.text, c.in_ok-push_refusal.ensures.text, c.in_ok-push_word.ensures.text)
    (simp append_assoc)

pub returns-clause-kept : goal.returns-clause-kept
returns-clause-kept c = record { more = refused_at_text c.args.refusal c.args.place.now; is = returns-clause-text c }
