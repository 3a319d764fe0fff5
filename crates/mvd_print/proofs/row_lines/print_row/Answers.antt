use Rattle.std.proofs.Common.{◌≡◌, ◌++◌, ℤ, subst, string_bytes}
use Rattle.std.specs.Fmt.{signed_decimal}
use Rattle.std.specs.Int.{w128}
use Rattle.std.proofs.lemmas.Int.{to_z-of_z}
use Rattle.mvd_print.specs.Text.{line, row_words}
use Rattle.mvd_print.proofs.Rows.{row_line}
use Rattle.mvd_print.proofs.row_lines.print_row.Goals as goal

pub returns-clause-text : goal.returns-clause-text
returns-clause-text c =
    let Summed : ℤ → Type 0 = λ z. string_bytes c.push_signed.new.out ≡ string_bytes c.push_word.new.out ++ signed_decimal z in
    let summed = subst Summed (to_z-of_z w128 c.args.sum c.ranges.sum) c.in_ok-push_signed.ensures.text in
    row_line c.args.count c.args.sum c.args.ends _ _ _ _ _ _ c.in_ok-push_number.ensures.text c.in_ok-push_word.ensures.text summed c.in_ok-push_ends.ensures.text c.in_ok-push_word-2.ensures.text

pub returns-clause-kept : goal.returns-clause-kept
returns-clause-kept c = record { more = line (row_words c.args.count c.args.sum c.args.ends); is = returns-clause-text c }
