use Rattle.std.proofs.Common.{refl, sym, subst}
use Rattle.std.specs.Str.Parse.{AllDigits}
use Rattle.mvd_docs.proofs.PlainTexts.{natural_text}
use Rattle.mvd_docs.proofs.plain.natural.Goals as goal

pub returns-then-is_numeral : goal.returns-then-is_numeral
returns-then-is_numeral c =
    let digits = c.split_at.result.0.now in
    let all = subst (AllDigits 10) (sym c.split_at.ensures.front) c.digit_count.ensures.digits in
    let is = c.if-is_numeral.ensures in
    natural_text c.args.text.now digits c.split_at.result.1.now c.split_at.ensures.by_index.0 all (is.some refl) (is.short refl) (is.zero refl)
