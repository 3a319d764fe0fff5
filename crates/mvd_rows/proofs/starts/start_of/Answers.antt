use Rattle.std.proofs.Common.{◌∙◌, ◌&&◌, ap, is_gt, not, refl, sym}
use Rattle.std.proofs.lemmas.Result.{IfOk-weaker}
use Rattle.mvd_docs.specs.Term.{term_cmp}
use Rattle.mvd_rows.specs.Answers.{is_after_place}
use Rattle.mvd_rows.specs.Pages.{is_past}
use Rattle.mvd_rows.specs.declared.marks.Mark.{Mark}
use Rattle.mvd_rows.proofs.Asking.{start_at, start_before, start_plain}
use Rattle.mvd_rows.proofs.starts.start_of.Goals as goal

pub returns-in-None-clause-start : goal.returns-in-None-clause-start
returns-in-None-clause-start c = IfOk-weaker c.first_of.result _ _ (λ mark told p.
    ap (λ o. not (is_gt (term_cmp c.args.from.now p.term)) && is_after_place o p) c.in-None.is
    ∙ start_plain c.args.from.now c.args.from.now refl p ∙ ap (λ (m : Mark). is_past m p) (sym told))
    c.first_of.ensures.mark

pub returns-then-is_lt-clause-start : goal.returns-then-is_lt-clause-start
returns-then-is_lt-clause-start c = IfOk-weaker c.first_of-then-is_lt.result _ _ (λ mark told p.
    ap (λ o. not (is_gt (term_cmp c.args.from.now p.term)) && is_after_place o p) c.in-Some.is
    ∙ start_before c.args.from.now c.args.from.now c.in-Some.place refl (cc) p
    ∙ ap (λ (m : Mark). is_past m p) (sym told))
    c.first_of-then-is_lt.ensures.mark

pub returns-else-is_lt-clause-start : goal.returns-else-is_lt-clause-start
returns-else-is_lt-clause-start c = λ p.
    ap (λ o. not (is_gt (term_cmp c.args.from.now p.term)) && is_after_place o p) c.in-Some.is
    ∙ start_at c.args.from.now c.in-Some.place (cc) p
    ∙ ap (λ (m : Mark). is_past m p) (sym c.mark_of.ensures)
