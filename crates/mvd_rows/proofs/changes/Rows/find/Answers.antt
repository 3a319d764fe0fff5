use Rattle.std.proofs.Common.{◌∙◌, ◌&&◌, ap, filter, not}
use Rattle.std.proofs.lemmas.Result.{IfErr-weaker, IfOk-weaker}
use Rattle.std.specs.Ordering.{is_gt}
use Rattle.mvd_docs.specs.Term.{term_cmp}
use Rattle.mvd_rows.specs.Answers.{page_of, places_in}
use Rattle.mvd_rows.specs.Pages.{is_past}
use Rattle.mvd_rows.specs.Visible.{visible_in}
use Rattle.mvd_rows.proofs.Asking.{find_some}
use Rattle.mvd_rows.proofs.Grouped.{same_ok}
use Rattle.mvd_rows.proofs.changes.Rows.find.Goals as goal

pub returns-clause-found : goal.returns-clause-found
returns-clause-found c = IfOk-weaker c.page.result _ _ (λ page told defs states stands.
    find_some c.args.self.now defs states stands c.in-Some.index.now c.args.field.now c.args.term.now
    c.in_ok-copy.field-0 c.args.after _ c.in-Some.ensures.has c.in-Some.ensures.field
    (same_ok _ _ c.in_ok-copy.ensures)
    (told (visible_in states) (c.in-Some.ensures.places (visible_in states) stands.rows)
    ∙ ap (λ s. page_of (filter
    (λ p. is_past (record { term = c.in_ok-copy.field-0; spot = s }) p && not
    (is_gt (term_cmp p.term c.args.term.now))) (places_in c.in-Some.index.now.field (visible_in states))))
    c.spot_of.ensures))
    c.page.ensures.page

pub returns-clause-refused : goal.returns-clause-refused
returns-clause-refused c =
    IfErr-weaker c.page.result _ _ (λ refusal memory other. absurd (other memory)) c.page.ensures.memory

pub returns-clause-given : goal.returns-clause-given
returns-clause-given c =
    IfOk-weaker c.page.result _ _
    (λ page told defs states stands. told (visible_in states)
    (c.in-Some.ensures.places (visible_in states) stands.rows)) c.page.ensures.given

pub returns-clause-none : goal.returns-clause-none
returns-clause-none c =
    IfErr-weaker c.page.result _ _ (λ refusal memory other. absurd (other memory)) c.page.ensures.memory
