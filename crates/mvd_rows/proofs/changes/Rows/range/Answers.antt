use Rattle.std.proofs.lemmas.Result.{IfErr-weaker, IfOk-weaker}
use Rattle.mvd_rows.specs.Visible.{visible_in}
use Rattle.mvd_rows.proofs.Asking.{range_some}
use Rattle.mvd_rows.proofs.changes.Rows.range.Goals as goal

pub returns-clause-found : goal.returns-clause-found
returns-clause-found c = IfOk-weaker c.page.result _ _ (λ page told defs states stands.
    range_some c.args.self.now defs states stands c.in-Some.index.now c.args.field.now c.args.from.now c.args.to.now
    c.args.after _ _ c.in-Some.ensures.has c.in-Some.ensures.field c.in_ok-start.ensures.start
    (told (visible_in states) (c.in-Some.ensures.places (visible_in states) stands.rows)))
    c.page.ensures.page

pub returns-clause-refused : goal.returns-clause-refused
returns-clause-refused c =
    IfErr-weaker c.page.result _ _ (λ refusal memory other. absurd (other memory)) c.page.ensures.memory

pub returns-clause-given : goal.returns-clause-given
returns-clause-given c =
    IfOk-weaker c.page.result _ _
    (λ page told defs states stands. told (visible_in states)
    (c.in-Some.ensures.places (visible_in states) stands.rows)) c.page.ensures.given

pub returns-clause-none : goal.returns-clause-none
returns-clause-none c =
    IfErr-weaker c.page.result _ _ (λ refusal memory other. absurd (other memory)) c.page.ensures.memory
