use Rattle.std.proofs.lemmas.Result.{IfErr-weaker, IfOk-weaker}
use Rattle.mvd_rows.specs.Visible.{visible_in}
use Rattle.mvd_rows.proofs.Asking.{rows_some}
use Rattle.mvd_rows.proofs.changes.Rows.rows.Goals as goal

pub returns-clause-found : goal.returns-clause-found
returns-clause-found c = IfOk-weaker c.page.result _ _ (λ page told defs states stands.
    rows_some c.args.self.now defs states stands c.in-Some.view.now c.args.name.now c.args.after _
    c.in-Some.ensures.named (told (visible_in states) (c.in-Some.ensures.rows (visible_in states) stands.rows)))
    c.page.ensures.page

pub returns-clause-refused : goal.returns-clause-refused
returns-clause-refused c =
    IfErr-weaker c.page.result _ _ (λ refusal memory other. absurd (other memory)) c.page.ensures.memory

pub returns-clause-none : goal.returns-clause-none
returns-clause-none c =
    IfErr-weaker c.page.result _ _ (λ refusal memory other. absurd (other memory)) c.page.ensures.memory
