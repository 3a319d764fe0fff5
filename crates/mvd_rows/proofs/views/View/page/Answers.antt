use Rattle.std.proofs.lemmas.Result.{IfOk-weaker}
use Rattle.mvd_rows.proofs.InRows.{rows_page_is}
use Rattle.mvd_rows.proofs.views.View.page.Goals as goal

pub returns-clause-page : goal.returns-clause-page
returns-clause-page c = IfOk-weaker c.some_rows.result _ _ (λ page told visible is. rows_page_is c.args.self.now visible c.args.after.now _ _ is c.some_rows.ensures.ordered told) c.some_rows.ensures.page
