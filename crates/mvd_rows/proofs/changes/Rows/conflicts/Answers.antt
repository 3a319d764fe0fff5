use Rattle.std.proofs.lemmas.Result.{IfOk-weaker}
use Rattle.std.specs.Option.{option_copied}
use Rattle.mvd_rows.proofs.InConflict.{conflicts_page_is}
use Rattle.mvd_rows.proofs.changes.Rows.conflicts.Goals as goal

pub returns-clause-found : goal.returns-clause-found
returns-clause-found c = IfOk-weaker c.page.result _ _ (λ page told defs states stands.
    conflicts_page_is c.args.self.now.conflicts states (option_copied c.args.after) _ _ stands.conflicts c.page.ensures.ordered told)
    c.page.ensures.page
