use Rattle.mvd_http.proofs.Steps.{steps2}
use Rattle.mvd_http.proofs.fields.add_page.Goals as goal

pub returns-clause-fields : goal.returns-clause-fields
returns-clause-fields c =
    steps2 _ _ _ _ _ c.in_ok-add_guards.ensures.fields (rw c.from_static.ensures at c.in_ok-add_typed.ensures.fields)
