use Rattle.mvd_http.proofs.Steps.{items2}
use Rattle.mvd_http.proofs.fields.add_guards.Goals as goal

pub returns-clause-fields : goal.returns-clause-fields
returns-clause-fields c =
    items2 _ _ _ _ _
    (rw (c.from_static-policy.ensures, c.from_static.ensures) at c.in_ok-add_header.ensures.headers)
    (rw (c.from_static-options.ensures, c.from_static-2.ensures) at c.in_ok-add_header-2.ensures.headers)
