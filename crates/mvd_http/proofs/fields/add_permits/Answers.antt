use Rattle.mvd_http.proofs.Steps.{items3}
use Rattle.mvd_http.proofs.fields.add_permits.Goals as goal

pub returns-clause-fields : goal.returns-clause-fields
returns-clause-fields c =
    items3 _ _ _ _ _ _ _
    (rw (c.from_static-by.ensures, c.names_of.ensures) at c.in_ok-add_header.ensures.headers)
    (rw (c.from_static-with.ensures, c.from_static.ensures) at c.in_ok-add_header-2.ensures.headers)
    (rw (c.from_static-seconds.ensures, c.from_static-2.ensures) at c.in_ok-add_header-3.ensures.headers)
