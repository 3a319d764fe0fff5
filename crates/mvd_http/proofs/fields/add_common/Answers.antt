use Rattle.mvd_http.proofs.fields.add_common.Goals as goal

pub returns-clause-fields : goal.returns-clause-fields
returns-clause-fields c = rw (c.from_static-cache.ensures, c.from_static.ensures) at c.add_header.ensures.headers
