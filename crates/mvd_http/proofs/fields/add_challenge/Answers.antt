use Rattle.mvd_http.proofs.fields.add_challenge.Goals as goal

pub returns-clause-fields : goal.returns-clause-fields
returns-clause-fields c = rw c.if-not-asks_token.false (rw (c.from_static-name.ensures, c.from_static.ensures) at c.add_header.ensures.headers)
