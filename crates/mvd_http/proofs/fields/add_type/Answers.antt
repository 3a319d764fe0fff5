use Rattle.mvd_http.proofs.fields.add_type.Goals as goal

pub returns-in-Plain-clause-fields : goal.returns-in-Plain-clause-fields
returns-in-Plain-clause-fields c = rw c.in-Plain.is (rw c.from_static-in-Plain.ensures at c.add_typed-in-Plain.ensures.fields)
