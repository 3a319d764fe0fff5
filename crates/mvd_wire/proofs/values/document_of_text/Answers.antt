use Rattle.mvd_wire.proofs.Texts.{text_is_document, no_text_no_document}
use Rattle.mvd_wire.proofs.values.document_of_text.Goals as goal

pub returns-in-Ok : goal.returns-in-Ok
returns-in-Ok c =
    let e = text_is_document c.args.bytes.now c.in-Ok.ensures.cases.1 in
    rw (e, ← c.in-Ok.ensures.cases.0) c.read_canonical.ensures

pub returns-in-Err : goal.returns-in-Err
returns-in-Err c = λ _. no_text_no_document c.args.bytes.now c.in-Err.ensures.cases.0
