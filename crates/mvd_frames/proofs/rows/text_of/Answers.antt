use Rattle.mvd_frames.proofs.Names.{text_is_term, no_text_no_term}
use Rattle.mvd_frames.proofs.rows.text_of.Goals as goal

pub returns-in-Ok : goal.returns-in-Ok
returns-in-Ok c =
    let e = text_is_term c.args.bytes.now c.in-Ok.ensures.cases.1 in
    rw (e, ← c.in-Ok.ensures.cases.0) c.read.ensures

pub returns-in-Err : goal.returns-in-Err
returns-in-Err c = λ _. no_text_no_term c.args.bytes.now c.in-Err.ensures.cases.0
