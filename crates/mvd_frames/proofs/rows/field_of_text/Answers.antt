use Rattle.mvd_frames.proofs.Names.{no_text_no_field}
use Rattle.mvd_frames.proofs.rows.field_of_text.Goals as goal

pub returns-in-Err : goal.returns-in-Err
returns-in-Err c = λ _. no_text_no_field c.args.bytes.now c.in-Err.ensures.cases.0
