use Rattle.mvd_frames.proofs.Names.{no_text_no_view_name}
use Rattle.mvd_frames.proofs.rows.view_name_of_text.Goals as goal

pub returns-in-Err : goal.returns-in-Err
returns-in-Err c = λ _. no_text_no_view_name c.args.bytes.now c.in-Err.ensures.cases.0
