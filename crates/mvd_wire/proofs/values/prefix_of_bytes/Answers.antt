use Rattle.mvd_wire.proofs.Texts.{no_text_no_prefix}
use Rattle.mvd_wire.proofs.values.prefix_of_bytes.Goals as goal

pub returns-in-Err : goal.returns-in-Err
returns-in-Err c = λ _. no_text_no_prefix c.args.bytes.now c.in-Err.ensures.cases.0
