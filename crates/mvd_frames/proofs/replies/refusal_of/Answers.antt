use Rattle.mvd_frames.proofs.RefusalNumbers.{is_numbered}
use Rattle.mvd_frames.proofs.replies.refusal_of.Goals as goal

pub returns : goal.returns
returns c = is_numbered c.args.number c.of_number.result c.of_number.ensures
