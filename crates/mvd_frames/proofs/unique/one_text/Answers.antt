use Rattle.mvd_wire.proofs.StateTexts.{one_text_of}
use Rattle.mvd_frames.proofs.unique.one_text.Goals as goal

pub returns : goal.returns
returns c = one_text_of
