use Rattle.mvd_kept.proofs.Texts.{one_text}
use Rattle.mvd_kept.proofs.laws.each_has_one_text.Goals as goal

pub returns : goal.returns
returns c = λ a b left right. one_text a b left right
