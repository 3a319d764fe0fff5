use Rattle.std.proofs.Common.{◌∙◌, ap}
use Rattle.mvd_sync.specs.Fronts.{front_told, share_in}
use Rattle.mvd_sync.specs.declared.report.Side.TheVariants.{Local as AtLocal, Peer as AtPeer}
use Rattle.mvd_sync.proofs.CutWindows.{heard_first}
use Rattle.mvd_sync.proofs.hearing.hear_first.Goals as goal

pub returns : goal.returns
returns c =
    let split = c.in-Ok.ensures in
    let told = c.first_of-answers.ensures in
    let v = c.deref.ensures.value in
    heard_first c.args.exchange.now c.put_back.new.self c.hear_window.new.exchange c.args.walk c.args.entries.items c.split_off.new.self.items c.in-Ok.later.items c.args.count c.args.answers c.first_of-answers.result.1 c.first_of-answers.result.0 c.hear_window.result
    split.items split.tail c.in-Ok-put_back.ensures.back (told.local ∙ ap (share_in AtLocal) v) (told.peer ∙ ap (share_in AtPeer) v)
    (told.mine ∙ ap (λ es. front_told AtLocal es c.args.answers.mine) v) (told.theirs ∙ ap (λ es. front_told AtPeer es c.args.answers.theirs) v) c.hear_window.ensures
