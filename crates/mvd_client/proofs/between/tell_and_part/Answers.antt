use Rattle.std.proofs.Common.{◌∙◌, ap, refl}
use Rattle.std.specs.Result.{result_and}
use Rattle.mvd_client.specs.Between.TellsThenParts.{no_far, no_near, told}
use Rattle.mvd_client.proofs.between.tell_and_part.Goals as goal

pub returns-in-Err : goal.returns-in-Err
returns-in-Err g c = no_near c.in-Err.stop c.in-Err.ensures refl refl refl

pub returns-in-Err-root_at : goal.returns-in-Err-root_at
returns-in-Err-root_at g c = no_far c.in-Ok.root c.in-Ok.ensures c.in-Err-root_at.stop c.in-Err-root_at.ensures refl refl

pub returns : goal.returns
returns g c =
    told c.root_at.new.remote c.root_at-2.new.remote c.in-Ok.root c.in-Ok-root_at.root c.in-Ok.ensures c.in-Ok-root_at.ensures c.tell_meeting-told.result c.part-near_parted.result c.part-far_parted.result
    c.tell_meeting-told.ensures.told c.part-near_parted.ensures c.part-far_parted.ensures (c.and-2.ensures ∙ ap (result_and c.tell_meeting-told.result) c.and.ensures)
