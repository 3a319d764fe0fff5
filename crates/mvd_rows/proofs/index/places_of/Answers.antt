use Rattle.std.proofs.Common.{◌∙◌}
use Rattle.mvd_rows.proofs.InOrder.{no_more_place, one_more_place}
use Rattle.mvd_rows.proofs.index.places_of.Goals as goal

pub loop-mark-preserved-in-Continue-1 : goal.loop-mark-preserved-in-Continue-1
loop-mark-preserved-in-Continue-1 c = c.in_ok-push.ensures.items ∙ one_more_place c.loop-mark.yielded c.loop-mark.places.items c.in-Some.mark c.in-Some-spot.spot c.loop-mark.invariant c.in-Some-spot.is

pub loop-mark-preserved-in_default : goal.loop-mark-preserved-in_default
loop-mark-preserved-in_default c = no_more_place c.loop-mark.yielded c.loop-mark.places.items c.in-Some.mark c.loop-mark.invariant c.in_default.is

pub loop-mark-preserved : goal.loop-mark-preserved
loop-mark-preserved c = no_more_place c.loop-mark.yielded c.loop-mark.places.items c.in-Some.mark c.loop-mark.invariant c.in_default.is
