use Rattle.std.proofs.Common.{sym}
use Rattle.mvd_replica.proofs.SameKey.{free_none, free_unfound, last_before, place_change, place_low}
use Rattle.mvd_replica.proofs.behind.last_change.Goals as goal

pub returns-in-None-clause-none : goal.returns-in-None-clause-none
returns-in-None-clause-none c _ = free_none c.args.waiting.now c.args.request.now (sym c.in-None.ensures)

pub returns-in-None-place-clause-none : goal.returns-in-None-place-clause-none
returns-in-None-place-clause-none c _ = free_unfound c.args.waiting.now c.args.request.now c.in-Some.key.now (sym c.in-Some.ensures) (sym c.in-None-place.ensures)

pub bounds-group-at : goal.bounds-group-at
bounds-group-at c = place_low c.args.group.now c.args.waiting.now c.in-Some.key.now c.in-Some-place.at c.requires (sym c.in-Some-place.ensures)

pub returns-clause-last : goal.returns-clause-last
returns-clause-last c =
    last_before c.args.group.now c.args.waiting.now c.args.request.now c.in-Some.key.now c.in-Some-place.at c.index-group-at.result c.in-Change.change c.requires (sym c.in-Some.ensures) (sym c.in-Some-place.ensures)
    c.index-group-at.is c.in-Change.is

pub unreachable-requires : goal.unreachable-requires
unreachable-requires c =
    place_change c.args.group.now c.args.waiting.now c.in-Some.key.now c.in-Some-place.at c.index-group-at.result c.in-Answer.field-0 c.requires (sym c.in-Some-place.ensures) c.index-group-at.is c.in-Answer.is
