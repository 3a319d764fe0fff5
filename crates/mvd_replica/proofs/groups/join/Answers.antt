use Rattle.std.proofs.Common.{arith, inl, inr, refl}
use Rattle.mvd_replica.proofs.AddedKeys.{room_lacking}
use Rattle.mvd_replica.proofs.SameKey.{joins_behind, joins_beside}
use Rattle.mvd_replica.proofs.groups.join.Goals as goal

pub returns-in-Some-follow-clause-joins : goal.returns-in-Some-follow-clause-joins
returns-in-Some-follow-clause-joins c =
    joins_behind c.args.site.now c.args.group.now c.args.added c.in-Some.before.now c.args.request.now c.in-Some-follow.prepared c.requires.keys c.in-Some.ensures.last c.in-Some-follow.ensures.alone c.in-Some-follow.ensures.behind

pub returns-in-None-follow-clause-waits : goal.returns-in-None-follow-clause-waits
returns-in-None-follow-clause-waits c _ = inr (inr (inr c.in-Some.ensures.last.sees))

pub returns-then-lacks-clause-waits : goal.returns-then-lacks-clause-waits
returns-then-lacks-clause-waits c _ =
    inr (inr (inl (room_lacking c.args.site.now c.args.group.now c.args.request.now c.args.added c.requires.keys (omega arith) (c.in_ok-lacks.ensures.lacks c.if-lacks.true))))

pub returns-then-asks_any-clause-waits : goal.returns-then-asks_any-clause-waits
returns-then-asks_any-clause-waits c _ = inr (inr (inr (c.asks_any.ensures.sees c.if-asks_any.true c.args.group.now c.requires.noted c.requires.count)))

pub returns-clause-joins : goal.returns-clause-joins
returns-clause-joins c =
    joins_beside c.args.site.now c.args.group.now c.args.added c.in_ok-adds.adds c.args.request.now c.prepare_one-prepared.result c.requires.keys
    (c.asks_any.ensures.apart c.if-asks_any.false c.args.group.now c.requires.noted c.requires.count (c.in-None.ensures.none refl)) (c.in_ok-lacks.ensures.keeps c.if-lacks.false) c.prepare_one-prepared.ensures.broken
    c.prepare_one-prepared.ensures.comes c.in_ok-adds.ensures.counts
