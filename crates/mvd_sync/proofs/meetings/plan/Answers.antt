use Rattle.mvd_sync.proofs.Plans.{plan_at, plan_mine, plan_none, plan_theirs}
use Rattle.mvd_sync.proofs.meetings.plan.Goals as goal

pub returns-in-Some-None-clause-plan : goal.returns-in-Some-None-clause-plan
returns-in-Some-None-clause-plan c =
    plan_at _ _ c.args.mine _ c.args.theirs _ c.hand_over.result _ c.in-Some-None.is-0 c.in-Some-None.is-1 c.hand_over.ensures (plan_mine _ _ c.in-Some-None.mine c.context-seen.ensures.valid)

pub returns-in-None-Some-clause-plan : goal.returns-in-None-Some-clause-plan
returns-in-None-Some-clause-plan c =
    plan_at _ _ c.args.mine _ c.args.theirs _ c.hand_over-in-None-Some.result _ c.in-None-Some.is-0 c.in-None-Some.is-1 c.hand_over-in-None-Some.ensures (plan_theirs _ _ c.in-None-Some.theirs c.context-seen-in-None-Some.ensures.valid)

pub returns-in-None-None-clause-plan : goal.returns-in-None-None-clause-plan
returns-in-None-None-clause-plan c =
    plan_at _ _ c.args.mine _ c.args.theirs _ c.hand_over-in-None-None.result _ c.in-None-None.is-0 c.in-None-None.is-1 c.hand_over-in-None-None.ensures (plan_none _ _)
