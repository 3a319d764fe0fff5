use Rattle.std.proofs.Common.{None, subst, sym}
use Rattle.mvd_meet.specs.Meetings.{MeetingSteps}
use Rattle.mvd_server.specs.PeerSays.{SessionWent, sitting_of}
use Rattle.mvd_server.proofs.PeerTelling.{session_asks, session_done}
use Rattle.mvd_server.proofs.peer_turn.step_of.Goals as goal

pub returns-in-Ok-Asks-clause-steps : goal.returns-in-Ok-Asks-clause-steps
returns-in-Ok-Asks-clause-steps c =
    let a = c.in-Some.open in
    let b = c.step.new.self in
    let far = c.args.link.now.far in
    let far' = c.step.new.far in
    session_asks c.args.session.now a b far far' c.in-Some.is c.step.ensures.client
    (subst (λ how. MeetingSteps a.meeting a.near far b.meeting b.near far' how) c.in-Ok-Asks.field-0-is c.in-Ok-Asks.ensures.steps)

pub returns-in-Ok-Done-clause-steps : goal.returns-in-Ok-Done-clause-steps
returns-in-Ok-Done-clause-steps c =
    let a = c.in-Some.open in
    let b = c.step.new.self in
    let far = c.args.link.now.far in
    let far' = c.step.new.far in
    let old = sitting_of c.args.session.now in
    subst (λ s. SessionWent old far (sitting_of s) far' c.taken.result) (sym c.taken.ensures.gone)
    (subst (λ r. SessionWent old far (sitting_of None) far' r) (sym c.taken.ensures.taken)
    (session_done c.args.session.now a b far far' c.in-Some.is c.step.ensures.client
    (subst (λ how. MeetingSteps a.meeting a.near far b.meeting b.near far' how) c.in-Ok-Done.field-0-is c.in-Ok-Done.ensures.steps)))
