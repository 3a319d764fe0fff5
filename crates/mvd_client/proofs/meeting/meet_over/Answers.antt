use Rattle.mvd_remote.specs.Remotes.{remote_side}
use Rattle.mvd_client.proofs.Ran.{run_within}
use Rattle.mvd_client.proofs.Seen.{session_within}
use Rattle.mvd_client.proofs.Watching.{asks_few, questions_more}
use Rattle.mvd_client.proofs.meeting.meet_over.Goals as goal

pub returns-clause-session : goal.returns-clause-session
returns-clause-session g c =
    session_within c.args.near.now c.sync.new.local c.args.far.now c.sync.new.peer (λ near. near) (λ far. far.side) (remote_side g.L.Line) (remote_side g.M.Line) _ _ 10000000 c.sync.result c.sync.ensures.session
    (λ n old new way. way) (λ n old new way. way)

pub returns-clause-ran : goal.returns-clause-ran
returns-clause-ran g c =
    run_within (λ near. near) (λ far. far.side) (remote_side g.L.Line) (remote_side g.M.Line) _ _ (λ n old new way. way) (λ n old new way. way)
    10000000 c.args.near.now c.sync.new.local c.args.far.now c.sync.new.peer c.sync.result c.sync.ensures.ran

pub returns-clause-few : goal.returns-clause-few
returns-clause-few g c t r = let session = c.sync.ensures.session in let course = session.course in asks_few _ _ course.asked_peer course.first_peer course.first_local course.again_peer course.wanted_local course.wanted_peer _ _ (questions_more course.asked_peer c.args.far.now.side c.sync.new.peer.side course.follows.1.2) course.parts.1 (session.few t r) session.again.1
