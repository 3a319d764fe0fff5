use Rattle.std.proofs.Common.{arith}
use Rattle.mvd_client.specs.Refusals.{noted_in}
use Rattle.mvd_client.specs.SyncSides.{in_session, stored_side}
use Rattle.mvd_remote.specs.Remotes.{remote_side}
use Rattle.mvd_client.proofs.PushTurns.{takes_turns}
use Rattle.mvd_client.proofs.Ran.{run_within}
use Rattle.mvd_client.proofs.Seen.{session_within}
use Rattle.mvd_client.proofs.Watching.{asks_few, questions_more}
use Rattle.mvd_client.proofs.peer_commands.session_with.Goals as goal

pub returns-clause-same_reference : goal.returns-clause-same_reference
returns-clause-same_reference g c = c.sync.ensures.session.course.follows.0.0

pub returns-clause-same_notes : goal.returns-clause-same_notes
returns-clause-same_notes g c = c.sync.ensures.session.course.follows.0.2

pub returns-clause-session : goal.returns-clause-session
returns-clause-session g c =
    session_within c.args.side.now c.sync.new.local c.args.watched.now c.sync.new.peer (λ side. in_session side.replica.now (noted_in side.refused.now)) (λ watched. watched.side) stored_side (remote_side g.L.Line) _ _ 10000000 c.sync.result c.sync.ensures.session
    (λ n old new way. (way.1.follows, way.3)) (λ n old new way. way)

pub returns-clause-ran : goal.returns-clause-ran
returns-clause-ran g c =
    run_within (λ side. in_session side.replica.now (noted_in side.refused.now)) (λ watched. watched.side) stored_side (remote_side g.L.Line) _ _ (λ n old new way. (way.1.follows, way.3)) (λ n old new way. way)
    10000000 c.args.side.now c.sync.new.local c.args.watched.now c.sync.new.peer c.sync.result c.sync.ensures.ran

pub returns-clause-takes : goal.returns-clause-takes
returns-clause-takes g c = takes_turns c.args.side.now.replica.now c.sync.new.local.replica.now c.sync.ensures.session.course.follows.0.1

pub returns-clause-pushed : goal.returns-clause-pushed
returns-clause-pushed g c = c.sync.ensures.session.course.follows.0.1.follows

pub returns-clause-few : goal.returns-clause-few
returns-clause-few g c t r = let session = c.sync.ensures.session in let course = session.course in asks_few _ _ course.asked_peer course.first_peer course.first_local course.again_peer course.wanted_local course.wanted_peer _ _ (questions_more course.asked_peer c.args.watched.now.side c.sync.new.peer.side course.follows.1.2) course.parts.1 (session.few t r) session.again.1

pub returns-clause-most : goal.returns-clause-most
returns-clause-most g c = let session = c.sync.ensures.session in let within = session.course.within.1 in let more = questions_more session.course.asked_peer c.args.watched.now.side c.sync.new.peer.side session.course.follows.1.2 in omega (arith, within, more)
