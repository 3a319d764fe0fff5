use Rattle.std.proofs.Common.{inl, refl}
use Rattle.mvd_server.proofs.Handing.{moves_none, moves_on}
use Rattle.mvd_server.proofs.own_session.OwnSession.hand_on.Goals as goal

pub returns-in-Ok-clause-hands : goal.returns-in-Ok-clause-hands
returns-in-Ok-clause-hands c = inl (record { mid = c.go_on.new.self; goes = c.in-Ok.ensures.goes; few = c.go_on.ensures.few; hands = c.ask_own.ensures.hands; same = refl })

pub returns-in-Ok-clause-moves : goal.returns-in-Ok-clause-moves
returns-in-Ok-clause-moves c =
    moves_on c.args.self.now.near _ c.args.self.now.client c.args.talks.now.hand c.ask_own.new.self.hand
    (inl (record { mid = c.go_on.new.self; goes = c.in-Ok.ensures.goes; few = c.go_on.ensures.few; hands = c.ask_own.ensures.hands; same = refl }))

pub returns-in-Err-clause-moves : goal.returns-in-Err-clause-moves
returns-in-Err-clause-moves c = moves_none c.args.self.now.near _ c.in-Err.ensures.err
