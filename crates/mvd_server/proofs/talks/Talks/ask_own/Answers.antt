use Rattle.std.proofs.Common.{subst, sym, ◌∙◌}
use Rattle.mvd_server.specs.Talking.{AreOfSession, talking_of}
use Rattle.mvd_server.proofs.AtHand.{hands_or_not}
use Rattle.mvd_server.proofs.Deeds.{deeds_own}
use Rattle.mvd_server.proofs.Replying.{own_above}
use Rattle.mvd_server.proofs.talks.Talks.ask_own.Goals as goal

pub returns-then-are_of_session-clause-hands : goal.returns-then-are_of_session-clause-hands
returns-then-are_of_session-clause-hands c =
    hands_or_not c.args.number _ _ _ _ c.ask_all.result c.ask_all.ensures.ok c.ask_all.ensures.err
    (subst AreOfSession c.deref.ensures.value (c.are_of_session.ensures c.if-are_of_session.true))

pub returns-then-are_of_session-clause-deeds : goal.returns-then-are_of_session-clause-deeds
returns-then-are_of_session-clause-deeds c =
    deeds_own c.args.number (talking_of c.args.self.now) _ _ _ (own_above c.args.number (sym c.is_own.ensures ∙ c.if-is_own.true))
    (hands_or_not c.args.number _ _ _ _ c.ask_all.result c.ask_all.ensures.ok c.ask_all.ensures.err (subst AreOfSession c.deref.ensures.value (c.are_of_session.ensures c.if-are_of_session.true)))
