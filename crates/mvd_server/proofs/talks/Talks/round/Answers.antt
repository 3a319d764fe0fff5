use Rattle.std.proofs.Common.{refl}
use Rattle.mvd_replica.specs.Replicas.{site_of}
use Rattle.mvd_server.specs.Rounds.{with_round}
use Rattle.mvd_server.specs.Talking.{Follows, talking_of}
use Rattle.mvd_server.proofs.Deeds.{deed_at, deeds_at}
use Rattle.mvd_server.proofs.Meeting.{all_may_turn}
use Rattle.mvd_server.proofs.talks.Talks.round.Goals as goal

pub loop-number-preserved : goal.loop-number-preserved
loop-number-preserved g c =
    let begun = record (talking_of c.args.self.now) { feed = c.start.new.self } in
    deeds_at (site_of c.args.replica.now) begun (talking_of c.loop-number.self) (talking_of c.take_in.new.self) c.loop-number.invariant c.take_in.ensures.deeds

pub returns : goal.returns
returns g c =
    let old = talking_of c.args.self.now in
    let site = site_of c.args.replica.now in
    let begun = record old { feed = c.start.new.self } in
    let taken = talking_of c.loop-number.self in
    let told = talking_of c.tell_all.new.self in
    let before = talking_of c.meet_all.new.self in
    let host = c.round-round.new.self in
    let hand = c.round-round.new.at_hand in
    let feed = c.round-round.new.feed in
    let round = c.round-round.ensures.round.1 in
    let after = with_round before host hand feed in
    let site' = site_of c.round-round.new.replica in
    record {
      round = record {
        before = before;
        host = host;
        hand = hand;
        first =
            deeds_at site old begun before (deed_at site (Follows c.start.new.self site) old begun refl (c.start.ensures.lists, refl))
            (deeds_at site begun taken before c.loop-number.invariant
            (deeds_at site taken told before (c.tell_all.ensures.deeds site) (c.meet_all.ensures.deeds site)));
        ready = c.args.ready.now;
        turns = c.round-round.ensures.round.0;
        round = round;
        known = all_may_turn before host c.args.ready.now c.round-round.ensures.round.0 c.meet_all.ensures.settled round.spares round.clients;
        feed = feed;
        lists = c.round-round.ensures.lists;
        last = deeds_at site' after (talking_of c.tell_all-2.new.self) (talking_of c.wake.new.self) (c.tell_all-2.ensures.deeds site') c.wake.ensures;
      };
    }
