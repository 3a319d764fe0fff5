use Rattle.std.proofs.Common.{sym}
use Rattle.mvd_server.specs.Talking.{talking_of}
use Rattle.mvd_server.proofs.AtOnce.{hands_writes}
use Rattle.mvd_server.proofs.Deeds.{deed_hands}
use Rattle.mvd_server.proofs.talks.Talks.hand_on_writes.Goals as goal

pub returns-in-Some-clause-deeds : goal.returns-in-Some-clause-deeds
returns-in-Some-clause-deeds c =
    let batch = c.hand_on.new.self in
    deed_hands c.args.number c.in-Some.batch.now batch (talking_of c.args.self.now) c.hand_on.new.hand (c.get_mut.follows.lender batch).entries (sym c.in-Some.ensures.value) c.hand_on.ensures (c.get_mut.follows.holds batch).0

pub returns-in-Some-clause-hands : goal.returns-in-Some-clause-hands
returns-in-Some-clause-hands c =
    let batch = c.hand_on.new.self in
    hands_writes c.args.number c.in-Some.batch.now batch (talking_of c.args.self.now) c.hand_on.new.hand (c.get_mut.follows.lender batch).entries (sym c.in-Some.ensures.value) c.hand_on.ensures (c.get_mut.follows.holds batch).0
