use Rattle.std.proofs.Common.{refl}
use Rattle.mvd_meet.proofs.stepping.Meeting.hear.Goals as goal

pub returns-then-not-self : goal.returns-then-not-self
returns-then-not-self c = (rw c.if-not-self.true (record { machine = refl; same_near = refl; same_far = refl; ok = refl }), refl)

pub returns : goal.returns
returns c = (rw c.if-not-self.false (record { mine = c.tell-mine.result; theirs = c.tell-theirs.result; local = c.tell-mine.ensures; peer = c.tell-theirs.ensures; takes = c.take.ensures }), c.if-not-self.false)
