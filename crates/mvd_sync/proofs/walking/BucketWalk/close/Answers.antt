use Rattle.mvd_sync.proofs.Opening.{closes_to}
use Rattle.mvd_sync.proofs.walking.BucketWalk.close.Goals as goal

pub returns-in-Some-clause-closes : goal.returns-in-Some-clause-closes
returns-in-Some-clause-closes c = closes_to c.args.self.now _ _ _ _ c.self.view_is c.requires.unasked c.in-Some.bucket c.pop_front.new.self.items c.replace.new.self c.in-Some.ensures.items c.replace.ensures.after
