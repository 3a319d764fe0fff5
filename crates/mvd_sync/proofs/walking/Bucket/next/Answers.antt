use Rattle.mvd_sync.proofs.Opening.{takes_next}
use Rattle.mvd_sync.proofs.walking.Bucket.next.Goals as goal

pub returns-clause-next : goal.returns-clause-next
returns-clause-next c = takes_next c.args.self.now c.next.new.mine c.next.new.theirs c.next.result c.next.ensures.next c.next.ensures.more
