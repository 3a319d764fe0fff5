use Rattle.mvd_sync.proofs.Opening.{goes_closes, goes_tells, goes_waits}
use Rattle.mvd_sync.proofs.walking.BucketWalk.next.Goals as goal

pub returns-in_default-next-clause-goes : goal.returns-in_default-next-clause-goes
returns-in_default-next-clause-goes c = goes_closes c.args.self.now _ _ _ _ c.self.view_is c.in-Some.bucket c.in-Some.is c.next.new.self c.close.new.self c.in_default-next.ensures.none c.in_ok-close.ensures.closes

pub returns-then-not-is_spent-clause-goes : goal.returns-then-not-is_spent-clause-goes
returns-then-not-is_spent-clause-goes c =
    goes_tells c.args.self.now _ _ _ _ c.self.view_is c.in-Some.bucket c.in-Some.is c.next.new.self c.in-Some-next.entry c.in-Some-next.ensures.next (λ w. let t = c.is_spent.ensures.1 w in let f = c.if-not-is_spent.true in absurd (cc))

pub returns-clause-goes : goal.returns-clause-goes
returns-clause-goes c =
    goes_waits c.args.self.now _ _ _ _ c.self.view_is c.in-Some.bucket c.in-Some.is c.next.new.self c.in-Some-next.entry c.in-Some-next.ensures.next (c.is_spent.ensures.0 c.if-not-is_spent.false)
