use Rattle.mvd_sync.proofs.Machined.{ends_of, next_of}
use Rattle.mvd_sync.proofs.machine.Machine.next.Goals as goal

pub returns-in-Ok-clause-next : goal.returns-in-Ok-clause-next
returns-in-Ok-clause-next c = next_of c.args.self.now c.advance.new.self c.step.result c.in-Ok.ensures.left c.in-Ok.ensures.went c.in-Ok.ensures.loud c.step.ensures.step

pub returns-in-Ok-clause-ended : goal.returns-in-Ok-clause-ended
returns-in-Ok-clause-ended c = ends_of c.args.self.now c.advance.new.self c.step.result c.in-Ok.ensures.went c.step.ensures.ended
