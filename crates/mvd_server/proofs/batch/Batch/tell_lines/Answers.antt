use Rattle.mvd_server.proofs.Lining.{each_on, only_on}
use Rattle.mvd_server.proofs.batch.Batch.tell_lines.Goals as goal

pub returns-clause-lines : goal.returns-clause-lines
returns-clause-lines c = λ n hand hand' takes.
    each_on n c.args.self.now c.tell_refused.new.self c.tell_next.new.self hand hand hand' c.tell_refused.ensures.same (c.in_ok-tell_refused.ensures.lines n hand) (c.in_ok-tell_next.ensures.lines n hand hand' takes)

pub returns-clause-same : goal.returns-clause-same
returns-clause-same c = only_on c.args.self.now c.tell_refused.new.self c.tell_next.new.self c.tell_refused.ensures.same c.tell_next.ensures.same
