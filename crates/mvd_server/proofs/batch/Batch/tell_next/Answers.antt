use Rattle.std.proofs.Common.{subst}
use Rattle.std.proofs.lemmas.Result.{on_ok_weaker}
use Rattle.std.specs.Option.{option_copied}
use Rattle.mvd_server.specs.Errands.{TakesIf}
use Rattle.mvd_server.proofs.Lining.{each_on}
use Rattle.mvd_server.proofs.batch.Batch.tell_next.Goals as goal

pub returns-in_ok-tell_one-in-Some-clause-lines : goal.returns-in_ok-tell_one-in-Some-clause-lines
returns-in_ok-tell_one-in-Some-clause-lines c = λ n hand hand' takes.
    let one = c.in_ok-tell_one-in-Some.ensures.lines n hand hand' (subst (λ o. TakesIf n (option_copied o) hand hand') c.in-Some.is takes) in
    on_ok_weaker c.tell_refused.result (each_on n c.args.self.now c.tell_one.new.self c.tell_refused.new.self hand hand' hand' c.tell_one.ensures.same one) (c.tell_refused.ensures.lines n hand')
