use Rattle.std.proofs.Common.{ap, ◌∙◌}
use Rattle.std.specs.FinMap.{insert}
use Rattle.mvd_replica.specs.Behind.{noted_key}
use Rattle.mvd_replica.proofs.Lent.{lent_inserted}
use Rattle.mvd_replica.proofs.waiting.Waiting.note_key.Goals as goal

pub returns-in_ok-insert-clause-noted : goal.returns-in_ok-insert-clause-noted
returns-in_ok-insert-clause-noted c =
    lent_inserted c.self.inside.places.entries c.insert.new.self.entries c.in-Some.key c.args.at c.in_ok-insert.ensures.updates.0 ∙ ap (λ m. insert m c.in-Some.key.now c.args.at) c.self.view_is
    ∙ ap (noted_key c.args.self.now c.args.at) c.in-Some.ensures
