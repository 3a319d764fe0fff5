use Rattle.std.proofs.Common.{◌∙◌, ap}
use Rattle.mvd_keys.specs.State.{State as Keyed}
use Rattle.mvd_keys.specs.Writes.{is_empty}
use Rattle.mvd_replica.proofs.AddedKeys.{unheld_where}
use Rattle.mvd_replica.proofs.adding.lacks.Goals as goal

pub returns-in-Ok-clause-lacks : goal.returns-in-Ok-clause-lacks
returns-in-Ok-clause-lacks c =
    c.is_empty.ensures.count ∙ ap is_empty (c.context.ensures.same ∙ ap (λ (s : Keyed). s.context) c.in-Ok.ensures.state)
    ∙ unheld_where c.args.site.now.states c.args.key.now c.stands.ensures.held
