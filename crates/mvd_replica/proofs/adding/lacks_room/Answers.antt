use Rattle.std.proofs.Common.{◌∙◌, ap, arith}
use Rattle.mvd_site.specs.Config.{ConfigValue}
use Rattle.mvd_replica.proofs.AddedKeys.{keeps_where, lacks_where}
use Rattle.mvd_replica.proofs.adding.lacks_room.Goals as goal

pub returns-clause-keeps : goal.returns-clause-keeps
returns-clause-keeps c = keeps_where c.args.site.now c.args.request.now c.args.added c.may_add.result c.may_add.ensures.adds

pub returns-clause-lacks : goal.returns-clause-lacks
returns-clause-lacks c =
    let most = c.max_keys-most.ensures.max_keys ∙ ap (λ (config : ConfigValue). config.max_keys) c.config.ensures in
    lacks_where c.args.site.now c.args.request.now c.args.added c.may_add.result (omega arith) (omega (arith, most)) c.may_add.ensures.adds
