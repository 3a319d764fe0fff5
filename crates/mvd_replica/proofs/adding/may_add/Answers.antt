use Rattle.std.proofs.Common.{◌≡◌, ap, subst}
use Rattle.std.specs.Prelude.{IfOk}
use Rattle.mvd_replica.specs.Adding.{is_some_unheld}
use Rattle.mvd_replica.proofs.adding.may_add.Goals as goal

pub returns-in-Some-clause-adds : goal.returns-in-Some-clause-adds
returns-in-Some-clause-adds c =
    subst (λ b. IfOk c.lacks.result (λ adds. adds ≡ b)) (ap (is_some_unheld c.args.site.now.states) c.in-Some.ensures) c.lacks.ensures.lacks

pub returns-in-None-clause-adds : goal.returns-in-None-clause-adds
returns-in-None-clause-adds c = ap (is_some_unheld c.args.site.now.states) c.in-None.ensures
