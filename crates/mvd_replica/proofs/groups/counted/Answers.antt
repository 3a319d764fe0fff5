use Rattle.std.proofs.Common.{◌≡◌, ◌≤◌, ap, arith}
use Rattle.mvd_site.specs.Installs.{changes_in, is_change}
use Rattle.mvd_replica.proofs.Grouping.{change_at, changes_next}
use Rattle.mvd_replica.proofs.groups.counted.Goals as goal

pub loop-prepared-preserved : goal.loop-prepared-preserved
loop-prepared-preserved c =
    let next = changes_next c.args.group.now c.loop-prepared.prepared-index c.prepared-item.result c.loop-prepared-test.true c.prepared-item.is in
    let none : is_change c.prepared-item.result ≡ 0 = ap is_change c.in_default.is in
    omega (arith, next, none, c.loop-prepared.invariant)

pub returns-in-Change-clause-none : goal.returns-in-Change-clause-none
returns-in-Change-clause-none c none =
    let one : is_change c.prepared-item.result ≡ 1 = ap is_change c.in-Change.is in
    let some : is_change c.prepared-item.result ≤ changes_in c.args.group.now =
    change_at c.args.group.now c.loop-prepared.prepared-index c.prepared-item.result c.loop-prepared-test.true c.prepared-item.is in
    absurd (omega (arith, one, some, none))
