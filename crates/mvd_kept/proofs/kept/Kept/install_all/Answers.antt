use Rattle.std.proofs.Common.{◌∙◌, ap, subst}
use Rattle.mvd_tree.specs.Change.{changed_all}
use Rattle.mvd_kept.specs.Installs.{InstallCosts, TreeCosts, changes_in, digests_in, last_changes}
use Rattle.mvd_kept.proofs.Spent.{with_hashed}
use Rattle.mvd_kept.proofs.Installed.{keeps_installed}
use Rattle.mvd_kept.proofs.InstallSpent.{all_take}
use Rattle.mvd_kept.proofs.kept.Kept.install_all.Goals as goal

pub invariant_of-self : goal.invariant_of-self
invariant_of-self c =
    let at = c.self.inside in
    let put = c.put_all-self-inside in
    let following = c.follow-is_digested in
    keeps_installed at.config at.states put.new.states at.tree following.new.tree at.rows put.new.rows at.broken put.result following.result c.args.group.items put.ensures.puts.0 c.self.invariant
    put.ensures.few put.ensures.puts.2 put.ensures.stand put.ensures.digested
    (λ did. following.ensures.follows did ∙ ap (λ l. changed_all at.tree (digests_in (last_changes l))) c.deref.ensures.value)
    (λ none. following.ensures.still (ap changes_in c.deref.ensures.value ∙ none))

pub returns-clause-costs : goal.returns-clause-costs
returns-clause-costs c =
    let at = c.self.inside in
    let put = c.put_all-self-inside in
    let following = c.follow-is_digested in
    let work = c.args.work.now in
    subst (λ site. InstallCosts site c.args.group.items work put.new.work) c.self.view_is
    (all_take at.config at.states at.broken at.tree c.args.group.items work put.new.work following.new.hashed c.self.invariant.digested
    (subst (λ l. TreeCosts at.tree (last_changes l) work.hashed following.new.hashed) c.deref.ensures.value following.ensures.counts)
    put.ensures.costs
    (λ broken. put.ensures.idle broken ∙ ap (with_hashed work) (following.ensures.idle broken)))
