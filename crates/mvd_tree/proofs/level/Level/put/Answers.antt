use Rattle.mvd_tree.proofs.Midstates.{forgotten-set}
use Rattle.mvd_tree.proofs.level.Level.put.Goals as goal

pub invariant_of-self : goal.invariant_of-self
invariant_of-self c =
    forgotten-set c.self.inside.nodes.items c.self.inside.midstates.items c.forget.new.midstates.items c.args.number c.args.kept c.self.invariant c.forget.ensures
