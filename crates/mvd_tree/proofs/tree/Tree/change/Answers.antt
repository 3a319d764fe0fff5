use Rattle.std.proofs.Common.{rules, arith}
use Rattle.mvd_tree.proofs.Wholly.{changes_all, changes_to, middle_within, still_many, tree_after, upper_within}
use Rattle.mvd_tree.proofs.tree.Tree.change.Goals as goal

pub renew_nodes-requires-clause-all : goal.renew_nodes-requires-clause-all
renew_nodes-requires-clause-all c =
    let low = still_many _ c.renew_buckets.ensures.nodes.found c.self.inside.lowest c.renew_buckets.new.lowest 4096 c.self.invariant.keeps_lowest.all c.renew_buckets.ensures.nodes.nodes in
    let mid = c.self.invariant.keeps_middle.all in omega (arith, low, mid)

pub renew_nodes-requires-clause-within : goal.renew_nodes-requires-clause-within
renew_nodes-requires-clause-within c key = omega (arith, middle_within key, c.self.invariant.keeps_middle.all)

pub renew_nodes-requires-2-clause-all : goal.renew_nodes-requires-2-clause-all
renew_nodes-requires-2-clause-all c =
    let mid = still_many _ c.renew_nodes.ensures.nodes.found c.self.inside.middle c.renew_nodes.new.above 256 c.self.invariant.keeps_middle.all c.renew_nodes.ensures.nodes.nodes in
    let up = c.self.invariant.keeps_upper.all in omega (arith, mid, up)

pub renew_nodes-requires-2-clause-within : goal.renew_nodes-requires-2-clause-within
renew_nodes-requires-2-clause-within c key = omega (arith, upper_within key, c.self.invariant.keeps_upper.all)

pub over-self-inside-requires : goal.over-self-inside-requires
over-self-inside-requires c =
    let up = still_many _ c.renew_nodes-2.ensures.nodes.found c.self.inside.upper c.renew_nodes-2.new.above 16 c.self.invariant.keeps_upper.all c.renew_nodes-2.ensures.nodes.nodes in omega (arith, up)

pub invariant_of-self : goal.invariant_of-self
invariant_of-self c =
    let all = c.args.changes.now in
    let at = c.self.inside in
    let done = c.change_buckets-done in
    let to = changes_to done.result all at.buckets.items done.new.buckets.items done.ensures.ok done.ensures.broken done.ensures.err in
    (tree_after all to.k at.buckets.items done.new.buckets.items c.renew_buckets.new.buckets.items at.lowest at.middle at.upper
    c.renew_buckets.new.lowest c.renew_nodes.new.below c.renew_nodes.new.above c.renew_nodes-2.new.below c.renew_nodes-2.new.above c.over-self-inside.new.self at.root c.over-self-inside.result
    c.args.hashed.now c.renew_buckets.new.hashed c.renew_nodes.new.hashed c.renew_nodes-2.new.hashed c.over-self-inside.new.hashed (search rules) c.self.invariant to.is c.renew_buckets.ensures.same
    c.renew_buckets.ensures.nodes c.renew_nodes.ensures.same c.renew_nodes.ensures.nodes c.renew_nodes-2.ensures.same c.renew_nodes-2.ensures.nodes c.over-self-inside.ensures.same
    c.over-self-inside.ensures.digest c.over-self-inside.ensures.counts).keeps

pub returns : goal.returns
returns c =
    let all = c.args.changes.now in
    let at = c.self.inside in
    let done = c.change_buckets-done in
    let to = changes_to done.result all at.buckets.items done.new.buckets.items done.ensures.ok done.ensures.broken done.ensures.err in
    changes_all done.result all at.buckets.items done.new.buckets.items c.renew_buckets.new.buckets.items to c.args.self.now c.renew_nodes.new.below c.renew_nodes-2.new.below c.over-self-inside.new.self c.over-self-inside.result
    c.args.hashed.now c.over-self-inside.new.hashed c.self.view_is
    (tree_after all to.k at.buckets.items done.new.buckets.items c.renew_buckets.new.buckets.items at.lowest at.middle at.upper
    c.renew_buckets.new.lowest c.renew_nodes.new.below c.renew_nodes.new.above c.renew_nodes-2.new.below c.renew_nodes-2.new.above c.over-self-inside.new.self at.root c.over-self-inside.result
    c.args.hashed.now c.renew_buckets.new.hashed c.renew_nodes.new.hashed c.renew_nodes-2.new.hashed c.over-self-inside.new.hashed (search rules) c.self.invariant to.is c.renew_buckets.ensures.same
    c.renew_buckets.ensures.nodes c.renew_nodes.ensures.same c.renew_nodes.ensures.nodes c.renew_nodes-2.ensures.same c.renew_nodes-2.ensures.nodes c.over-self-inside.ensures.same
    c.over-self-inside.ensures.digest c.over-self-inside.ensures.counts)
