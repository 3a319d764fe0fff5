use Rattle.std.proofs.Common.{◌+◌, ◌*◌, ◌-◌, ap, sym, ◌∙◌, subst, length, get_or, None}
use Rattle.mvd_tree.specs.Kept.{kept_node}
use Rattle.mvd_tree.specs.Layout.{IsPath, gathered}
use Rattle.mvd_tree.proofs.Answers.{kept_three}
use Rattle.mvd_tree.proofs.tree.Tree.kept.Goals as goal

pub returns-in-len3-up : goal.returns-in-len3-up
returns-in-len3-up c =
    let path = c.digits_of.result.now in
    ap (λ nodes. get_or nodes ((get_or path 0 0 * 16 + get_or path 1 0) * 16 + get_or path 2 0) None) c.nodes-in-len3-up.ensures
    ∙ kept_three (gathered c.self.inside.buckets.items) c.self.inside.lowest path c.self.invariant.keeps_lowest
    (subst IsPath (sym c.digits_of.ensures.digits) c.digits_of.ensures.path) c.in-len3-up.len_at_least
    ∙ ap (λ path. kept_node (3 - length path) (gathered c.self.inside.buckets.items) path) c.digits_of.ensures.digits
    ∙ ap (λ held. kept_node (3 - length c.args.path.now) held c.args.path.now) c.self.view_is
