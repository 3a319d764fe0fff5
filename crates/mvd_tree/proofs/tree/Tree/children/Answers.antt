use Rattle.std.proofs.Common.{◌+◌, ◌*◌, ap, sym, ◌∙◌, subst, Some, get_or, map}
use Rattle.std.specs.Prelude.{slice_range}
use Rattle.mvd_tree.specs.Kept.{digest_or_zeros}
use Rattle.mvd_tree.specs.Page.{children_digests}
use Rattle.mvd_tree.specs.Layout.{IsPath, gathered}
use Rattle.mvd_tree.proofs.Answers.{children_none, children_one, children_two}
use Rattle.mvd_tree.proofs.tree.Tree.children.Goals as goal

pub returns-in-empty-clause-inner : goal.returns-in-empty-clause-inner
returns-in-empty-clause-inner c = λ _. ap Some (
    c.all_or_zeros.ensures ∙ ap (map digest_or_zeros) c.nodes.ensures
    ∙ children_none (gathered c.self.inside.buckets.items) c.self.inside.upper c.digits_of.result.now c.self.invariant.keeps_upper c.in-empty.len_below
    ∙ ap (children_digests (gathered c.self.inside.buckets.items)) c.digits_of.ensures.digits
    ∙ ap (λ held. children_digests held c.args.path.now) c.self.view_is)

pub returns-in-len1-clause-inner : goal.returns-in-len1-clause-inner
returns-in-len1-clause-inner c = λ _. ap Some (
    c.all_or_zeros-in-len1.ensures
    ∙ ap (λ nodes. map digest_or_zeros (slice_range nodes (get_or c.digits_of.result.now 0 0 * 16) (get_or c.digits_of.result.now 0 0 * 16 + 16))) c.nodes-in-len1.ensures
    ∙ children_one (gathered c.self.inside.buckets.items) c.self.inside.middle c.digits_of.result.now c.self.invariant.keeps_middle
    (subst IsPath (sym c.digits_of.ensures.digits) c.digits_of.ensures.path) c.in-len1.len_at_least c.in-len1.len_below
    ∙ ap (children_digests (gathered c.self.inside.buckets.items)) c.digits_of.ensures.digits
    ∙ ap (λ held. children_digests held c.args.path.now) c.self.view_is)

pub returns-in-len2-clause-inner : goal.returns-in-len2-clause-inner
returns-in-len2-clause-inner c = λ _. ap Some (
    c.all_or_zeros-in-len2.ensures
    ∙ ap (λ nodes. map digest_or_zeros (slice_range nodes ((get_or c.digits_of.result.now 0 0 * 16 + get_or c.digits_of.result.now 1 0) * 16) ((get_or c.digits_of.result.now 0 0 * 16 + get_or c.digits_of.result.now 1 0) * 16 + 16))) c.nodes-in-len2.ensures
    ∙ children_two (gathered c.self.inside.buckets.items) c.self.inside.lowest c.digits_of.result.now c.self.invariant.keeps_lowest
    (subst IsPath (sym c.digits_of.ensures.digits) c.digits_of.ensures.path) c.in-len2.len_at_least c.in-len2.len_below
    ∙ ap (children_digests (gathered c.self.inside.buckets.items)) c.digits_of.ensures.digits
    ∙ ap (λ held. children_digests held c.args.path.now) c.self.view_is)
