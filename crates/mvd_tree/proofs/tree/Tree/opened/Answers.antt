use Rattle.std.proofs.Common.{◌∙◌, ◌*◌, ◌+◌, ap, sym, subst, subst₂, map}
use Rattle.std.specs.Prelude.{slice_range}
use Rattle.std.specs.FinMap.{entries, from_entries}
use Rattle.mvd_tree.specs.Kept.{kept_bucket, kept_inner}
use Rattle.mvd_tree.specs.Layout.{AreOver, HoldApart}
use Rattle.mvd_tree.proofs.Opened.{opened_tree}
use Rattle.mvd_tree.proofs.tree.Tree.opened.Goals as goal

pub invariant_of-result : goal.invariant_of-result
invariant_of-result c =
    let same = c.in_ok-bucket_nodes.ensures.same in
    opened_tree c.bucket_nodes.new.buckets.items c.all_over.new.self c.all_over-2.new.self c.over-root.new.self c.over-root.result _
    (subst (λ bs. HoldApart bs (from_entries c.args.entries.items)) (sym same) c.in_ok-buckets.ensures.holds)
    (c.all_over.ensures.same ∙ c.in_ok-lowest.ensures.nodes ∙ c.in_ok-bucket_nodes.ensures.nodes ∙ ap (map (λ b. kept_bucket (entries b))) (sym same))
    (subst₂ (λ low mid. AreOver low 256 mid) (sym c.all_over.ensures.same) (sym (c.all_over-2.ensures.same ∙ c.in_ok-middle.ensures.nodes)) c.in_ok-all_over.ensures.nodes)
    (subst₂ (λ mid up. AreOver mid 16 up) (sym c.all_over-2.ensures.same) (sym (c.over-root.ensures.same ∙ c.in_ok-upper.ensures.nodes)) c.in_ok-all_over-2.ensures.nodes)
    (c.over-root.ensures.digest ∙ ap (λ up. kept_inner (slice_range up (0 * 16) (0 * 16 + 16))) (sym c.over-root.ensures.same))
