use Rattle.std.proofs.Common.{rules, ◌≡◌, ◌+◌, ◌*◌, ◌/◌, subst, arith}
use Rattle.std.specs.Prelude.{flat_map, slice_range}
use Rattle.mvd_digest.specs.Counted.{Absorbed}
use Rattle.mvd_tree.specs.Kept.{digest_or_zeros}
use Rattle.mvd_tree.specs.Midstates.{IsMidstate}
use Rattle.mvd_tree.proofs.Midstates.{keeps_more, read_on}
use Rattle.mvd_tree.proofs.level.read_children.Goals as goal

pub loop-group-preserved : goal.loop-group-preserved
loop-group-preserved c =
    let nodes = c.args.nodes.now in
    let group = c.loop-group.group in
    let low = c.last_kept-from.ensures.from in
    let high = c.loop-group-test.true in
    let first : group / 4 * 16 ≡ c.args.number * 16 = omega (arith, low, high) in
    let is : IsMidstate nodes group c.loop-group.hasher =
    subst (λ n. Absorbed c.loop-group.hasher (flat_map digest_or_zeros (slice_range nodes n (group * 4)))) (search rules) c.loop-group.invariant.1 in (
      keeps_more nodes c.loop-group.midstates.items group c.copy.result c.loop-group.invariant.0 (omega (arith, high)) (c.copy.ensures _ is),
      subst (λ n. Absorbed c.read_on-hasher.result (flat_map digest_or_zeros (slice_range nodes n ((group + 1) * 4)))) first
          (read_on nodes group ((group + 1) * 4) c.loop-group.hasher c.read_on-hasher.result is (search rules) (omega arith)),
      search rules,
    )
