use Rattle.std.proofs.Common.{rules, ◌≡◌, ◌∷◌, [], ◌<◌, ◌++◌, get_or, length, set, sym, ap, subst₂, ◌∙◌, arith}
use Rattle.std.specs.FinMap.{entries, len}
use Rattle.mvd_tree.specs.Kept.{kept_bucket}
use Rattle.mvd_tree.specs.HashTree.{KeyDigests}
use Rattle.mvd_tree.proofs.Counts.{hashes_then, keys_next, keys_taken, map_next, set_own}
use Rattle.mvd_tree.proofs.nodes.bucket_nodes.Goals as goal

pub returns-in_err-push-clause-counts : goal.returns-in_err-push-clause-counts
returns-in_err-push-clause-counts c =
    let all = c.args.buckets.now.items in
    let number = c.loop-number.number in
    let within : number < length all = search rules in
    let bucket : KeyDigests = c.index_mut.result.now in
    let at : bucket ≡ get_or all number bucket = c.index_mut.ensures.value ∙ ap (λ bs. get_or bs number bucket) c.loop-number.invariant.0 in
    let taken = keys_taken all number bucket within at in
    hashes_then _ _ _ _ _ _ c.args.hashed.now c.loop-number.hashed c.digest.new.hashed (omega (arith, within)) (omega (arith, taken)) c.loop-number.invariant.2 c.digest.ensures.counts

pub loop-number-preserved : goal.loop-number-preserved
loop-number-preserved c =
    let all = c.args.buckets.now.items in
    let number = c.loop-number.number in
    let within : number < length all = search rules in
    let bucket : KeyDigests = c.index_mut.result.now in
    let at : bucket ≡ get_or all number bucket = c.index_mut.ensures.value ∙ ap (λ bs. get_or bs number bucket) c.loop-number.invariant.0 in
    let next = keys_next all number bucket within in
    let size = ap len at in (
      subst₂ (λ bs (b : KeyDigests). set bs number b ≡ all) (sym c.loop-number.invariant.0) (sym c.digest.ensures.same) (set_own all number bucket at),
      c.in_ok-push.ensures.items ∙ (λ i. c.loop-number.invariant.1 i ++ (c.digest.ensures.digest ∙ ap (λ b. kept_bucket (entries b)) at) i ∷ [])
          ∙ sym (map_next (λ (b : KeyDigests). kept_bucket (entries b)) all number bucket within),
      hashes_then _ _ _ _ _ _ c.args.hashed.now c.loop-number.hashed c.digest.new.hashed (omega arith) (omega (arith, next, size)) c.loop-number.invariant.2 c.digest.ensures.counts,
    )
