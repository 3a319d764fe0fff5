use Rattle.std.proofs.Common.{◌≡◌, ◌*◌, ◌∙◌, ap, get_or, set, subst, sym}
use Rattle.std.specs.FinMap.{empty, entries, len}
use Rattle.mvd_digest.specs.Counted.{Hashes}
use Rattle.mvd_tree.specs.HashTree.{KeyDigests}
use Rattle.mvd_tree.specs.Kept.{kept_bucket}
use Rattle.mvd_tree.proofs.Changes.{any_default}
use Rattle.mvd_tree.proofs.Counts.{set_own}
use Rattle.mvd_tree.proofs.touched.renew_bucket.Goals as goal

pub returns : goal.returns
returns c =
    let bs = c.args.buckets.now.items in
    let n = c.args.number in
    let own : KeyDigests = c.index_mut.result.now in
    let own_is : own ≡ get_or bs n empty = c.index_mut.ensures.value ∙ any_default bs n own empty c.requires.bucket in
    record {
      same = subst (λ (b : KeyDigests). set bs n b ≡ bs) (sym c.digest-kept.ensures.same) (set_own bs n own c.index_mut.ensures.value);
      node = c.put.ensures.nodes ∙ ap (set c.args.lowest.now n) (c.digest-kept.ensures.digest ∙ ap (λ (b : KeyDigests). kept_bucket (entries b)) own_is);
      counts = subst (λ (b : KeyDigests). Hashes 1 (32 * len b) c.args.hashed.now c.digest-kept.new.hashed) own_is c.digest-kept.ensures.counts;
    }
