use Rattle.std.proofs.Common.{rules, ◌≡◌, ◌+◌, ◌*◌, ◌/◌, ◌∙◌, List, Option, ℕ, ap, arith, get_or, length, map, refl, set, subst, subst₂, sym, take}
use Rattle.std.specs.Prelude.{nat_eq}
use Rattle.std.specs.FinMap.{empty, entries, len}
use Rattle.std.specs.FinSet.{contains, insert}
use Rattle.std.specs.List.{sum_by}
use Rattle.std.specs.Set.{is_member}
use Rattle.std.proofs.lemmas.Bool.{not-false, not-true}
use Rattle.std.proofs.lemmas.List.{length-set}
use Rattle.std.proofs.lemmas.List.Sums.{sum_by_push}
use Rattle.mvd_digest.specs.Counted.{Hashes}
use Rattle.mvd_tree.specs.Kept.{kept_bucket}
use Rattle.mvd_tree.specs.Layout.{bucket_of}
use Rattle.mvd_tree.specs.Renewed.{Renews}
use Rattle.mvd_tree.proofs.Gathered.{bucket_of-limit}
use Rattle.mvd_tree.proofs.BitSet.{numbers_next, tells}
use Rattle.mvd_tree.proofs.Renewing.{renews_again, renews_first, renews_none, renews_one}
use Rattle.mvd_tree.proofs.touched.renew_buckets.Goals.{then-insert, else-insert}
use Rattle.mvd_tree.proofs.touched.renew_buckets.Goals as goal

pub insert-requires : goal.insert-requires
insert-requires c = omega (arith, c.number_over-bucket.ensures, bucket_of-limit c.index-changes-index.result.0)

pub renew_bucket-requires-clause-bucket : goal.renew_bucket-requires-clause-bucket
renew_bucket-requires-clause-bucket c = omega (arith, c.number_over.ensures, bucket_of-limit c.index-changes-0.result.0, c.requires.all)

pub renew_bucket-requires-clause-node : goal.renew_bucket-requires-clause-node
renew_bucket-requires-clause-node c = omega (arith, c.number_over.ensures, bucket_of-limit c.index-changes-0.result.0, c.requires.lowest)

pub renew_bucket-requires-then-insert-clause-bucket : goal.renew_bucket-requires-then-insert-clause-bucket
renew_bucket-requires-then-insert-clause-bucket c =
    let same = ap length c.loop-index.invariant.same in omega (arith, c.number_over-bucket.ensures, bucket_of-limit c.index-changes-index.result.0, c.requires.all, same)

pub renew_bucket-requires-then-insert-clause-node : goal.renew_bucket-requires-then-insert-clause-node
renew_bucket-requires-then-insert-clause-node c = omega (arith, c.number_over-bucket.ensures, bucket_of-limit c.index-changes-index.result.0, c.loop-index.invariant.all)

pub returns-then-changes-eq1-clause-nodes : goal.returns-then-changes-eq1-clause-nodes
returns-then-changes-eq1-clause-nodes c =
    let changes = c.args.changes.now in
    let d = c.index-changes-0.result in
    let all = c.args.buckets.now.items in
    let is : d ≡ get_or changes 0 d = search rules in
    let q = bucket_of (get_or changes 0 d).0 / 1 in
    let q_is : c.number_over.result ≡ q = c.number_over.ensures ∙ ap (λ (e : List ℕ × Option (List ℕ)). bucket_of e.0 / 1) is in
    let told : ℕ → Option (List ℕ) = λ k. kept_bucket (entries (get_or all k empty)) in
    let keys : ℕ → ℕ = λ k. len (get_or all k empty) in
    renews_one told (λ ns. 32 * sum_by keys ns) 1 changes d (32 * keys q) c.args.lowest.now c.renew_bucket.new.lowest c.args.hashed.now c.renew_bucket.new.hashed
    c.if-changes-eq1.true
    (λ ns. let sum = sum_by_push keys ns q in omega (arith, sum))
    (c.renew_bucket.ensures.node ∙ ap (λ k. set c.args.lowest.now k (told k)) q_is)
    (subst (λ k. Hashes 1 (32 * keys k) c.args.hashed.now c.renew_bucket.new.hashed) q_is c.renew_bucket.ensures.counts)

pub loop-index-init : goal.loop-index-init
loop-index-init c = record { same = refl; all = c.requires.lowest; done = c.none-done.ensures; nodes = renews_none _ _ 1 c.args.changes.now c.args.lowest.now c.args.hashed.now }

pub loop-index-preserved : goal.loop-index-preserved
loop-index-preserved c =
    let changes = c.args.changes.now in
    let i = c.loop-index.index in
    let d = c.index-changes-index.result in
    let n = c.number_over-bucket.result in
    let all = c.args.buckets.now.items in
    let at = c.loop-index.invariant in
    let low = c.loop-index-test.true in
    let is : d ≡ get_or changes i d = search rules in
    let q = bucket_of (get_or changes i d).0 / 1 in
    let q_is : n ≡ q = c.number_over-bucket.ensures ∙ ap (λ (e : List ℕ × Option (List ℕ)). bucket_of e.0 / 1) is in
    let told : ℕ → Option (List ℕ) = λ k. kept_bucket (entries (get_or all k empty)) in
    let keys : ℕ → ℕ = λ k. len (get_or all k empty) in
    let has : is_member nat_eq (map (λ e. bucket_of e.0 / 1) (take i changes)) q ≡ contains c.loop-index.done n =
    sym (tells 1 (take i changes) q) ∙ (λ t. contains (sym at.done t) (sym q_is t)) in
    let done = c.insert.ensures.numbers ∙ (λ t. insert (at.done t) (q_is t)) ∙ numbers_next 1 changes i d low in
    elim c.if-insert.branch [
      | then-insert w ↦ record {
        same = ap (λ v. v.items) w.buckets-is ∙ w.renew_bucket-then-insert.ensures.same ∙ at.same;
        all = ap length (w.lowest-is ∙ w.renew_bucket-then-insert.ensures.node) ∙ length-set c.loop-index.lowest n _ ∙ at.all;
        done = done;
        nodes = renews_first told (λ ns. 32 * sum_by keys ns) 1 changes i d (32 * keys q) c.args.lowest.now c.loop-index.lowest c.if-insert.lowest
            c.args.hashed.now c.loop-index.hashed c.if-insert.hashed low (has ∙ not-true _ (sym w.if-insert.ensures.new))
            (λ ns. let sum = sum_by_push keys ns q in omega (arith, sum))
            (w.lowest-is ∙ w.renew_bucket-then-insert.ensures.node ∙ (λ t. set c.loop-index.lowest (q_is t) (kept_bucket (entries (get_or (at.same t) (q_is t) empty)))))
            (subst₂ (λ k h. Hashes 1 (32 * k) c.loop-index.hashed h) (λ t. len (get_or (at.same t) (q_is t) empty)) (sym w.hashed-is) w.renew_bucket-then-insert.ensures.counts)
            at.nodes;
      }
      | else-insert w ↦ record {
        same = ap (λ v. v.items) w.buckets-is ∙ at.same;
        all = ap length w.lowest-is ∙ at.all;
        done = done;
        nodes = subst₂ (λ l h. Renews told (λ ns. 32 * sum_by keys ns) 1 (take (i + 1) changes) c.args.lowest.now l c.args.hashed.now h) (sym w.lowest-is) (sym w.hashed-is)
            (renews_again told (λ ns. 32 * sum_by keys ns) 1 changes i d c.args.lowest.now c.loop-index.lowest c.args.hashed.now c.loop-index.hashed low (has ∙ not-false _ (sym w.if-insert.ensures.new)) at.nodes);
      }
    ]
