use Rattle.std.proofs.Common.{rules, ◌≡◌, ℕ, ◌∷◌, [], List, Option, ap, get_or, length, set, sym, ◌∙◌, arith}
use Rattle.std.specs.FinMap.{empty}
use Rattle.std.proofs.lemmas.List.{length-set}
use Rattle.mvd_tree.specs.Change.{changed}
use Rattle.mvd_tree.specs.Layout.{bucket_of}
use Rattle.mvd_tree.specs.Renewed.{with_changes}
use Rattle.mvd_tree.proofs.Gathered.{bucket_of-limit}
use Rattle.mvd_tree.proofs.Renewing.{with_changes-more}
use Rattle.mvd_tree.proofs.touched.change_buckets.Goals as goal

pub change_bucket-requires : goal.change_bucket-requires
change_bucket-requires c = omega (arith, c.number_over-number.ensures, bucket_of-limit c.index-changes-index.result.0, c.loop-index.invariant.1)

pub loop-index-preserved : goal.loop-index-preserved
loop-index-preserved c =
    let changes = c.args.changes.now in
    let index = c.loop-index.index in
    let d = c.index-changes-index.result in
    let n = c.number_over-number.result in
    let is : d ≡ get_or changes index d = search rules in
    let at : n ≡ bucket_of d.0 = c.number_over-number.ensures ∙ omega arith in
    let bs = c.loop-index.buckets.items in
    let one : c.change_bucket.new.buckets.items ≡ with_changes (get_or changes index d ∷ []) bs =
    c.in_ok-change_bucket.ensures.ok ∙ ap (λ k. set bs k (changed (get_or bs k empty) c.change.inside.key c.change.inside.digest)) at
    ∙ ap (λ (e : List ℕ × Option (List ℕ)). set bs (bucket_of d.0) (changed (get_or bs (bucket_of d.0) empty) e.0 e.1)) c.change.view_is
    ∙ ap (λ (e : List ℕ × Option (List ℕ)). with_changes (e ∷ []) bs) is in (
      one ∙ ap (with_changes (get_or changes index d ∷ [])) c.loop-index.invariant.0 ∙ sym (with_changes-more changes index d c.args.buckets.now.items c.loop-index-test.true),
      ap length c.in_ok-change_bucket.ensures.ok ∙ length-set bs n _ ∙ c.loop-index.invariant.1,
    )
