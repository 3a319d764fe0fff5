use Rattle.std.proofs.Common.{rules, ◌≡◌, ◌∷◌, [], ◌+◌, ◌*◌, ◌/◌, ◌∙◌, List, Option, ℕ, ap, arith, div-le_self, get_or, length, length-append, map, refl, set, subst, subst₂, sym, take}
use Rattle.std.specs.Prelude.{nat_eq, slice_range}
use Rattle.std.specs.FinSet.{contains, insert}
use Rattle.std.specs.Set.{is_member}
use Rattle.std.proofs.lemmas.Bool.{not-false, not-true}
use Rattle.std.proofs.lemmas.List.{length-set}
use Rattle.mvd_digest.specs.Counted.{Hashes}
use Rattle.mvd_tree.specs.Kept.{kept_inner}
use Rattle.mvd_tree.specs.Layout.{bucket_of}
use Rattle.mvd_tree.specs.Renewed.{Renews}
use Rattle.mvd_tree.proofs.Gathered.{bucket_of-limit}
use Rattle.mvd_tree.proofs.BitSet.{numbers_next, tells}
use Rattle.mvd_tree.proofs.Renewing.{renews_again, renews_first, renews_none, renews_one}
use Rattle.mvd_tree.proofs.touched.renew_nodes.Goals.{then-insert, else-insert}
use Rattle.mvd_tree.proofs.touched.renew_nodes.Goals as goal

pub insert-requires : goal.insert-requires
insert-requires c = omega (arith, c.number_over-number.ensures, div-le_self (bucket_of c.index-changes-index.result.0) c.args.by, bucket_of-limit c.index-changes-index.result.0)

pub returns-then-changes-eq1-clause-nodes : goal.returns-then-changes-eq1-clause-nodes
returns-then-changes-eq1-clause-nodes c =
    let changes = c.args.changes.now in
    let by = c.args.by in
    let d = c.index-changes-0.result in
    let below = c.args.below.now in
    let is : d ≡ get_or changes 0 d = search rules in
    let told : ℕ → Option (List ℕ) = λ k. kept_inner (slice_range below (k * 16) (k * 16 + 16)) in
    renews_one told (λ ns. 512 * length ns) by changes d 512 c.args.above.now c.renew_node.new.above c.args.hashed.now c.renew_node.new.hashed
    c.if-changes-eq1.true
    (λ ns. let more = length-append ns ((bucket_of (get_or changes 0 d).0 / by) ∷ []) in omega (arith, more))
    (c.renew_node.ensures.node ∙ ap (λ k. set c.args.above.now k (told k)) (c.number_over.ensures ∙ ap (λ (e : List ℕ × Option (List ℕ)). bucket_of e.0 / by) is))
    c.renew_node.ensures.counts

pub loop-index-init : goal.loop-index-init
loop-index-init c = record { same = refl; all = refl; done = c.none-done.ensures; nodes = renews_none _ _ c.args.by c.args.changes.now c.args.above.now c.args.hashed.now }

pub loop-index-preserved : goal.loop-index-preserved
loop-index-preserved c =
    let changes = c.args.changes.now in
    let by = c.args.by in
    let i = c.loop-index.index in
    let d = c.index-changes-index.result in
    let n = c.number_over-number.result in
    let below = c.args.below.now in
    let at = c.loop-index.invariant in
    let low = c.loop-index-test.true in
    let is : d ≡ get_or changes i d = search rules in
    let q = bucket_of (get_or changes i d).0 / by in
    let q_is : n ≡ q = c.number_over-number.ensures ∙ ap (λ (e : List ℕ × Option (List ℕ)). bucket_of e.0 / by) is in
    let told : ℕ → Option (List ℕ) = λ k. kept_inner (slice_range below (k * 16) (k * 16 + 16)) in
    let has : is_member nat_eq (map (λ e. bucket_of e.0 / by) (take i changes)) q ≡ contains c.loop-index.done n =
    sym (tells by (take i changes) q) ∙ (λ t. contains (sym at.done t) (sym q_is t)) in
    let done = c.insert.ensures.numbers ∙ (λ t. insert (at.done t) (q_is t)) ∙ numbers_next by changes i d low in
    elim c.if-insert.branch [
      | then-insert w ↦ record {
        same = w.below-is ∙ w.renew_node-then-insert.ensures.same ∙ at.same;
        all = ap length (w.above-is ∙ w.renew_node-then-insert.ensures.node) ∙ length-set c.loop-index.above n _ ∙ at.all;
        done = done;
        nodes = renews_first told (λ ns. 512 * length ns) by changes i d 512 c.args.above.now c.loop-index.above c.if-insert.above
            c.args.hashed.now c.loop-index.hashed c.if-insert.hashed low (has ∙ not-true _ (sym w.if-insert.ensures.new))
            (λ ns. let more = length-append ns (q ∷ []) in omega (arith, more))
            (w.above-is ∙ w.renew_node-then-insert.ensures.node
            ∙ ap (λ l. set c.loop-index.above n (kept_inner (slice_range l (n * 16) (n * 16 + 16)))) at.same
            ∙ ap (λ k. set c.loop-index.above k (told k)) q_is)
            (subst (λ h. Hashes 1 512 c.loop-index.hashed h) (sym w.hashed-is) w.renew_node-then-insert.ensures.counts)
            at.nodes;
      }
      | else-insert w ↦ record {
        same = w.below-is ∙ at.same;
        all = ap length w.above-is ∙ at.all;
        done = done;
        nodes = subst₂ (λ l h. Renews told (λ ns. 512 * length ns) by (take (i + 1) changes) c.args.above.now l c.args.hashed.now h) (sym w.above-is) (sym w.hashed-is)
            (renews_again told (λ ns. 512 * length ns) by changes i d c.args.above.now c.loop-index.above c.args.hashed.now c.loop-index.hashed low (has ∙ not-false _ (sym w.if-insert.ensures.new)) at.nodes);
      }
    ]
