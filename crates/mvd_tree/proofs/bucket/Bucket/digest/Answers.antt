use Rattle.std.proofs.Common.{rules, ◌≡◌, List, length, ap, sym, subst, ◌∙◌, arith, Some, None}
use Rattle.std.specs.Prelude.{flat_map}
use Rattle.std.specs.FinMap.{len, len-entries}
use Rattle.mvd_digest.specs.Sha256.{sha256}
use Rattle.mvd_digest.specs.Counted.{Absorbed}
use Rattle.std.proofs.Math.Seq.{take-length}
use Rattle.mvd_tree.specs.Kept.{kept_bucket}
use Rattle.mvd_tree.proofs.Counts.{hashes_then}
use Rattle.mvd_tree.proofs.Entries.{Entry, entries_of}
use Rattle.mvd_tree.proofs.bucket.Bucket.digest.Goals as goal

pub returns-then-is_empty-clause-digest : goal.returns-then-is_empty-clause-digest
returns-then-is_empty-clause-digest c =
    let es = c.self.inside.entries.items in
    let none : None ≡ kept_bucket es = search rules in
    none ∙ ap kept_bucket (sym (entries_of es c.args.self.now c.self.invariant.sorted c.self.view_is))

pub returns-clause-digest : goal.returns-clause-digest
returns-clause-digest c =
    let es = c.self.inside.entries.items in
    let some : Some (sha256 (flat_map (λ (e : Entry). e.1) es)) ≡ kept_bucket es = search rules in
    ap Some (c.finish.ensures.digest _ (subst (λ (l : List Entry). Absorbed c.read_all-hasher.result (flat_map (λ (e : Entry). e.1) l)) (take-length c.deref.result.now ∙ c.deref.ensures.value) c.read_all-hasher.ensures.read))
    ∙ some
    ∙ ap kept_bucket (sym (entries_of es c.args.self.now c.self.invariant.sorted c.self.view_is))

pub returns-clause-counts : goal.returns-clause-counts
returns-clause-counts c =
    let keys : length c.deref.result.now ≡ len c.args.self.now =
    ap length (c.deref.ensures.value ∙ sym (entries_of c.self.inside.entries.items c.args.self.now c.self.invariant.sorted c.self.view_is)) ∙ sym (len-entries c.args.self.now) in
    hashes_then _ _ _ _ _ _ _ _ _ (omega arith) (omega (arith, keys)) c.read_all-hasher.ensures.counts c.finish.ensures.counts
