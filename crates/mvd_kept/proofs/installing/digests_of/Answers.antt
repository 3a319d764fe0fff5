use Rattle.std.proofs.Common.{◌≡◌, ◌∙◌, ◌+◌, ◌-◌, ◌∷◌, ap₂, sym, subst, arith, drop}
use Rattle.mvd_kept.specs.Installs.{HashesChanges, last_changes}
use Rattle.mvd_kept.specs.Lasts.{Gathers}
use Rattle.mvd_kept.specs.declared.prepared.Prepared.TheVariants.{Change}
use Rattle.mvd_kept.proofs.LastChanges.{group_next, hashes_part}
use Rattle.mvd_kept.proofs.installing.digests_of.Goals as goal

pub going-preserved-in-Continue-1 : goal.going-preserved-in-Continue-1
going-preserved-in-Continue-1 c =
    let group = c.args.group.now in
    let i = c.going.left - 1 in
    let item = c.index-group-left.result in
    let at : i + 1 ≡ c.going.left = omega arith in
    let here : drop i group ≡ Change c.in-Change.change ∷ drop c.going.left group =
    group_next group i item (omega arith) c.index-group-left.is ∙ ap₂ (λ p n. p ∷ drop n group) c.in-Change.is at in
    let later = drop c.going.left group in
    record {
      within = omega arith;
      gathers = subst (Gathers c.add.new.self) (sym here) (c.in_ok-add.ensures.gathers later c.going.invariant.gathers);
      counts = subst (λ l. HashesChanges (last_changes l) c.args.hashed.now c.add.new.hashed) (sym here) (c.add.ensures.counts c.args.hashed.now later c.going.invariant.gathers c.going.invariant.counts);
    }

pub returns-in_err-add-clause-counts : goal.returns-in_err-add-clause-counts
returns-in_err-add-clause-counts c =
    let group = c.args.group.now in
    let i = c.going.left - 1 in
    let item = c.index-group-left.result in
    let at : i + 1 ≡ c.going.left = omega arith in
    let here : drop i group ≡ Change c.in-Change.change ∷ drop c.going.left group =
    group_next group i item (omega arith) c.index-group-left.is ∙ ap₂ (λ p n. p ∷ drop n group) c.in-Change.is at in
    hashes_part i group c.args.hashed.now c.add.new.hashed
    (subst (λ l. HashesChanges (last_changes l) c.args.hashed.now c.add.new.hashed) (sym here)
    (c.add.ensures.counts c.args.hashed.now (drop c.going.left group) c.going.invariant.gathers c.going.invariant.counts))
