use Rattle.std.proofs.Common.{inl, [], subst, sym, ◌∙◌}
use Rattle.std.specs.Prelude.{IsTrue}
use Rattle.sqlite.proofs.InsideLemmas.{unchanged_keeps}
use Rattle.mvd_records.proofs.Calls.{found_ok, not_run, of_either}
use Rattle.mvd_records.proofs.Owned.{found_err}
use Rattle.mvd_records.proofs.statements.is_open.Goals as goal

pub returns-clause-open : goal.returns-clause-open
returns-clause-open g c clean told = found_ok c.prepare.result _ _ (λ _ it. it.1) (c.prepare.ensures.ok clean) (subst IsTrue c.is_ok.ensures.value told)

pub returns-clause-kept : goal.returns-clause-kept
returns-clause-kept g c clean = of_either c.prepare.result _ _ _ (λ _ it. unchanged_keeps _ _ (inl it.1)) (λ e it. not_run _ [] _ _ e (it [])) (c.prepare.ensures.ok clean) (c.prepare.ensures.err clean)

pub returns-clause-shut : goal.returns-clause-shut
returns-clause-shut g c clean told =
    let failed = found_err c.prepare.result _ (c.prepare.ensures.err clean) (sym c.is_ok.ensures.value ∙ told) in
    (failed.0, failed.1 [])
