use Rattle.std.proofs.Common.{◌∙◌, ap, sym, subst}
use Rattle.std.specs.Prelude.{IfOk}
use Rattle.mvd_replica.specs.Adding.{CountsAdded, adds_of, adds_one}
use Rattle.mvd_replica.proofs.AddedKeys.{counts_nothing}
use Rattle.mvd_replica.proofs.adding.keys_added.Goals as goal

pub returns-in-Change-clause-counts : goal.returns-in-Change-clause-counts
returns-in-Change-clause-counts c =
    let site = c.args.site.now in
    subst (λ n. IfOk c.added_by.result (CountsAdded site n)) (ap (adds_one site.states) c.key.ensures ∙ sym (ap (adds_of site.states) c.in-Change.is)) c.added_by.ensures.counts

pub returns-in-Answer-clause-counts : goal.returns-in-Answer-clause-counts
returns-in-Answer-clause-counts c =
    let site = c.args.site.now in
    subst (λ n. CountsAdded site n 0) (sym (ap (adds_of site.states) c.in-Answer.is)) (counts_nothing site)
