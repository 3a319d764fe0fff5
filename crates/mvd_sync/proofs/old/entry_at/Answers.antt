use Rattle.std.proofs.Common.{◌≡◌, sym, ap, ◌∙◌, subst, arith}
use Rattle.mvd_dots.specs.Context.{IsEntryAt}
use Rattle.mvd_dots.proofs.EntryLists.{found_entry}
use Rattle.mvd_sync.proofs.Unseen.{no_entry}
use Rattle.mvd_sync.proofs.old.entry_at.Goals as goal

pub returns-then-entry-site-clause-found : goal.returns-then-entry-site-clause-found
returns-then-entry-site-clause-found c =
    let es = c.entries-entry-items.result.now in
    let of_set = c.entries-entry-items.ensures.of_set in
    let at : c.entry-item.result.site ≡ c.args.site = sym (ap (λ v. v.site) c.entry.view_is) ∙ c.if-entry-site.true in
    subst (λ s. IsEntryAt s c.args.site c.entry-item.result) of_set.same
    (found_entry es c.loop-entry.entry-index c.args.site c.entry-item.result of_set.form c.loop-entry-test.true c.entry-item.is at)

pub returns-clause-missing : goal.returns-clause-missing
returns-clause-missing c =
    no_entry c.args.seen.now c.entries-entry-items.result.now c.args.site c.entries-entry-items.ensures.of_set
    (λ k d h. c.loop-entry.invariant k d (omega (arith, c.loop-entry-test.false)))
