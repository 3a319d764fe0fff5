use Rattle.std.proofs.Common.{◌++◌, ap, arith, ◌∙◌}
use Rattle.mvd_rows.proofs.InConflict.{first_left}
use Rattle.mvd_rows.proofs.Paging.{page_ends, page_full}
use Rattle.mvd_rows.proofs.conflicts.Conflicts.page.Goals as goal

pub returns-in_default-clause-page : goal.returns-in_default-clause-page
returns-in_default-clause-page c =
    let taken = c.loop-taken.invariant.taken in
    page_ends _ _ (c.loop-taken.invariant.split ∙ ap (λ xs. c.loop-taken.keys.items ++ xs) c.in_default.ensures.item.0) (omega arith)

pub returns-clause-page : goal.returns-clause-page
returns-clause-page c =
    let taken = c.loop-taken.invariant.taken in
    page_full _ c.loop-taken.keys.items _ c.is_some-more.result c.loop-taken.invariant.split (omega arith) (c.is_some-more.ensures ∙ first_left c.loop-taken.walk.rest c.next-2.result _ c.next-2.ensures.item)
