use Rattle.std.proofs.Common.{◌++◌, ap, arith, map, ◌∙◌}
use Rattle.mvd_rows.specs.Pages.{shown_entry}
use Rattle.mvd_rows.proofs.InRows.{first_left}
use Rattle.mvd_rows.proofs.Paging.{page_ends, page_full}
use Rattle.mvd_rows.proofs.views.View.some_rows.Goals as goal

pub returns-in_default-clause-page : goal.returns-in_default-clause-page
returns-in_default-clause-page c =
    let taken = c.loop-taken.invariant.taken in
    page_ends _ _ (c.loop-taken.invariant.split ∙ ap (λ xs. c.loop-taken.rows.items ++ map shown_entry xs) c.in_default.ensures.item.0) (omega arith)

pub returns-clause-page : goal.returns-clause-page
returns-clause-page c =
    let taken = c.loop-taken.invariant.taken in
    page_full _ c.loop-taken.rows.items _ c.is_some-more.result c.loop-taken.invariant.split (omega arith) (c.is_some-more.ensures ∙ first_left c.loop-taken.walk.rest c.next-2.result _ c.next-2.ensures.item)
