use Rattle.std.proofs.Common.{arith, ap, sym, ◌∙◌, ◌++◌, length, is_gt, nat_lt}
use Rattle.mvd_rows.proofs.Paging.{page_ends, page_full, up_to_none, up_to_beyond, up_to_more, one_more_taken, more_left}
use Rattle.mvd_rows.proofs.Grouped.{same_ok}
use Rattle.mvd_rows.proofs.index.Index.marks.Goals as goal
use Rattle.mvd_rows.proofs.index.Index.marks.Goals.{in-Some-next, in-None}

pub returns-in_default-clause-page : goal.returns-in_default-clause-page
returns-in_default-clause-page c =
    let taken = c.loop-taken.invariant.taken in
    page_ends _ _ (c.loop-taken.invariant.split ∙ ap (λ xs. c.loop-taken.marks.items ++ xs) (up_to_none c.args.to.now _ c.in_default.ensures.item.0)) (omega arith)

pub returns-then-is_gt-clause-page : goal.returns-then-is_gt-clause-page
returns-then-is_gt-clause-page c =
    let taken = c.loop-taken.invariant.taken in
    page_ends _ _ (c.loop-taken.invariant.split ∙ ap (λ xs. c.loop-taken.marks.items ++ xs)
    (up_to_beyond c.args.to.now _ _ c.in-Some.mark.now c.in-Some.field-0-1.now c.in-Some.ensures.item (sym (ap is_gt c.cmp.ensures) ∙ sym c.if-is_gt.ensures))) (omega arith)

pub loop-taken-preserved : goal.loop-taken-preserved
loop-taken-preserved c =
    let taken = c.loop-taken.invariant.taken in
    let looks = c.loop-taken.invariant.looks in
    let updates = c.loop-taken.invariant.updates in
    let least_updates = c.loop-taken.invariant.least_updates in
    let least_looks = c.loop-taken.invariant.least_looks in
    let counts = c.in-Some.ensures.counts in
    let len = ap length c.in_ok-push.ensures.items in
    record {
      split = one_more_taken _ c.loop-taken.marks.items _ _ c.in-Some.mark.now c.in_ok-copy.field-0 _ c.loop-taken.invariant.split
          (up_to_more c.args.to.now _ _ c.in-Some.mark.now c.in-Some.field-0-1.now c.in-Some.ensures.item (sym (ap is_gt c.cmp.ensures) ∙ sym c.if-is_gt.ensures))
          c.in_ok-push.ensures.items (same_ok _ _ c.in_ok-copy.ensures);
      looks = grind arith;
      taken = grind arith;
      updates = grind arith;
      least_updates = grind arith;
      least_looks = grind arith;
    }

pub returns-clause-page : goal.returns-clause-page
returns-clause-page c =
    let taken = c.loop-taken.invariant.taken in
    page_full _ c.loop-taken.marks.items _ c.match-next-2.more c.loop-taken.invariant.split (omega arith)
    (elim c.match-next-2.branch [
      | in-Some-next w ↦ w.more-is ∙ more_left c.args.to.now _ _ w.in-Some-next.mark.now w.in-Some-next.field-0-1.now w.is_gt-in-Some-next.result w.in-Some-next.ensures.item (sym (ap is_gt w.cmp-in-Some-next.ensures) ∙ sym w.is_gt-in-Some-next.ensures)
      | in-None w ↦ w.more-is ∙ sym (ap (λ xs. nat_lt 0 (length xs)) (up_to_none c.args.to.now _ w.in-None.ensures.item.0))
    ])
