use Rattle.mvd_rows.proofs.Counting.{within_given}
use Rattle.mvd_rows.proofs.InOrder.{page_as_long, page_is}
use Rattle.mvd_rows.proofs.index.Index.page.Goals as goal

pub returns-clause-page : goal.returns-clause-page
returns-clause-page c = λ visible is. page_is c.args.self.now visible c.args.start.now c.args.to.now _ _ _ is c.marks.ensures.ordered c.in_ok-marks.ensures.page c.in_ok-places.ensures.places

pub returns-clause-given : goal.returns-clause-given
returns-clause-given c = λ visible is.
    within_given _ _ _ _ (page_as_long c.args.self.now visible c.args.start.now c.args.to.now _ _ _ is c.marks.ensures.ordered c.in_ok-marks.ensures.page c.in_ok-places.ensures.places)
    c.in_ok-marks.ensures.given
