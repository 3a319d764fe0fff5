use Rattle.mvd_docs.proofs.FittingNumbers.{whole_fits}
use Rattle.mvd_docs.proofs.document.whole_numbers_fit.Goals as goal

pub returns : goal.returns
returns c = whole_fits
