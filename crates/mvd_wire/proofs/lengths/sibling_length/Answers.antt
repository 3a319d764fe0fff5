use Rattle.mvd_keys.specs.State.{pair_of}
use Rattle.mvd_wire.proofs.Fits.{document_fits}
use Rattle.mvd_wire.proofs.Spellings.{length_sibling}
use Rattle.mvd_wire.proofs.lengths.sibling_length.Goals as goal

pub returns-clause-length : goal.returns-clause-length
returns-clause-length c = rw (length_sibling (pair_of c.args.sibling.now), ← c.text.ensures.same) c.saturating_add.ensures

pub returns-clause-fits : goal.returns-clause-fits
returns-clause-fits c = document_fits c.args.sibling.now.document c.text.ensures.document c.text.ensures.short
