use Rattle.mvd_wire.proofs.RowFits.{term_text_fits}
use Rattle.mvd_frames.proofs.row_writing.write_term_text.Goals as goal

pub returns-in_err-write_len16-clause-fits : goal.returns-in_err-write_len16-clause-fits
returns-in_err-write_len16-clause-fits c = term_text_fits c.args.value.now c.text.ensures.utf8 c.text.ensures.short

pub returns-in_err-extend_from_slice-clause-fits : goal.returns-in_err-extend_from_slice-clause-fits
returns-in_err-extend_from_slice-clause-fits c = term_text_fits c.args.value.now c.text.ensures.utf8 c.text.ensures.short

pub returns-clause-fits : goal.returns-clause-fits
returns-clause-fits c = term_text_fits c.args.value.now c.text.ensures.utf8 c.text.ensures.short
