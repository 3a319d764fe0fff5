use Rattle.mvd_wire.proofs.Fits.{token_fits}
use Rattle.mvd_wire.proofs.writing.write_token.Goals as goal

pub returns-clause-fits : goal.returns-clause-fits
returns-clause-fits c = token_fits c.args.value.now c.bytes-bytes.ensures.short

pub returns-in_err-write_len16-clause-fits : goal.returns-in_err-write_len16-clause-fits
returns-in_err-write_len16-clause-fits c = token_fits c.args.value.now c.bytes-bytes.ensures.short

pub returns-in_err-extend_from_slice-clause-fits : goal.returns-in_err-extend_from_slice-clause-fits
returns-in_err-extend_from_slice-clause-fits c = token_fits c.args.value.now c.bytes-bytes.ensures.short
