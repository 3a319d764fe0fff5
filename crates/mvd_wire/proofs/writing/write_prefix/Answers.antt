use Rattle.mvd_wire.proofs.Fits.{prefix_fits}
use Rattle.mvd_wire.proofs.writing.write_prefix.Goals as goal

pub returns-clause-fits : goal.returns-clause-fits
returns-clause-fits c = prefix_fits c.args.value.now c.text.ensures.prefix

pub returns-in_err-push-clause-fits : goal.returns-in_err-push-clause-fits
returns-in_err-push-clause-fits c = prefix_fits c.args.value.now c.text.ensures.prefix

pub returns-in_err-extend_from_slice-clause-fits : goal.returns-in_err-extend_from_slice-clause-fits
returns-in_err-extend_from_slice-clause-fits c = prefix_fits c.args.value.now c.text.ensures.prefix
