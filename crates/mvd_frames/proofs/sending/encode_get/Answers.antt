use Rattle.mvd_wire.specs.Codecs.{key}
use Rattle.mvd_wire.proofs.Fits.{key_fits}
use Rattle.mvd_wire.proofs.SentFrames.{always, get_is_short}
use Rattle.mvd_frames.proofs.sending.encode_get.Goals as goal

pub returns-in_err-write_key-clause-short : goal.returns-in_err-write_key-clause-short
returns-in_err-write_key-clause-short c = get_is_short c.args.key.now c.write_key.ensures.key

pub returns-clause-fits : goal.returns-clause-fits
returns-clause-fits c = always c.measured.result (key.Fits c.args.key.now) (key_fits c.args.key.now c.write_key.ensures.key)

pub returns-clause-short : goal.returns-clause-short
returns-clause-short c = get_is_short c.args.key.now c.write_key.ensures.key

pub returns-in_err-frame-clause-short : goal.returns-in_err-frame-clause-short
returns-in_err-frame-clause-short c = get_is_short c.args.key.now c.text.ensures.key
