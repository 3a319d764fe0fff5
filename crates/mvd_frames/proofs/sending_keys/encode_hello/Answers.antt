use Rattle.mvd_wire.specs.Codecs.{token}
use Rattle.mvd_wire.proofs.Fits.{token_fits}
use Rattle.mvd_wire.proofs.SentFrames.{always, hello_is_short}
use Rattle.mvd_frames.proofs.sending_keys.encode_hello.Goals as goal

pub returns-in_err-write_token-clause-short : goal.returns-in_err-write_token-clause-short
returns-in_err-write_token-clause-short c = hello_is_short c.args.token.now c.write_token.ensures.fits

pub returns-clause-fits : goal.returns-clause-fits
returns-clause-fits c = always c.measured.result (token.Fits c.args.token.now) c.write_token.ensures.fits

pub returns-clause-short : goal.returns-clause-short
returns-clause-short c = hello_is_short c.args.token.now c.write_token.ensures.fits

pub returns-in_err-frame-clause-short : goal.returns-in_err-frame-clause-short
returns-in_err-frame-clause-short c = hello_is_short c.args.token.now (token_fits c.args.token.now c.bytes.ensures.short)
