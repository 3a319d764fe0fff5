use Rattle.std.proofs.Common.{arith}
use Rattle.mvd_wire.specs.Requests.{push}
use Rattle.mvd_wire.proofs.SentFrames.{always, push_is_short, push_fits}
use Rattle.mvd_frames.proofs.sending.encode_push.Goals as goal

pub returns-in_err-write_push-clause-short : goal.returns-in_err-write_push-clause-short
returns-in_err-write_push-clause-short c = push_is_short c.args.key.now c.args.state.now c.write_push.ensures.key

pub returns-clause-fits : goal.returns-clause-fits
returns-clause-fits c = always c.measured.result (push.Fits (c.args.key.now, c.args.state.now)) (push_fits c.args.key.now c.args.state.now c.write_push.ensures.key (c.state_length-length.ensures.fits (omega (arith, c.state_length-length.ensures.length, c.if-length-gt-STATE_LIMIT.false))))

pub returns-clause-short : goal.returns-clause-short
returns-clause-short c = push_is_short c.args.key.now c.args.state.now c.write_push.ensures.key

pub returns-in_err-frame-clause-short : goal.returns-in_err-frame-clause-short
returns-in_err-frame-clause-short c = push_is_short c.args.key.now c.args.state.now c.text.ensures.key
