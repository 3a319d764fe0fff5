use Rattle.mvd_wire.specs.Codecs.{layout2, dot}
use Rattle.mvd_wire.specs.Replies.{refusal}
use Rattle.mvd_wire.proofs.Fits.{dot_fits}
use Rattle.mvd_wire.proofs.SentFrames.{always}
use Rattle.mvd_frames.proofs.sending.encode_reply.Goals as goal

pub returns-in-Written-clause-fits : goal.returns-in-Written-clause-fits
returns-in-Written-clause-fits c = rw c.in-Written.is (always c.encode_short.result ((dot layout2).Fits c.in-Written.dot) (dot_fits c.in-Written.dot c.written.ensures.valid))

pub returns-in-Refused-clause-fits : goal.returns-in-Refused-clause-fits
unfolding refusal
returns-in-Refused-clause-fits c = rw c.in-Refused.is (always c.encode_short-in-Refused.result (Unit {0}) tt)

pub returns-in-Rows-clause-exact : goal.returns-in-Rows-clause-exact
returns-in-Rows-clause-exact c = rw (c.in-Rows.is, ← c.as_slice-in-Rows.ensures) c.encode_page-in-Rows.ensures.exact
