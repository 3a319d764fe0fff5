use Rattle.mvd_wire.specs.declared.request.Request.TheVariants.{Push}
use Rattle.mvd_wire.specs.Requests.{request_frame}
use Rattle.mvd_remote.proofs.Lined.{spelled_more}
use Rattle.mvd_remote.proofs.LiveLined.{valid_more}
use Rattle.mvd_remote.proofs.Turns.{frames_more}
use Rattle.mvd_remote.proofs.remote.window.Frames.pushes.Goals as goal

pub loop-key-preserved : goal.loop-key-preserved
loop-key-preserved c = record {
  window = frames_more (λ pair. Push pair.0 pair.1) c.args.pairs.now c.loop-key.key-index c.loop-key-item.result c.loop-key.window c.add.new.self c.loop-key-test.true c.loop-key-item.is c.loop-key.invariant.window (c.in_ok-add.ensures.added (request_frame (Push c.loop-key-item.result.0 c.loop-key-item.result.1)) c.encode_push.ensures.exact);
  spelled = spelled_more (λ pair. Push pair.0 pair.1) (λ v. v.items) c.args.pairs.now c.loop-key.key-index c.loop-key-item.result c.encode_push.result c.loop-key-test.true c.loop-key-item.is c.loop-key.invariant.spelled c.encode_push.ensures.exact c.encode_push.ensures.fits c.in_ok-add.ensures.some;
  valid = valid_more c.args.pairs.now c.loop-key.key-index c.loop-key-item.result c.loop-key-test.true c.loop-key-item.is c.loop-key.invariant.valid c.context-seen.ensures.valid;
}
