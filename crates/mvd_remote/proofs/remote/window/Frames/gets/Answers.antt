use Rattle.mvd_wire.specs.declared.request.Request.TheVariants.{Get}
use Rattle.mvd_wire.specs.Requests.{request_frame}
use Rattle.mvd_remote.proofs.Lined.{spelled_more}
use Rattle.mvd_remote.proofs.Turns.{frames_more}
use Rattle.mvd_remote.proofs.remote.window.Frames.gets.Goals as goal

pub loop-key-preserved : goal.loop-key-preserved
loop-key-preserved c = record {
  window = frames_more (λ key. Get key) c.args.keys.now c.loop-key.key-index c.key-item.result c.loop-key.window c.add.new.self c.loop-key-test.true c.key-item.is c.loop-key.invariant.window (c.in_ok-add.ensures.added (request_frame (Get c.key-item.result)) c.encode_get.ensures.exact);
  spelled = spelled_more (λ key. Get key) (λ v. v.items) c.args.keys.now c.loop-key.key-index c.key-item.result c.encode_get.result c.loop-key-test.true c.key-item.is c.loop-key.invariant.spelled c.encode_get.ensures.exact c.encode_get.ensures.fits c.in_ok-add.ensures.some;
}
