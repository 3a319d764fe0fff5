use Rattle.mvd_wire.specs.declared.request.Request.TheVariants.{Bucket}
use Rattle.mvd_wire.specs.Requests.{request_frame}
use Rattle.mvd_remote.proofs.Lined.{spelled_more}
use Rattle.mvd_remote.proofs.Turns.{frames_more}
use Rattle.mvd_remote.proofs.remote.window.Frames.pages.Goals as goal

pub loop-path-preserved : goal.loop-path-preserved
loop-path-preserved c = record {
  window = frames_more (λ q. Bucket q.0 q.1) c.args.asked.now c.loop-path.path-index c.loop-path-item.result c.loop-path.window c.add.new.self c.loop-path-test.true c.loop-path-item.is c.loop-path.invariant.window (c.in_ok-add.ensures.added (request_frame (Bucket c.loop-path-item.result.0 c.loop-path-item.result.1)) c.encode_bucket.ensures.exact);
  spelled = spelled_more (λ q. Bucket q.0 q.1) (λ v. v.items) c.args.asked.now c.loop-path.path-index c.loop-path-item.result c.encode_bucket.result c.loop-path-test.true c.loop-path-item.is c.loop-path.invariant.spelled c.encode_bucket.ensures.exact c.encode_bucket.ensures.fits c.in_ok-add.ensures.some;
}
