use Rattle.mvd_wire.specs.declared.request.Request.TheVariants.{Node}
use Rattle.mvd_wire.specs.Requests.{request_frame}
use Rattle.mvd_remote.proofs.Lined.{spelled_more}
use Rattle.mvd_remote.proofs.Turns.{frames_more}
use Rattle.mvd_remote.proofs.remote.window.Frames.nodes.Goals as goal

pub loop-path-preserved : goal.loop-path-preserved
loop-path-preserved c = record {
  window = frames_more (λ path. Node path) c.args.paths.now c.loop-path.path-index c.path-item.result c.loop-path.window c.add.new.self c.loop-path-test.true c.path-item.is c.loop-path.invariant.window (c.in_ok-add.ensures.added (request_frame (Node c.path-item.result)) c.encode_node.ensures.exact);
  spelled = spelled_more (λ path. Node path) (λ v. v.items) c.args.paths.now c.loop-path.path-index c.path-item.result c.encode_node.result c.loop-path-test.true c.path-item.is c.loop-path.invariant.spelled c.encode_node.ensures.exact c.encode_node.ensures.fits c.in_ok-add.ensures.some;
}
