use Rattle.mvd_wire.specs.Codecs.{path}
use Rattle.mvd_wire.proofs.RowFits.{path_fits}
use Rattle.mvd_wire.proofs.SentFrames.{always}
use Rattle.mvd_frames.proofs.sending.encode_node.Goals as goal

pub returns-clause-fits : goal.returns-clause-fits
returns-clause-fits c = always c.measured.result (path.Fits c.args.path.now) (path_fits c.args.path.now c.write_path.ensures.path)
