use Rattle.mvd_replica.proofs.Batching.{fits_all}
use Rattle.mvd_replica.proofs.laws.replies_fit_their_frames.Goals as goal

pub returns : goal.returns
returns c = λ turns old new held all. fits_all turns old new held all
