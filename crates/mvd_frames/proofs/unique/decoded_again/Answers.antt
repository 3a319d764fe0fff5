use Rattle.mvd_frames.proofs.ReplyLaws.{replies_again}
use Rattle.mvd_frames.proofs.RequestLaws.{requests_again}
use Rattle.mvd_frames.proofs.unique.decoded_again.Goals as goal

pub returns : goal.returns
returns c = record { requests = requests_again; replies = replies_again }
