use Rattle.mvd_wire.proofs.SentFrames.{bucket_is_short, conflicts_are_short, get_is_short, hello_is_short, keys_are_short, node_is_short, push_is_short, short_can_be_sent, state_can_be_sent}
use Rattle.mvd_frames.proofs.unique.can_be_sent.Goals as goal

pub returns : goal.returns
returns c = record { gets = get_is_short; nodes = node_is_short; buckets = bucket_is_short; keys = keys_are_short; conflicts = conflicts_are_short; hellos = hello_is_short; pushes = push_is_short; short = short_can_be_sent; states = state_can_be_sent }
