use Rattle.mvd_kept.proofs.Alike.{from_states, from_writes, known_alike, standing, still}
use Rattle.mvd_kept.proofs.laws.questions_are_answered_alike.Goals as goal

pub returns : goal.returns
returns c = record { writes = from_writes; states = from_states; standing = standing; known = known_alike; still = still }
