-- How many questions a session asks a far side.
use Rattle.std.specs.Prelude.{◌≡◌, ◌+◌, ℕ, List, length}
use Rattle.mvd_keys.specs.Writes.{Key}
use Rattle.mvd_remote.specs.Lines.{told_of}
use Rattle.mvd_remote.specs.declared.remote.Remote.{Remote}
use Rattle.mvd_site.specs.Held.{States}
use Rattle.mvd_sync.specs.Session.{AreFewInAll, HasAllThatDiffer}

-- how many questions it was asked so far: what each was told is noted
abbrev pub questions : {L : Type 0} → Remote L → ℕ
questions remote = length (told_of remote)

-- A SESSION ASKS A SIDE FEW QUESTIONS: one, five for each key that differs, and one for each thousand keys that it
-- holds; and few of them again
pub record CountsFew (old new : ℕ) (mine theirs : States) : Type 0 where
  pub asked : ℕ
  pub counted : new ≡ old + asked
  pub few : (differing : List Key) → HasAllThatDiffer mine theirs differing → AreFewInAll asked theirs mine differing
