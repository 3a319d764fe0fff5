-- A side's turn to take what it is to take of the keys of a window.
use Rattle.std.specs.Prelude.{◌≡◌, List, [], length, drop, map, filter_map}
use Rattle.mvd_keys.specs.State.{State}
use Rattle.mvd_keys.specs.Writes.{Key}
use Rattle.mvd_sync.specs.Meetings.{pushed_pair, taken_from}
use Rattle.mvd_sync.specs.declared.meetings.Meeting.{Meeting}
use Rattle.mvd_sync.specs.declared.report.Side.{Side}
use Rattle.mvd_sync.specs.declared.turn.Turn.{Turn}

-- nothing was told yet of all that the side is to take of these keys
pub record BeginsTurn (side : Side) (meetings : List Meeting) (turn : Turn) : Type 0 where
  pub of_side : turn.side ≡ side
  pub keys : turn.meetings.items ≡ map (taken_from side) meetings
  pub takes : turn.pairs.items ≡ filter_map (pushed_pair side) meetings
  pub fresh : turn.told.items ≡ []

-- the turn of the same side, to take the same
pub record IsSameTurn (old new : Turn) : Type 0 where
  pub of_side : new.side ≡ old.side
  pub keys : new.meetings ≡ old.meetings
  pub takes : new.pairs ≡ old.pairs

-- what it is still to take
abbrev pub untold : Turn → List (Key × State)
untold turn = drop (length turn.told.items) turn.pairs.items
