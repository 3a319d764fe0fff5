-- What a connection keeps, and what of it is true.
use Rattle.std.specs.Prelude.{◌≡◌, ◌+◌, ◌*◌, ◌≤◌, ◌<◌, ◌⊎◌, ◌==◌, if◌then◌else◌, length, take, drop, map, flat_map, Some, None}
use Rattle.mvd_conn.specs.declared.connection.Connection.TheInside.{Inside}
use Rattle.mvd_conn.specs.History.{History, frame_most, waits_most}
use Rattle.mvd_conn.specs.Stands.{IsBounded, HistoryStands, frame_of}

abbrev pub history_of : Inside → History
history_of c = record {
  guard = c.guard;
  came = flat_map (λ r. drop r.1 r.0.items) c.reads.items;
  held = drop c.hand c.input.items;
  source = c.source;
  taken = map (λ r. frame_of (take r.1 r.0.items)) c.frames.items;
  hand = if c.hand == 0 then None else Some (frame_of (take c.hand c.input.items));
  behind = c.behind;
  brings = c.brings;
  answers = map (λ r. drop r.1 r.0.items) c.replies.items;
  last = c.last;
  left = flat_map (λ r. take r.1 r.0.items) c.writes.items;
  waits = c.output.items;
  failed = c.failed;
}

pub record IsKeptConnection (c : Inside) : Type 0 where
  pub stands : HistoryStands (history_of c)
  pub bounded : IsBounded (history_of c)
  pub count : c.count ≡ length (history_of c).taken
  pub due : c.due + length (history_of c).answers ≡ length (history_of c).taken
  pub hand : c.hand ≤ length c.input.items
  pub whole_hand : (c.hand ≡ 0) ⊎ (5 ≤ c.hand)
  -- each reply that is due counts as a short one at least, and so do those to all frames but the last
  pub each : 17 * c.due ≤ c.behind + c.brings
  pub others : 17 * c.due ≤ c.behind + 17
  pub few_behind : c.behind < waits_most
  pub few_brought : c.brings ≤ frame_most
  -- room for a short reply to each frame that is due, and for what tells of the end
  pub room : 17 * c.due ≤ c.output.spare
  pub last_room : c.last ≡ None → 17 * c.due + 6 ≤ c.output.spare
