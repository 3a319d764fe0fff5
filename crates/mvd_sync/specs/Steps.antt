-- What a session asks of a side at once.
use Rattle.std.specs.Prelude.{◌≤◌, ◌<◌, ℕ, List, length, take, sum_by, Option, Some, None}
use Rattle.mvd_keys.specs.State.{State}
use Rattle.mvd_keys.specs.Writes.{Key}
use Rattle.mvd_peer.specs.Asking.{Wanted}
use Rattle.mvd_peer.specs.declared.window.Window.{Window}
use Rattle.mvd_peer.specs.declared.window.Window.TheVariants.{Nodes, Pages, Gets, Pushes}
use Rattle.mvd_sync.specs.Questions.{push_bytes}

-- the first of the questions, as many as are left
abbrev pub cut_wanted : ℕ → Wanted → Wanted
cut_wanted left w = record {
  nodes = take left w.nodes;
  pages = take left w.pages;
  gets = take left w.gets;
  pushes = take left w.pushes;
}

-- pushes that may leave at once: one, or 1,048,576 bytes of frames
abbrev pub AreSmall : List (Key × State) → Type 0
AreSmall pairs = 1 < length pairs → sum_by push_bytes pairs ≤ 1048576

-- NO WINDOW IS EMPTY, AND NONE IS LARGE
abbrev pub IsBoundedWindow : Option Window → Type 0
IsBoundedWindow None = Unit {0}
IsBoundedWindow (Some (Nodes paths)) = (1 ≤ length paths.items) × (length paths.items ≤ 64)
IsBoundedWindow (Some (Pages pages)) = (1 ≤ length pages.items) × (length pages.items ≤ 64)
IsBoundedWindow (Some (Gets keys)) = (1 ≤ length keys.items) × (length keys.items ≤ 1000)
IsBoundedWindow (Some (Pushes pairs)) = (1 ≤ length pairs.items) × AreSmall pairs.items
