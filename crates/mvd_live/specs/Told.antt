-- What a side tells of a window of questions while others write to it.
use Rattle.std.specs.Prelude.{◌≡◌, ℕ, List, [], Contains, Option, Some, None}
use Rattle.mvd_site.specs.Held.{States}
use Rattle.mvd_peer.specs.Live.{Grows}
pub use Rattle.mvd_peer.specs.Telling.{PageTold, StateTold, TellsEach, TellsNode, TellsPush}
use Rattle.mvd_peer.specs.Asking.{Wanted}
use Rattle.mvd_peer.specs.declared.window.Told.{Told}
use Rattle.mvd_peer.specs.declared.window.Told.TheVariants as told

-- ---- a window

-- nothing was answered
abbrev pub TellsNothing : States → List States → States → Type 0
TellsNothing old moments new = (moments ≡ []) × Grows old new

-- WHAT A LIVE SIDE TELLS of questions: an answer to each, or a refusal in place of them; nothing where none was asked
abbrev pub LiveTells : ℕ → Wanted → Option Told → States → List States → States → Type 0
LiveTells most w None = TellsNothing
LiveTells most w (Some (told.Nodes answers)) = TellsEach TellsNode w.nodes answers.items
LiveTells most w (Some (told.Pages answers)) = TellsEach PageTold w.pages answers.items
LiveTells most w (Some (told.States answers)) = TellsEach StateTold w.gets answers.items
LiveTells most w (Some (told.Pushes answers)) = TellsEach (TellsPush most) w.pushes answers.items
LiveTells most w (Some (told.Refused refusal)) = TellsNothing

-- so a side tells that holds just this all the while
abbrev pub TellsQuietly : ℕ → Wanted → Told → States → Type 0
TellsQuietly most w t held =
    (moments : List States) × LiveTells most w (Some t) held moments held
    × ((m : States) → Contains moments m → m ≡ held)
