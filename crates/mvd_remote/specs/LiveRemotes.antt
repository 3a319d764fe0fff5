-- A remote side over a live line.
use Rattle.std.specs.Prelude.{◌≡◌, ◌⊎◌, true, List, [], ◌∷◌, Option, Some, None, Result, Ok, Err, IfOk, OnOk}
use Rattle.mvd_dots.specs.declared.refusals.Refusal.{Refusal}
use Rattle.mvd_dots.specs.declared.refusals.Refusal.TheVariants.{Memory}
use Rattle.mvd_wire.specs.declared.reply.Reply.{Reply}
use Rattle.mvd_wire.specs.declared.reply.Reply.TheVariants.{Refused}
use Rattle.mvd_wire.specs.declared.request.Request.{Request}
use Rattle.mvd_wire.specs.Requests.{request_frame}
use Rattle.mvd_site.specs.Config.{ConfigValue}
use Rattle.mvd_site.specs.Held.{AreHeld, States}
use Rattle.mvd_peer.specs.Live.{Grows}
use Rattle.mvd_peer.specs.Telling.{TellsEach}
use Rattle.mvd_peer.specs.Windows.{leaves_open}
use Rattle.mvd_remote.specs.Lines.{IsReplyTaken, TrueReply, far_of}
use Rattle.mvd_remote.specs.LiveLines.{AnswersAt}
use Rattle.mvd_remote.specs.declared.line.Line.{Ghosts}
use Rattle.mvd_remote.specs.declared.remote.Remote.{Remote}

-- over a live line: no reply is awaited, unless its link refuses, and then with a refusal that leaves open what was
-- taken
pub record IsLiveRemote {L : Type 0} (is_live : L → Type 0) (awaits : L → List Request) (remote : Remote L) : Type 0 where
  pub line : is_live remote.line
  pub step : remote.refused ≡ None → awaits remote.line ≡ []
  pub own : (refusal : Refusal) → remote.refused ≡ Some refusal → leaves_open refusal ≡ true

-- what was told of a request that was answered at a moment, or that there is no memory for it
abbrev pub ToldAt : ConfigValue → Request → Result Reply Refusal → (old held : States) → Type 0
ToldAt config request told old held = (reply : Reply) × IsReplyTaken reply told × AnswersAt config request reply old held

-- where a reply is awaited, the first request is told of
abbrev pub TakesAwaited : ConfigValue → (awaited left : List Request) → (old new : States) → Result Reply Refusal
    → Type 0
TakesAwaited config [] left old new told = Unit {0}
TakesAwaited config (request ∷ later) left old new told =
    (left ≡ later) × (held : States) × ToldAt config request told old held × Grows held new

-- what a remote side takes from a live line, unless it breaks
pub record TookLive {L : Type 0} (line : Ghosts L) (old new : Remote L) (taken : Result Reply Refusal) : Type 0 where
  pub live : line.is_live new.line
  pub grows : Grows (far_of line.far old).states (far_of line.far new).states
  pub told : new.refused ≡ None → TakesAwaited (far_of line.far old).config (line.awaits old.line)
      (line.awaits new.line) (far_of line.far old).states (far_of line.far new).states taken
  pub own : (refusal : Refusal) → new.refused ≡ Some refusal → leaves_open refusal ≡ true

abbrev pub TakesLive : {L : Type 0} → Ghosts L → (old new : Remote L) → Result Reply Refusal → Type 0
TakesLive line old new told = line.is_live old.line → TookLive line old new told

-- ---- turns

-- in its turn a request is told of, if it has a frame; else why it has none
abbrev pub LiveTurn : ConfigValue → Option Refusal → (awaited left : List Request) → (old new : States)
    → Result Reply Refusal → Type 0
LiveTurn config None awaited left old new told = TakesAwaited config awaited left old new told
LiveTurn config (Some refusal) awaited left old new told = (told ≡ Err refusal) × (left ≡ awaited)

-- each in its turn, at a moment of its own, as long as replies are awaited
abbrev pub LiveTurns : ConfigValue → List (Option Refusal) → List (Result Reply Refusal) → (awaited left : List Request)
    → States → List States → States → Type 0
LiveTurns config [] [] awaited left old [] new = (left ≡ awaited) × Grows old new
LiveTurns config (None ∷ nones) (told ∷ replies) [] left old moments new = Unit {0}
LiveTurns config (None ∷ nones) (told ∷ replies) (request ∷ later) left old (held ∷ moments) new =
    ToldAt config request told old held × LiveTurns config nones replies later left held moments new
LiveTurns config (Some refusal ∷ nones) (told ∷ replies) awaited left old (held ∷ moments) new = (told ≡ Err refusal)
    × (AreHeld held × Grows old held) × LiveTurns config nones replies awaited left held moments new
LiveTurns config nones replies awaited left old moments new = ⊥

-- one turn over a live line, or the link broke
pub record TookTurn {L : Type 0} (line : Ghosts L) (none : Option Refusal) (old new : Remote L)
    (result : Result (Result Reply Refusal) Refusal) : Type 0 where
  pub live : line.is_live new.line
  pub grows : Grows (far_of line.far old).states (far_of line.far new).states
  pub told : IfOk result (LiveTurn (far_of line.far old).config none (line.awaits old.line) (line.awaits new.line)
      (far_of line.far old).states (far_of line.far new).states)
  pub unsure : (refusal : Refusal) → new.refused ≡ Some refusal → leaves_open refusal ≡ true

-- turns over a live line, or the link broke
pub record TookLiveTurns {L : Type 0} (line : Ghosts L) (nones : List (Option Refusal))
    (replies : List (Result Reply Refusal)) (old new : Remote L) (result : Result (Unit {0}) Refusal) : Type 0 where
  pub live : line.is_live new.line
  pub grows : Grows (far_of line.far old).states (far_of line.far new).states
  pub told : OnOk result ((moments : List States) × LiveTurns (far_of line.far old).config nones replies
      (line.awaits old.line) (line.awaits new.line) (far_of line.far old).states moments (far_of line.far new).states)
  pub unsure : (refusal : Refusal) → new.refused ≡ Some refusal → leaves_open refusal ≡ true

-- ---- what is answered

-- what is told of a request at a moment: the reply of a faithful side; or it has no frame, or there is no memory
abbrev pub ToldLive : ConfigValue → States → Request → Result Reply Refusal → Type 0
ToldLive config held request (Ok reply) = (before : States) × AreHeld before × TrueReply config before request reply held
ToldLive config held request (Err refusal) = (request_frame request ≡ Err refusal) ⊎ (refusal ≡ Memory)

-- an answer of a window at a moment
abbrev pub SettlesLive : {A : Type 0} → (A → Reply) → ConfigValue → States → Request → Result A Refusal → Type 0
SettlesLive as_reply config held request (Ok answer) =
    (before : States) × AreHeld before × TrueReply config before request (as_reply answer) held
SettlesLive as_reply config held request (Err refusal) =
    ((before : States) × AreHeld before × TrueReply config before request (Refused refusal) held)
    ⊎ (request_frame request ≡ Err refusal)

-- an answer of one question at a moment, or what leaves it open
abbrev pub AnswersLive : {A : Type 0} → (A → Reply) → ConfigValue → States → Request → Result A Refusal → Type 0
AnswersLive as_reply config held request (Ok answer) =
    (before : States) × AreHeld before × TrueReply config before request (as_reply answer) held
AnswersLive as_reply config held request (Err refusal) =
    ((before : States) × AreHeld before × TrueReply config before request (Refused refusal) held)
    ⊎ ((request_frame request ≡ Err refusal) ⊎ (leaves_open refusal ≡ true))

-- WHAT A REMOTE SIDE ASKS OVER A LIVE LINE is answered at a moment
abbrev pub AsksLive : {L A : Type 0} → Ghosts L → Request → (A → Reply) → (old new : Remote L) → Result A Refusal
    → Type 0
AsksLive line request as_reply old new result = IsLiveRemote line.is_live line.awaits old
    → IsLiveRemote line.is_live line.awaits new × (held : States) × AreHeld held
    × Grows (far_of line.far old).states held × AnswersLive as_reply (far_of line.far old).config held request result
    × Grows held (far_of line.far new).states

-- A WINDOW OVER A LIVE LINE is answered so, each question at a moment of its own
abbrev pub EndsLive : {L V X : Type 0} → Ghosts L → (ConfigValue → States → Request → X → Type 0) → (V → List X)
    → List Request → (old new : Remote L) → Result V Refusal → Type 0
EndsLive line Told items requests old new result = IsLiveRemote line.is_live line.awaits old
    → IsLiveRemote line.is_live line.awaits new × IfOk result (λ told. (moments : List States)
    × TellsEach (Told (far_of line.far old).config) requests (items told) (far_of line.far old).states moments
    (far_of line.far new).states)
