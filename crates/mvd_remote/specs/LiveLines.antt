-- A line to a far side to which others write meanwhile.
use Rattle.std.specs.Prelude.{◌≡◌, ℕ, List, [], ◌∷◌, ◌++◌, Option, IfSome, Result, Ok, IfOk, OnOk}
use Rattle.mvd_dots.specs.declared.refusals.Refusal.{Refusal}
use Rattle.mvd_wire.specs.declared.frame.Frame.{Frame}
use Rattle.mvd_wire.specs.declared.reply.Reply.{Reply}
use Rattle.mvd_wire.specs.declared.request.Request.{Request}
use Rattle.mvd_wire.specs.Frames.{FrameValue, frame_value}
use Rattle.mvd_wire.specs.Replies.{reply_of}
use Rattle.mvd_site.specs.Config.{ConfigValue}
use Rattle.mvd_site.specs.Held.{AreHeld, States}
use Rattle.mvd_peer.specs.Live.{Grows}
use Rattle.mvd_remote.specs.Lines.{AreRequestFrames, Far, TrueReply}

-- ---- what goes out and what comes in

-- a request was answered at this moment: the reply is that of a faithful side to what it held just before, and by then
-- others may have written
pub record AnswersAt (config : ConfigValue) (request : Request) (reply : Reply) (old held : States) : Type 0 where
  pub before : States
  pub was : AreHeld before × Grows old before
  pub is : AreHeld held × Grows before held
  pub so : TrueReply config before request reply held

-- frames of requests went out over a live line: what its far side holds only grew, and where all of them went out their
-- replies are awaited after those that were
abbrev pub SendsLive : {L : Type 0} → (L → Type 0) → (L → List Request) → (L → Far) → List ℕ → (old new : L)
    → Result (Unit {0}) Refusal → Type 0
SendsLive is_live awaits far bytes old new result = is_live old → is_live new × Grows (far old).states (far new).states
    × ((requests : List Request) → AreRequestFrames requests bytes
    → OnOk result (awaits new ≡ awaits old ++ requests))

-- the frame that came spells the reply to the first request whose reply is awaited, as it was answered at a moment
abbrev pub IsNextAnswer : ConfigValue → (awaited left : List Request) → (old new : States) → FrameValue → Type 0
IsNextAnswer config [] left old new frame = Unit {0}
IsNextAnswer config (request ∷ later) left old new frame = (left ≡ later)
    × (reply : Reply) × (reply_of frame.kind frame.payload ≡ Ok reply)
    × (held : States) × AnswersAt config request reply old held × Grows held new

-- what came over a live line: what its far side holds only grew
abbrev pub ReadsLive : {L : Type 0} → (L → Type 0) → (L → List Request) → (L → Far) → (old new : L)
    → Result (Option Frame) Refusal → Type 0
ReadsLive is_live awaits far old new result = is_live old → is_live new × Grows (far old).states (far new).states
    × IfOk result (λ came. IfSome came (λ frame.
    IsNextAnswer (far old).config (awaits old) (awaits new) (far old).states (far new).states (frame_value frame)))
