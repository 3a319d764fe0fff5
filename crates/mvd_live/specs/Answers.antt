-- What comes of a site that answers many clients, by mail or at hand.
use Rattle.std.specs.Prelude.{◌≡◌, ℕ, Bool, cond, List, [], ◌∷◌, Some, Ok, Result}
use Rattle.mvd_dots.specs.declared.refusals.Refusal.{Refusal}
use Rattle.mvd_wire.specs.Frames.{FrameValue, frame_at}
use Rattle.mvd_wire.specs.Replies.{reply_of}
use Rattle.mvd_wire.specs.Requests.{request_frame}
use Rattle.mvd_wire.specs.declared.reply.Reply.{Reply}
use Rattle.mvd_wire.specs.declared.request.Request.{Request}
use Rattle.mvd_site.specs.Config.{ConfigValue}
use Rattle.mvd_site.specs.Held.{AreHeld, States}
use Rattle.mvd_peer.specs.Live.{Grows}
use Rattle.mvd_remote.specs.Lines.{TrueReply}
use Rattle.mvd_remote.specs.LinkWindows.{IsKeptOf}

-- ONE SITE ANSWERS these requests in order, beside those of others: each has the reply of a faithful side, of what is
-- held then. From one to the next others write, and what is held only grows. The moments are those behind the replies
abbrev pub AnswersAmong : ConfigValue → List Request → List Reply → States → List States → States → Type 0
AnswersAmong config [] [] old [] new = Grows old new
AnswersAmong config (q ∷ qs) (r ∷ rs) old (held ∷ later) new =
    (before : States) × (AreHeld before × Grows old before) × (AreHeld held × Grows before held)
    × TrueReply config before q r held × AnswersAmong config qs rs held later new
AnswersAmong config qs rs old moments new = ⊥

-- the bytes are the frames of these replies, and the rest
abbrev pub AreReplyFrames : List Reply → List ℕ → List ℕ → Type 0
AreReplyFrames [] bytes rest = bytes ≡ rest
AreReplyFrames (r ∷ rs) bytes rest = (frame : FrameValue) × (next : List ℕ) × (frame_at bytes ≡ Ok (Some frame, next))
    × (reply_of frame.kind frame.payload ≡ Ok r) × AreReplyFrames rs next rest

-- these replies are kept, but for states that are dropped behind those that are held at once
abbrev pub AreKept : List Reply → List (Result Reply Refusal) → Type 0
AreKept [] [] = Unit {0}
AreKept (r ∷ rs) (kept ∷ more) = IsKeptOf (Ok r) kept × AreKept rs more
AreKept rs kept = ⊥

-- each request has a frame
abbrev pub HaveFrames : List Request → Type 0
HaveFrames [] = Unit {0}
HaveFrames (q ∷ qs) = ((frame : List ℕ) × (request_frame q ≡ Ok frame)) × HaveFrames qs

-- ---- one list of turns

-- a request that the site answered, and whether it is this client's
pub record SiteTurn : Type 0 where
  pub own : Bool
  pub asked : Request
  pub reply : Reply

-- THE SITE ANSWERS all clients, turn by turn, as a faithful side does, and from turn to turn what it holds only grows
abbrev pub SiteAnswers : ConfigValue → States → List SiteTurn → States → Type 0
SiteAnswers config old [] new = new ≡ old
SiteAnswers config old (turn ∷ turns) new = (mid : States) × (AreHeld mid × Grows old mid)
    × TrueReply config old turn.asked turn.reply mid × SiteAnswers config mid turns new

-- what this client asked, and what it was told
abbrev pub own_requests : List SiteTurn → List Request
own_requests [] = []
own_requests (turn ∷ turns) = cond turn.own (turn.asked ∷ own_requests turns) (own_requests turns)

abbrev pub own_replies : List SiteTurn → List Reply
own_replies [] = []
own_replies (turn ∷ turns) = cond turn.own (turn.reply ∷ own_replies turns) (own_replies turns)
