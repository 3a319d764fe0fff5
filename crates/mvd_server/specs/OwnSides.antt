-- The side of a session that is this server's own site: it is asked at hand.
use Rattle.std.specs.Prelude.{◌≡◌, ◌⊎◌, ◌++◌, ℕ, false, List, [], Option, None, Some, Result}
use Rattle.mvd_dots.specs.declared.refusals.Refusal.{Refusal}
use Rattle.mvd_host.specs.AtHand.{AllMayWait, AtHandValue, asked_by_one, asks_of}
use Rattle.mvd_meet.specs.Meetings.{OpensMeeting}
use Rattle.mvd_meet.specs.Nears.{FewAreOut, NearGoesOn, asked_of_near, next_at, replies_at, requests_at}
use Rattle.mvd_meet.specs.declared.near.Near.{Near}
use Rattle.mvd_server.specs.Talking.{AreOfSession, ComesOwn, DoesAct, talking_of}
use Rattle.mvd_server.specs.declared.own_session.OwnSession.{OwnSession}
use Rattle.mvd_server.specs.declared.talks.Talks.{Talks}
use Rattle.mvd_wire.specs.declared.reply.Reply.{Reply}
use Rattle.mvd_wire.specs.declared.request.Request.{Request}

-- a number is given to one of this server's own sessions; or nothing changes
abbrev pub AdmitsOwn : Talks → Option ℕ → Talks → Type 0
AdmitsOwn old None new = new ≡ old
AdmitsOwn old (Some n) new = DoesAct (ComesOwn n) (talking_of old) (talking_of new)

-- a side that was asked nothing, and of which nothing came
pub record IsUnasked (near : Near) : Type 0 where
  pub leaving : requests_at near ≡ []
  pub came : replies_at near ≡ []
  pub asked : asked_of_near near ≡ None

-- a session of a site of this number, in which nothing was asked, and which has no place
pub record IsFreshSession (number : ℕ) (session : OwnSession) : Type 0 where
  pub near : IsUnasked session.near
  pub meeting : OpensMeeting number 10000000 session.meeting
  pub waits : session.runs ≡ false

-- a session begins with a number of its own; or all were given
abbrev pub BeginsOwn : ℕ → Talks → Option OwnSession → Talks → Type 0
BeginsOwn number old None new = new ≡ old
BeginsOwn number old (Some session) new = AdmitsOwn old (Some session.client) new × IsFreshSession number session

-- all of these are asked at hand, and are gone then; or there is no memory for that, and none is
pub record AsksRequests (n : ℕ) (old : List Request) (hand : AtHandValue) (new : List Request) (hand' : AtHandValue)
    : Type 0 where
  pub are : AreOfSession old
  pub may : AllMayWait (asks_of n old)
  pub asks : hand' ≡ asked_by_one hand n old
  pub gone : new ≡ []

abbrev pub HandsRequests : ℕ → List Request → AtHandValue → List Request → AtHandValue → Type 0
HandsRequests n old hand new hand' = AsksRequests n old hand new hand' ⊎ ((new ≡ old) × (hand' ≡ hand))

-- THE NEXT REQUESTS of a session are asked at hand, or none is; at most 64 are out, but all pushes of a window
pub record HandsNext (n : ℕ) (old : Near) (hand : AtHandValue) (new : Near) (hand' : AtHandValue) : Type 0 where
  pub mid : Near
  pub goes : NearGoesOn old mid
  pub few : FewAreOut mid
  pub hands : HandsRequests n (next_at mid) hand (next_at new) hand'
  pub same : new ≡ record mid { leaving = new.leaving }

abbrev pub HandsOn : ℕ → Near → AtHandValue → Near → AtHandValue → Type 0
HandsOn n old hand new hand' = HandsNext n old hand new hand' ⊎ ((new ≡ old) × (hand' ≡ hand))

-- A FRONT OF THE REQUESTS is handed on, and replies come behind those that came
pub record MovesAtHand (old new : Near) : Type 0 where
  pub left : List Request
  pub more : List (Result Reply Refusal)
  pub leaving : requests_at old ≡ left ++ requests_at new
  pub came : replies_at new ≡ replies_at old ++ more
  pub asked : asked_of_near new ≡ asked_of_near old
