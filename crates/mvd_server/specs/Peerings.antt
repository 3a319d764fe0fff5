-- The servers that a server meets.
use Rattle.std.specs.Prelude.{◌≡◌, ◌≤◌, ◌<◌, ◌⊎◌, ⊤, ◌+◌, ◌*◌, ◌-◌, ◌^◌, ℕ, Bool, true, false, List, min, Option, None, Some, IsSome, IsSomeAnd}
use Rattle.std.specs.List.{All, sum_by}
use Rattle.std.specs.Duration.{as_nanos}
use Rattle.std.specs.declared.time.Duration.{Duration}
use Rattle.mvd_meet.specs.Callers.{questions_at}
use Rattle.mvd_meet.specs.Inboxes.{awaits_pushes}
use Rattle.mvd_meet.specs.Nears.{asked_near, asked_of_near}
use Rattle.mvd_meet.specs.Loans.{over_at}
use Rattle.mvd_meet.specs.Times.{due_of, news_at, pause_after}
use Rattle.mvd_meet.specs.declared.pace.Met.{Met}
use Rattle.mvd_meet.specs.declared.pace.Met.TheVariants.{Failed}
use Rattle.mvd_meet.specs.declared.schedule.Author.{Author}
use Rattle.mvd_meet.specs.declared.schedule.Author.TheVariants.{Others, Session}
use Rattle.mvd_meet.specs.declared.schedule.Schedule.{Schedule}
use Rattle.mvd_server.specs.OwnSides.{IsFreshSession}
use Rattle.mvd_server.specs.PeerLinks.{is_rest}
use Rattle.mvd_server.specs.declared.own_session.OwnSession.{OwnSession}
use Rattle.mvd_server.specs.declared.peer_link.PeerLink.{PeerLink}
use Rattle.mvd_server.specs.declared.peering.Peering.{Peering}

-- ---- places

-- a session has one of the places for those that go on
abbrev pub has_place : Option OwnSession → Bool
has_place None = false
has_place (Some session) = session.runs

abbrev pub count_if : Bool → ℕ
count_if true = 1
count_if false = 0

abbrev pub places_of : Peering → ℕ
places_of peering = count_if (has_place peering.session)

-- as many sessions have a place
abbrev pub places_taken : List Peering → ℕ
places_taken peers = sum_by places_of peers

-- A PLACE IS TAKEN only where one is free: those taken and those free are no more than before
abbrev pub SwapsPlaces : Bool → ℕ → Bool → ℕ → Type 0
SwapsPlaces had free has free' = count_if has + free' ≤ count_if had + free

abbrev pub TakesFree : Peering → ℕ → Peering → ℕ → Type 0
TakesFree old free new free' = SwapsPlaces (has_place old.session) free (has_place new.session) free'

-- none is taken
abbrev pub TakesNoPlace : Peering → Peering → Type 0
TakesNoPlace old new = places_of new ≤ places_of old

-- A SESSION GOES ON only where it has a place, or one is free
abbrev pub StaysWithout : Peering → ℕ → Peering → Type 0
StaysWithout old free new = has_place old.session ≡ false → free ≡ 0 → new.session ≡ old.session

-- nothing is read of the peer until its session has a place again
abbrev is_held_in : Option PeerLink → Bool
is_held_in None = false
is_held_in (Some link) = link.is_held

-- so where its session gave its place up
abbrev pub HoldsBack : Peering → Peering → Type 0
HoldsBack old new = has_place old.session ≡ true → has_place new.session ≡ false → is_held_in new.link ≡ true

abbrev pub IsLentOver : ℕ → Option PeerLink → Bool → Type 0
IsLentOver now None has = ⊤
IsLentOver now (Some link) has = has ≡ true → now < over_at link.loan

-- IT HAS A PLACE only as long as that is lent
abbrev pub IsLentAt : ℕ → Peering → Type 0
IsLentAt now peering = IsLentOver now peering.link (has_place peering.session)

-- ---- times

-- no connection is there, or one over which nothing is asked
abbrev pub is_resting : Option PeerLink → Bool
is_resting None = true
is_resting (Some link) = is_rest link.stage

-- of no peer, of which nothing is asked, the server would look after it too late: it does so by this time
abbrev pub LooksInTime : List Peering → Option ℕ → Type 0
LooksInTime peers time =
    All (λ peering. is_resting peering.link ≡ true → IsSomeAnd time (λ due. due ≤ due_of peering.schedule)) peers

-- so where it waits for as long from now on
abbrev pub WakesInTime : List Peering → ℕ → Option Duration → Type 0
WakesInTime peers now pause = All (λ peering. is_resting peering.link ≡ true →
    IsSomeAnd pause (λ time. as_nanos time ≤ (due_of peering.schedule - now) * 1000000)) peers

-- a session ended so at a time
pub record EndsMeeting (ended : Met) (now : ℕ) (old new : Schedule) : Type 0 where
  pub next : new.next ≡ min (now + 1000 * pause_after ended old.pace old.every) (2 ^ 64 - 1)
  pub pace : new.pace ≡ record { last = ended; pause = pause_after ended old.pace old.every }
  pub news : new.news ≡ old.news
  pub every : new.every ≡ old.every

-- a session begins, and takes what changed before
pub record BeginsMeeting (number : ℕ) (old new : Peering) : Type 0 where
  pub session : IsSomeAnd new.session (IsFreshSession number)
  pub schedule : new.schedule ≡ record old.schedule { news = None }

-- a connection was kept since the session before, and nothing came over it since
pub record IsCut (link : PeerLink) : Type 0 where
  pub kept : link.is_kept ≡ true
  pub unheard : link.has_heard ≡ false

-- a session may go on over another connection at once: it was cut so, or it asked as many questions as may be
abbrev pub MayGoOn : PeerLink → OwnSession → Type 0
MayGoOn link session = IsCut link ⊎ (500000 ≤ questions_at link.far) ⊎ (500000 ≤ asked_near session.near)

abbrev pub MayTryAgain : Option PeerLink → Option OwnSession → Type 0
MayTryAgain (Some link) (Some session) = MayGoOn link session
MayTryAgain link session = ⊥

-- A SESSION FAILED; or it is tried again at once, where it may be
abbrev pub FailsMeeting : ℕ → Peering → Schedule → Type 0
FailsMeeting now old new = EndsMeeting Failed now old.schedule new
    ⊎ (MayTryAgain old.link old.session × (new ≡ record old.schedule { next = 0 }))

-- who made a change of this server's site: where the session pushes into it, perhaps that alone
abbrev author_if : Bool → Author
author_if true = Session
author_if false = Others

abbrev pub author_of : Option OwnSession → Author
author_of None = Others
author_of (Some session) = author_if (awaits_pushes (asked_of_near session.near))

-- something changed, or not
abbrev pub HearsNews : Bool → Author → ℕ → Schedule → Schedule → Type 0
HearsNews false author now old new = new.news ≡ old.news
HearsNews true author now old new = new.news ≡ news_at author old.news now

-- ALL OF THEM are met for a change
abbrev pub HaveNews : List Peering → Type 0
HaveNews peers = All (λ peering. IsSome peering.schedule.news) peers
