-- What goes on with a peer, session by session, and what is told of it.
use Rattle.std.specs.Prelude.{◌≡◌, ◌<◌, ◌⊎◌, ℕ, Bool, true, false, List, [], length, get_or, set, Option, None, Some}
use Rattle.std.specs.Prelude.{MatchResult, Result, not, string_bytes}
use Rattle.std.specs.declared.net.socket_addr.SocketAddr.{SocketAddr}
use Rattle.mvd_dots.specs.declared.refusals.Refusal.{Refusal}
use Rattle.mvd_meet.specs.Meetings.{MeetingSteps, ReportsOn}
use Rattle.mvd_meet.specs.declared.caller.Caller.{Caller}
use Rattle.mvd_meet.specs.declared.near.Near.{Near}
use Rattle.mvd_meet.specs.declared.stepping.Course.{Course}
use Rattle.mvd_meet.specs.declared.stepping.Course.TheVariants as course
use Rattle.mvd_meet.specs.declared.stepping.Meeting.{Meeting}
use Rattle.mvd_server.specs.OwnSides.{IsFreshSession, MovesAtHand}
use Rattle.mvd_server.specs.Paths.{Path}
use Rattle.mvd_server.specs.PeerNews.{TellsIf, again_text, failed_text, is_due, noted_unless, peer_text, told_at}
use Rattle.mvd_server.specs.declared.crowd.Crowd.{Crowd}
use Rattle.mvd_server.specs.declared.own_session.OwnSession.{OwnSession}
use Rattle.mvd_server.specs.declared.peer_link.PeerLink.{PeerLink}
use Rattle.mvd_server.specs.declared.peer_news.Setting.{Setting}
use Rattle.mvd_server.specs.declared.peer_news.Untold.{Untold}
use Rattle.mvd_server.specs.declared.peer_turn.Went.{Went}
use Rattle.mvd_server.specs.declared.peer_turn.Went.TheVariants as went
use Rattle.mvd_server.specs.declared.peering.Peering.{Peering}
use Rattle.mvd_sync.specs.declared.report.Report.{Report}
use Rattle.mvd_sync.specs.declared.stage.Stage.TheVariants.{Done}

-- ---- a session

-- the client at hand that asks for it, this server's own side, and what goes on between the two
pub record Sitting : Type 0 where
  pub client : ℕ
  pub near : Near
  pub meeting : Meeting

abbrev pub sitting : OwnSession → Sitting
sitting session = record { client = session.client; near = session.near; meeting = session.meeting }

abbrev pub sitting_of : Option OwnSession → Option Sitting
sitting_of None = None
sitting_of (Some session) = Some (sitting session)

-- its machine is done
abbrev pub IsDone : Sitting → Type 0
IsDone s = s.meeting.machine.stage ≡ Done

-- A STEP is one of its machine, with this far side; its client stays
pub record SittingSteps (old : Sitting) (far : Caller) (new : Sitting) (far' : Caller) (course : Course) : Type 0 where
  pub steps : MeetingSteps old.meeting old.near far new.meeting new.near far' course
  pub client : new.client ≡ old.client

-- nothing is done, or something is asked; or it is done, and handed out
abbrev pub SessionWent : Option Sitting → Caller → Option Sitting → Caller → Went → Type 0
SessionWent old far new far' went.Waits = (new ≡ old) × (far' ≡ far)
SessionWent old far new far' went.Asks =
    (a : Sitting) × (b : Sitting) × (old ≡ Some a) × (new ≡ Some b) × SittingSteps a far b far' course.Asks
SessionWent old far new far' (went.Done session) =
    (a : Sitting) × (old ≡ Some a) × (new ≡ None) × SittingSteps a far (sitting session) far' course.Done

-- the far side is that of the peer's connection
abbrev pub WentOver : Peering → Peering → Went → Type 0
WentOver old new went = (link : PeerLink) × (link' : PeerLink) × (old.link ≡ Some link) × (new.link ≡ Some link')
    × SessionWent (sitting_of old.session) link.far (sitting_of new.session) link'.far went

abbrev pub PeerWent : Peering → Peering → Went → Type 0
PeerWent old new went.Waits = sitting_of new.session ≡ sitting_of old.session
PeerWent old new went = WentOver old new went

-- ---- a peer

-- this site's number, whether what is exchanged is not told, whether the server is to end, and the time; of the peer
-- its address, the session with it, what was exchanged and is to be told, and whether the last session failed; and all
-- that was told
pub record PeerSaid : Type 0 where
  pub number : ℕ
  pub quiet : Bool
  pub ending : Bool
  pub now : ℕ
  pub address : SocketAddr
  pub session : Option Sitting
  pub untold : Untold
  pub failing : Bool
  pub told : List ℕ

abbrev pub said_by : Peering → Setting → Crowd → PeerSaid
said_by peering setting crowd = record {
  number = setting.number;
  quiet = setting.is_quiet;
  ending = setting.is_ending;
  now = crowd.now;
  address = peering.address;
  session = sitting_of peering.session;
  untold = peering.untold;
  failing = peering.is_failing;
  told = string_bytes crowd.told;
}

-- A session that is DONE is told of by what its machine reports, and that the one before failed, if it did
pub record PeerDone (s : Sitting) (old new : PeerSaid) : Type 0 where
  pub is : IsDone s
  pub report : Report
  pub reports : ReportsOn s.meeting report
  pub again : TellsIf old.failing (again_text old.address) old.told new.told
  pub rest : new ≡ record old {
    session = None;
    untold = noted_unless old.quiet report old.untold;
    failing = false;
    told = new.told;
  }

-- IT FAILS by a refusal, as does the connection: that is told, unless the one before failed too; or it is tried again
pub data PeerFails (refusal : Refusal) (old new : PeerSaid) : Type 0 where
  tells_why : TellsIf (not old.failing) (failed_text old.address refusal) old.told new.told
      → new ≡ record old { session = None; failing = true; told = new.told } → PeerFails refusal old new
  again : new ≡ record old { session = None } → PeerFails refusal old new

-- A SESSION BEGINS, in which nothing was asked; it takes a step; its requests are handed to this server's own site, or
-- replies come of that; it is done, and told of; it fails; or it ends where the server is to end. And what was exchanged
-- is told, once it may be. Nothing else is told
pub data PeerDoes (old new : PeerSaid) : Type 0 where
  begins : (session : OwnSession) → IsFreshSession old.number session
      → new ≡ record old { session = Some (sitting session) } → PeerDoes old new
  steps : (a b : Sitting) (far far' : Caller) (course : Course) → old.session ≡ Some a
      → SittingSteps a far b far' course → new ≡ record old { session = Some b } → PeerDoes old new
  moves : (a b : Sitting) → old.session ≡ Some a → b.client ≡ a.client → b.meeting ≡ a.meeting
      → MovesAtHand a.near b.near → new ≡ record old { session = Some b } → PeerDoes old new
  done : (s : Sitting) → old.session ≡ Some s → PeerDone s old new → PeerDoes old new
  fails : (refusal : Refusal) → PeerFails refusal old new → PeerDoes old new
  leaves : old.ending ≡ true → new ≡ record old { session = None } → PeerDoes old new
  tells : TellsIf (is_due old.now old.untold) (peer_text old.address old.untold) old.told new.told
      → new ≡ record old { untold = told_at old.now old.untold; told = new.told } → PeerDoes old new

-- ONE AFTER THE OTHER
abbrev pub PeerSays : PeerSaid → PeerSaid → Type 0
PeerSays old new = Path PeerDoes old new

-- so it went, and then a step failed, or the connection
pub record PeerBreaks (old new : PeerSaid) : Type 0 where
  pub mid : PeerSaid
  pub says : PeerSays old mid
  pub broke : new ≡ record mid { session = new.session }

abbrev pub PeerGoes : Result Bool Refusal → PeerSaid → PeerSaid → Type 0
PeerGoes result old new = MatchResult result (λ _. PeerSays old new) (λ _. PeerBreaks old new)

-- ---- all peers

-- the peers, what holds for all, and the clients, with the time and what was told
pub record PeersSaid : Type 0 where
  pub list : List Peering
  pub setting : Setting
  pub crowd : Crowd

abbrev pub said_by_all : List Peering → Setting → Crowd → PeersSaid
said_by_all list setting crowd = record { list = list; setting = setting; crowd = crowd }

-- one of them goes on; or the server is to end, and they are let go, once they had their time
pub data PeersDo (old new : PeersSaid) : Type 0 where
  one : (i : ℕ) (d p : Peering) → i < length old.list → new.list ≡ set old.list i p
      → PeerSays (said_by (get_or old.list i d) old.setting old.crowd) (said_by p new.setting new.crowd)
      → PeersDo old new
  closes : (new.list ≡ old.list) ⊎ (new.list ≡ [])
      → new ≡ record old { list = new.list; setting = record old.setting { is_ending = true } } → PeersDo old new

-- WHAT A SERVER TELLS of its peers
abbrev pub PeersSay : PeersSaid → PeersSaid → Type 0
PeersSay old new = Path PeersDo old new
