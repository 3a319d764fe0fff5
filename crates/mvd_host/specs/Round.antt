-- One round: frames of many clients, as turns of one list.
use Rattle.std.specs.Prelude.{◌≡◌, ◌≢◌, ◌⊎◌, ◌<◌, ◌≤◌, Bool, ℕ, List, [], ◌∷◌, ◌++◌, map, length, slice_index, None, Ok, Result, IfOk, OnOk, true, false}
use Rattle.mvd_dots.specs.declared.refusals.Refusal.{Refusal}
use Rattle.mvd_dots.specs.declared.refusals.Refusal.TheVariants.{Memory}
use Rattle.mvd_wire.specs.declared.reply.Reply.TheVariants.{Refused}
use Rattle.mvd_wire.specs.Frames.{FrameValue}
use Rattle.mvd_wire.specs.declared.request.Request.{Request}
use Rattle.mvd_conn.specs.Guard.{IsShown}
use Rattle.mvd_conn.specs.History.{History, Waits, next_of}
use Rattle.mvd_site.specs.Held.{States}
use Rattle.mvd_site.specs.Sites.{SiteValue}
use Rattle.mvd_replica.specs.Turns.{Turn}
use Rattle.mvd_replica.specs.Batch.{TakesFrom, TurnsFollow}
use Rattle.mvd_replica.specs.Replicas.{StoredSite, site_of, store_of}
use Rattle.mvd_replica.specs.declared.replica.Replica.{Replica}
use Rattle.mvd_host.specs.AtHand.{AllMayWait, AtHandValue, first_at_hand}
use Rattle.mvd_host.specs.Hosts.{HostValue, IfClient, client_of}
use Rattle.mvd_host.specs.Weights.{AreHeavyTurns}
use Rattle.mvd_host.specs.Course.{AreQueued, BothClients, IsOut, MayGoOn, NoneMoved, asked_by, own}
use Rattle.sqlite.specs.State.{State}
use Rattle.sqlite_trees.specs.declared.store.Store.{Ghosts}

-- a host, the requests at hand, and the replica that answers both
pub record Side : Type 1 where
  pub host : HostValue
  pub hand : AtHandValue
  pub site : SiteValue
  pub store : State

abbrev pub host_side : {S : Type 0} {g : Ghosts S} → HostValue → AtHandValue → Replica S g → Side
host_side host hand replica = record { host = host; hand = hand; site = site_of replica; store = store_of replica }

-- its replica
abbrev pub stored_in : Side → StoredSite
stored_in side = record { site = side.site; store = side.store }

-- the turns of all clients
abbrev pub turns_of : List (ℕ × Turn) → List Turn
turns_of = map (λ t. t.1)

-- Each turn finds the site as the one before it left it. It does to it what its frame asks, and is told that; or it is
-- told want of memory, and changes nothing
abbrev pub ServesAllFrom : SiteValue → SiteValue → List Turn → Type 0
ServesAllFrom old new [] = new ≡ old
ServesAllFrom old new (turn ∷ turns) = (mid : SiteValue)
    × (TakesFrom old mid turn.asked turn.reply ⊎ ((turn.reply ≡ Refused Memory) × (mid ≡ old)))
    × ServesAllFrom mid new turns

-- What turns do to a replica: each is of the states that the one before it left, and the records follow. What that is
-- from the writes known is a law (`turns_are_known`)
pub record Serves (turns : List Turn) (old new : StoredSite) : Type 0 where
  pub states : ServesAllFrom old.site new.site turns
  pub follows : TurnsFollow turns old new

-- The frames that were taken of a connection are those of these turns, in order, each of what its client's right allows,
-- and the replies that were queued on it are theirs, in order. Where there is a guard, the first frame of all shows a
-- token, and none is taken unless it is known
pub record ClientCourse (turns : List Turn) (old new : History) : Type 0 where
  pub frames : List FrameValue
  pub taken : new.taken ≡ old.taken ++ frames
  pub asked : map (asked_by new.guard) frames ≡ map (λ t. t.asked) turns
  pub queued : List (List ℕ)
  pub answers : new.answers ≡ old.answers ++ queued
  pub told : AreQueued (map (λ t. t.reply) turns) queued
  pub moved : NoneMoved old new
  pub shown : IsShown old.guard old.taken → IsShown new.guard new.taken
  pub goes_on : (frames ≡ []) ⊎ MayGoOn new.guard

-- A number of a connection that no client has, has no turn; nor has a client that is not ready, and that is as it was
pub record Spares (ready : List ℕ) (turns : List (ℕ × Turn)) (old new : HostValue) : Type 0 where
  pub none : (n : ℕ) → n < first_at_hand → client_of old n ≡ None → own n turns ≡ []
  pub only : (n : ℕ) → n < first_at_hand → IsOut n ready (length ready) → own n turns ≡ []
  pub same : (n : ℕ) → IsOut n ready (length ready) → client_of new n ≡ client_of old n

-- Nothing comes next of a connection whose frames are answered: it has ended, or failed, 262,144 bytes have to leave
-- first, or more bytes are wanted. Then a look at it leaves it as it is (law `nothing_comes_of_the_idle`)
pub record IsIdle (h : History) : Type 0 where
  pub hand : h.hand ≡ None
  pub next : (h.last ≢ None) ⊎ (h.failed ≡ true) ⊎ (262144 ≤ length h.waits) ⊎ (next_of h ≡ Waits)

-- What a round that was not refused memory gives: each client that is ready had a turn, or nothing comes next of it, or
-- the states of the keys that the turns change, as they were before, have 4,194,304 bytes with what is put and pushed;
-- only then something waits at hand still. There may be more only where there was a turn, and where there is no more
-- nothing waits at hand, and nothing comes next of any ready client
pub record GoesForward (result : Result Bool Refusal) (ready : List ℕ) (turns : List (ℕ × Turn)) (states : States)
    (new : HostValue) (hand : AtHandValue) : Type 0 where
  pub fair : OnOk result ((i : ℕ) → i < length ready →
      (own (slice_index ready i) turns ≢ []) ⊎ IfClient (client_of new (slice_index ready i)) IsIdle
      ⊎ AreHeavyTurns states turns)
  pub at_hand : OnOk result ((hand.waits ≡ []) ⊎ AreHeavyTurns states turns)
  pub some : IfOk result (λ more. more ≡ true → turns ≢ [])
  pub none : IfOk result (λ more. more ≡ false → hand.waits ≡ [])
  pub idle : IfOk result (λ more. more ≡ false → (i : ℕ) → i < length ready →
      IfClient (client_of new (slice_index ready i)) IsIdle)

-- OF WHAT WAITED at hand a front of each client's is asked in turns, in order, and the rest waits still; each client is
-- told the replies to its own turns. No earlier reply was left
pub record AnswersAtHand (turns : List (ℕ × Turn)) (old new : AtHandValue) : Type 0 where
  pub none : old.left ≡ []
  pub may : AllMayWait old.waits
  pub asks : List (ℕ × Request)
  pub done : new.done ≡ old.done ++ asks
  pub front : (n : ℕ) → own n old.waits ≡ own n asks ++ own n new.waits
  pub taken : new.taken ≡ old.taken
  pub asked : (n : ℕ) → first_at_hand ≤ n → map (λ t. t.asked) (own n turns) ≡ map (λ r. Ok r) (own n asks)
  pub told : (n : ℕ) → first_at_hand ≤ n → own n new.left ≡ map (λ t. t.reply) (own n turns)

-- The turns, in order, are served by the replica; each client's own are what its connection took, and was answered, or
-- what it asked at hand, and is told. Only ready clients have turns, and those at hand, and no client is admitted
pub record Round (ready : List ℕ) (turns : List (ℕ × Turn)) (old new : Side) : Type 0 where
  pub serves : Serves (turns_of turns) (stored_in old) (stored_in new)
  pub clients : (n : ℕ) → BothClients (client_of old.host n) (client_of new.host n) (ClientCourse (own n turns))
  pub spares : Spares ready turns old.host new.host
  pub at_hand : AnswersAtHand turns old.hand new.hand
  pub admitted : new.host.admitted ≡ old.host.admitted
