-- How keys are exchanged between two sides, one window after another.
use Rattle.std.specs.Prelude.{List, map, Bool, true, false, Option, Some, None, filter, ◌≡◌, ◌↔◌, length, take, ◌≢◌, ◌+◌, ◌++◌, ℕ, Result, OnOk, ◌<◌, ◌≤◌, ◌*◌, MatchResult}
use Rattle.mvd_keys.specs.Writes.{Key}
use Rattle.mvd_sync.specs.declared.cursor.Entry.{Entry}
use Rattle.mvd_dots.specs.declared.refusals.Refusal.{Refusal}
use Rattle.mvd_sync.specs.declared.report.Side.{Side}
use Rattle.mvd_sync.specs.declared.report.Side.TheVariants.{Local as AtLocal, Peer as AtPeer}
use Rattle.mvd_sync.specs.Exchanges.{Done, keys_done, given_keys, Exchanging, left_keys}
use Rattle.std.specs.FinMap.{get}
use Rattle.mvd_keys.specs.State.{join}
use Rattle.mvd_site.specs.Held.{state_at, States}
use Rattle.mvd_sync.specs.Session.{Before, Both, CanMeet, CannotMeet, Differ, IsOld, AreDistinct, is_member, After, Joins, Asking, Course, after_of, both, both_of}
use Rattle.mvd_peer.specs.PushedStates.{Each}
use Rattle.mvd_peer.specs.Sides.{Sides, Two}
use Rattle.mvd_sync.proofs.Walk.{asking}
use Rattle.mvd_sync.specs.declared.asking.Questions.{Questions}
use Rattle.mvd_sync.specs.declared.report.SyncFault.{SyncFault}

abbrev pub keys_next : List Entry → List Key
keys_next es = map (λ e. e.key) es

-- those that were joined on the local side
abbrev pub is_joined : Option (Side × Refusal) → Bool
is_joined None = true
is_joined (Some (AtLocal, refusal)) = false
is_joined (Some (AtPeer, refusal)) = true

abbrev pub joined_keys : List Done → List Key
joined_keys ds = keys_done (filter (λ d. is_joined d.refused) ds)

-- what became of the states of a key
abbrev pub CameTo : (before : Before) (now : Both) → Key → Option (Side × Refusal) → Type 0
CameTo before now key None = CanMeet before.held.local before.held.peer key
    × (state_at now.local key ≡ join (state_at before.held.local key) (state_at before.held.peer key))
    × (state_at now.peer key ≡ join (state_at before.held.local key) (state_at before.held.peer key))
CameTo before now key (Some (AtLocal, refusal)) = Differ before.held key
    × (get now.local key ≡ get before.held.local key)
    × (get now.peer key ≡ get before.held.peer key)
    × CannotMeet before AtLocal key refusal
CameTo before now key (Some (AtPeer, refusal)) = CanMeet before.held.local before.held.peer key
    × (state_at now.local key ≡ join (state_at before.held.local key) (state_at before.held.peer key))
    × (get now.peer key ≡ get before.held.peer key)
    × CannotMeet before AtPeer key refusal

pub record IsDone (before : Before) (now : Both) (d : Done) : Type 0 where
  pub came : CameTo before now d.key d.refused
  pub old : (d.is_old ≡ true) ↔ IsOld before.number before.held.local before.held.peer d.key

-- These keys are done, of two sides that began so and now hold this, and no other key has changed
pub record SoFar (before : Before) (now : Both) (done : List Done) : Type 0 where
  pub distinct : AreDistinct (keys_done done)
  pub each : Each (IsDone before now) done
  pub rest : (key : Key) → is_member (keys_done done) key ≡ false →
      (get now.local key ≡ get before.held.local key) × (get now.peer key ≡ get before.held.peer key)

-- and so they are counted
pub record Counts (done : List Done) (e : Exchanging) : Type 0 where
  pub keys : e.keys ≡ length (given_keys done)
  pub refused : e.refused ≡ length (left_keys done)
  pub first_refused : e.first_refused ≡ take 100 (left_keys done)
  pub older : e.older ≡ length (filter (λ d. d.is_old) done)

-- a key whose states differ, and which a side lacks where its page does not tell it
pub record IsNext (a b : States) (e : Entry) : Type 0 where
  pub differ : get a e.key ≢ get b e.key
  pub mine : e.mine ≡ false → get a e.key ≡ None
  pub theirs : e.theirs ≡ false → get b e.key ≡ None

-- more keys to be exchanged after those that are done
pub record AreNext (a b : States) (done : List Done) (next : List Entry) : Type 0 where
  pub distinct : AreDistinct (keys_done done ++ keys_next next)
  pub each : Each (IsNext a b) next

-- the exchange was cut off by a fault: some keys were joined
pub record JoinsSome (old : Both) (after : After) : Type 0 where
  pub joined : List Key
  pub given : List Key
  pub joins : Joins old after joined given

-- how a session stands: how its two sides began, the keys that are done, and those that are next
pub record Stand : Type 0 where
  pub before : Before
  pub done : List Done
  pub next : List Entry

-- the first of those that were next are done, and the others wait
pub record GoesOn (stand : Stand) (after : After) (e : Exchanging) : Type 0 where
  pub now : List Done
  pub is : keys_next stand.next ≡ keys_done now ++ keys_next e.waiting
  pub so_far : SoFar stand.before after.held (stand.done ++ now)
  pub counts : Counts (stand.done ++ now) e
  pub waits : AreNext stand.before.held.local stand.before.held.peer (stand.done ++ now) e.waiting
  pub still : after.local_true × after.peer_true

-- two sides as they were when the session began, of which the local one has this number
abbrev pub began : {L P : Type 0} → Sides L P → Option ℕ → Both → Two L P → Before
began s number held now = record {
  held = held;
  most_local = s.local.most_keys now.local;
  most_peer = s.peer.most_keys now.peer;
  number = number;
}

-- a moment of a session: its two sides, the questions that are left for each, and what waits and was done
pub record Moment (L P : Type 0) : Type 0 where
  pub now : Asking L P
  pub work : Exchanging

abbrev pub moment : {L P : Type 0} → L → P → Questions → Exchanging → Moment L P
moment local peer left work = record { now = asking local peer left; work = work }

-- so it stands with these keys next, of two sides that held this as it began, where these are done and counted
abbrev pub stand_at : {L P : Type 0} → Sides L P → Moment L P → Both → List Done → List Entry → Stand
stand_at s m held done next = record { before = began s m.work.number held m.now.at; done = done; next = next }

-- the questions that were made are taken from those that were left, and no more were wanted
abbrev pub Spends : {L P A : Type 0} (s : Sides L P) (old new : Asking L P) (result : Result A SyncFault)
    → Course s old new.at result → Type 0
Spends s old new result course = OnOk result ((old.left.local ≡ new.left.local + course.asked_local)
    × (old.left.peer ≡ new.left.peer + course.asked_peer))

-- of the questions so few are asked again, with so many keys that may be exchanged at once then, where it were so many
abbrev pub FewAgain : {L P A : Type 0} {s : Sides L P} {old : Asking L P} {new : Two L P} {result : Result A SyncFault}
    → (next most : ℕ) → Course s old new result → Type 0
FewAgain next most course =
    (course.again_local + next ≤ most + 7 * (course.first_local + course.first_peer))
    × (course.again_peer + next ≤ most + 7 * (course.first_local + course.first_peer))

-- SOME OF THESE KEYS ARE EXCHANGED, or all, and the others wait
pub record Exchanges {L P A : Type 0} (s : Sides L P) (next : List Entry) (old new : Moment L P)
    (result : Result A SyncFault) : Type 0 where
  pub course : Course s old.now new.now.at result
  pub spent : Spends s old.now new.now result course
  -- two for each key at most
  pub few : (course.first_local + course.wanted_local ≤ 2 * length next)
      × (course.first_peer + course.wanted_peer ≤ 2 * length next)
  pub fewer : OnOk result (((course.first_local + course.wanted_local) + 2 * length new.work.waiting ≤ 2 * length next)
      × ((course.first_peer + course.wanted_peer) + 2 * length new.work.waiting ≤ 2 * length next))
  pub calm : OnOk result ((course.wanted_local ≡ 0) × (course.wanted_peer ≡ 0))
  pub again : FewAgain 0 old.work.most course
  pub again_on : OnOk result (FewAgain new.work.most old.work.most course)
  -- each key that is counted took one question at least, and fewer keys than a window wait
  pub room : OnOk result (new.work.keys + new.work.refused + new.now.left.local + new.now.left.peer
      ≤ old.work.keys + old.work.refused + old.now.left.local + old.now.left.peer)
  pub short : length next ≤ 1000 → OnOk result (length new.work.waiting < 1000)
  pub same : new.work.number ≡ old.work.number
  -- between two faithful sides
  pub meets : s.local.is_faithful old.now.at.local → s.peer.is_faithful old.now.at.peer
      → (a b : States) (done : List Done) →
      SoFar (began s old.work.number (both a b) old.now.at) (both_of s old.now.at) done → Counts done old.work →
      AreNext a b done next → MatchResult result
      (λ _. GoesOn (stand_at s old (both a b) done next) (after_of s new.now.at) new.work)
      (λ _. JoinsSome (both a b) (after_of s new.now.at))
