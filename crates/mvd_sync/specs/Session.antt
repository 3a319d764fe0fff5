-- What a session does to its two sides, and what it tells.
use Rattle.std.specs.Prelude.{◌≡◌, ◌≢◌, ◌⊎◌, ◌<◌, ◌≤◌, ◌+◌, ◌*◌, ◌/◌, ℕ, Bool, true, false, ◌||◌}
use Rattle.std.specs.Prelude.{List, [], ◌∷◌, ◌++◌, length, map, take, Option, None, IsTrue, Result, IfOk, IfErr, OnOk}
use Rattle.std.specs.Prelude.{MatchBool, ◌↔◌}
use Rattle.std.specs.Ordering.{eq_by_cmp}
use Rattle.std.specs.FinMap.{get, len}
use Rattle.mvd_dots.specs.declared.refusals.Refusal.{Refusal}
use Rattle.mvd_dots.specs.declared.refusals.Refusal.TheVariants.{Broken, DotClash, Full, Memory, StateTooLarge}
use Rattle.mvd_keys.specs.Key.{key_cmp}
use Rattle.mvd_keys.specs.State.{State, clashes, join}
use Rattle.mvd_keys.specs.Writes.{Key}
use Rattle.mvd_tree.specs.Hashed.{HashesTellApart}
use Rattle.mvd_site.specs.Answer.{is_too_large, spelled}
use Rattle.mvd_site.specs.Held.{States, state_at}
use Rattle.mvd_peer.specs.PushedStates.{ComesByPushes, Each}
use Rattle.mvd_sync.specs.Olds.{HasUnseen}
use Rattle.mvd_sync.specs.Faults.{Blames, IsFaultOf}
use Rattle.mvd_peer.specs.Sides.{HasAnswered, HasRefused, IsSilent, Sides, Two}
use Rattle.mvd_sync.specs.declared.asking.Questions.{Questions}
use Rattle.mvd_sync.specs.declared.report.Left.{Left}
use Rattle.mvd_sync.specs.declared.report.Report.{Report}
use Rattle.mvd_sync.specs.declared.report.Side.{Side}
use Rattle.mvd_sync.specs.declared.report.Side.TheVariants.{Local as AtLocal, Peer as AtPeer}
use Rattle.mvd_sync.specs.declared.report.SyncFault.{SyncFault}
use Rattle.mvd_sync.specs.declared.report.SyncFault.TheVariants.{Local, Peer}

-- a faithful side stays faithful, unless the fault is its own `Broken`; while it is faithful, its states come by pushes
-- of what can be given
pub record ChangesSide {A : Type 0} (still_true : Type 0) (broken : SyncFault) (can_give : Key → State → Type 0)
    (old new : States) (result : Result A SyncFault) : Type 0 where
  pub after_ok : OnOk result still_true
  pub after_fault : IfErr result (λ fault. fault ≢ broken → still_true)
  pub pushes : still_true → ComesByPushes can_give old new

-- ---- lists of keys

-- whether a key is in a list
abbrev pub is_member : List Key → Key → Bool
is_member [] key = false
is_member (k ∷ ks) key = eq_by_cmp key_cmp key k || is_member ks key

abbrev pub IsIn : List Key → Key → Type 0
IsIn keys key = IsTrue (is_member keys key)

-- no key is twice in a list
abbrev pub AreDistinct : List Key → Type 0
AreDistinct [] = Unit {0}
AreDistinct (k ∷ ks) = (is_member ks k ≡ false) × AreDistinct ks

-- ---- two sides

-- what the two sides hold
pub record Both : Type 0 where
  pub local : States
  pub peer : States

abbrev pub both : (a b : States) → Both
both a b = record { local = a; peer = b }

-- two sides as a session begins: what they hold, the most keys that each takes, and the number of
-- the local one, where it is known
pub record Before : Type 0 where
  pub held : Both
  pub most_local : ℕ
  pub most_peer : ℕ
  pub number : Option ℕ

-- two sides afterwards: what they hold, and whether each is still faithful
pub record After : Type 1 where
  pub held : Both
  pub local_true : Type 0
  pub peer_true : Type 0

-- the states of a key differ, and do not clash
pub record CanMeet (a b : States) (key : Key) : Type 0 where
  pub differ : get a key ≢ get b key
  pub apart : clashes (state_at a key) (state_at b key) ≡ false

-- a side has the join of the two old states of these keys, and of all others its old states
abbrev pub HasJoined : List Key → States → States → States → States → Type 0
HasJoined keys a b old new =
    (key : Key) → MatchBool (is_member keys key) (state_at new key ≡ join (state_at a key) (state_at b key))
    (get new key ≡ get old key)

-- the states of `joined` were joined on the local side, and those of `given`, which are some of these, on the peer
pub record Joins (old : Both) (after : After) (joined given : List Key) : Type 0 where
  pub part : (key : Key) → IsIn given key → IsIn joined key
  pub met : (key : Key) → IsIn joined key → CanMeet old.local old.peer key
  pub local_side : after.local_true → HasJoined joined old.local old.peer old.local after.held.local
  pub peer_side : after.peer_true → HasJoined given old.local old.peer old.peer after.held.peer

-- the two together hold more different keys than a side takes
pub record AreTooMany (most : ℕ) (a b : States) : Type 0 where
  pub held : List Key
  pub distinct : AreDistinct held
  pub by_either : Each (λ key. (get a key ≢ None) ⊎ (get b key ≢ None)) held
  pub many : most < length held

-- the most keys that a side takes
abbrev pub most_of : Before → Side → ℕ
most_of before AtLocal = before.most_local
most_of before AtPeer = before.most_peer

-- what a side holds
abbrev pub own_of : Both → Side → States
own_of held AtLocal = held.local
own_of held AtPeer = held.peer

-- why a side refuses a key. 9: the join is too long. 10: this side did not hold the key, and the two
-- together hold more keys than it takes. 11: its states clash
abbrev pub CannotMeet : Before → Side → Key → Refusal → Type 0
CannotMeet before side key StateTooLarge =
    is_too_large (join (state_at before.held.local key) (state_at before.held.peer key)) ≡ true
CannotMeet before side key Full =
    (get (own_of before.held side) key ≡ None) × AreTooMany (most_of before side) before.held.local before.held.peer
CannotMeet before side key DotClash = clashes (state_at before.held.local key) (state_at before.held.peer key) ≡ true
CannotMeet before side key refusal = ⊥

-- where the local side refused a key its states were not joined; where the peer did they were, on
-- the local side alone. So 11 is always the local side's
abbrev pub was_joined : Side → Bool
was_joined AtLocal = false
was_joined AtPeer = true

abbrev pub IsLeft : List Key → Left → Type 0
IsLeft joined left = is_member joined left.key ≡ was_joined left.side

-- the states of a key differ
abbrev pub Differ : Both → Key → Type 0
Differ held key = get held.local key ≢ get held.peer key

-- the peer's state of a key has seen a dot of this site that the local state has not
abbrev pub IsOld : Option ℕ → States → States → Key → Type 0
IsOld number a b key = HasUnseen number (state_at a key) (state_at b key)

-- What a session with no fault tells: the keys that were exchanged (`given`) and those that were refused (`left`), each
-- for its cause; each of them differed, and where SHA-256 tells the texts of both sides apart they are all that did
-- (`all`); and of how many the local state was older than what the peer saw of it
pub record ReportsDone (before : Before) (joined given : List Key) (report : Report) : Type 0 where
  pub left : List Left
  pub old_keys : List Key
  pub distinct : AreDistinct (given ++ map (λ l. l.key) left)
  pub whole : (key : Key) → IsIn joined key → IsIn (given ++ map (λ l. l.key) left) key
  pub sides : Each (IsLeft joined) left
  pub causes : Each (λ l. CannotMeet before l.side l.key l.refusal) left
  pub differed : Each (λ l. Differ before.held l.key) left
  pub all : HashesTellApart spelled before.held.local before.held.peer →
      (key : Key) → Differ before.held key → IsIn (given ++ map (λ l. l.key) left) key
  pub counted : (report.keys ≡ length given) × (report.refused ≡ length left) × (report.first_refused ≡ take 100 left)
  pub older : AreDistinct old_keys × (report.old ≡ length old_keys)
  pub are_old : (key : Key) → IsIn old_keys key ↔
      (IsIn (given ++ map (λ l. l.key) left) key × IsOld before.number before.held.local before.held.peer key)

-- What two faithful sides come to, at a fault too: the keys joined, and with no fault the report
pub record Meets (before : Before) (after : After) (result : Result Report SyncFault) : Type 0 where
  pub joined : List Key
  pub given : List Key
  pub joins : Joins before.held after joined given
  pub tells : IfOk result (ReportsDone before joined given)

-- few questions for so many keys: one, five for each, and one for each thousand held
abbrev pub AreFew : ℕ → States → List Key → Type 0
AreFew asked states differing = asked ≤ 1 + 5 * length differing + len states / 1000

-- at most sixteen, and seven for each of so many
abbrev pub IsLittle : ℕ → ℕ → Type 0
IsLittle again firsts = again ≤ 16 + 7 * firsts

-- few questions in all, to a side that holds these states, where the other holds those: few for the first time, and
-- again so many as those to both let
pub record AreFewInAll (asked : ℕ) (own other : States) (differing : List Key) : Type 0 where
  pub firsts : ℕ
  pub others : ℕ
  pub again : ℕ
  pub is : asked ≡ firsts + again
  pub few : AreFew firsts own differing
  pub few_others : AreFew others other differing
  pub little : IsLittle again (firsts + others)

-- all keys that differ are among these
abbrev pub HasAllThatDiffer : States → States → List Key → Type 0
HasAllThatDiffer a b keys = (key : Key) → get a key ≢ get b key → IsIn keys key

-- what two sides hold
abbrev pub both_of : {L P : Type 0} → Sides L P → Two L P → Both
both_of s at = record { local = s.local.states at.local; peer = s.peer.states at.peer }

-- two sides as a session begins
abbrev pub before_of : {L P : Type 0} → Sides L P → Two L P → Before
before_of s old = record {
  held = both_of s old;
  most_local = s.local.most_keys old.local;
  most_peer = s.peer.most_keys old.peer;
  number = s.local.number old.local;
}

-- and afterwards
abbrev pub after_of : {L P : Type 0} → Sides L P → Two L P → After
after_of s new = record {
  held = both_of s new;
  local_true = s.local.is_faithful new.local;
  peer_true = s.peer.is_faithful new.peer;
}

-- two sides, and the questions that are left for each
pub record Asking (L P : Type 0) : Type 0 where
  pub at : Two L P
  pub left : Questions

-- one of the two has refused a question with 20 on the way
abbrev pub HaveLacked : {L P : Type 0} → Sides L P → (old new : Two L P) → Type 0
HaveLacked s old new = HasRefused s.local.follows s.local.can_refuse old.local new.local Memory
    ⊎ HasRefused s.peer.follows s.peer.can_refuse old.peer new.peer Memory

-- WHAT BECAME OF TWO SIDES by questions
pub record Course {L P A : Type 0} (s : Sides L P) (old : Asking L P) (new : Two L P)
    (result : Result A SyncFault) : Type 0 where
  -- Each side was asked so many questions, and is now what that many may make of it. `wanted` are questions that there
  -- was no budget for: one where the fault is 36 for that cause, and else any number
  pub asked_local : ℕ
  pub asked_peer : ℕ
  pub wanted_local : ℕ
  pub wanted_peer : ℕ
  pub within : (asked_local ≤ old.left.local) × (asked_peer ≤ old.left.peer)
  -- of these so many were asked for the first time, and the others again, for keys whose states were asked for before,
  -- but one of the two sides refused such a get with 20
  pub first_local : ℕ
  pub first_peer : ℕ
  pub again_local : ℕ
  pub again_peer : ℕ
  pub parts : (asked_local ≡ first_local + again_local) × (asked_peer ≡ first_peer + again_peer)
  pub unheld : 1 ≤ again_local + again_peer → HaveLacked s old.at new
  pub follows : s.local.follows asked_local old.at.local new.local × s.peer.follows asked_peer old.at.peer new.peer
  -- a fault has a cause
  pub cause : IfErr result (IsFaultOf
      (Blames s.local (record {
        most = old.left.local;
        asked = asked_local;
        wanted = wanted_local;
        old = old.at.local;
        new = new.local;
      }))
      (Blames s.peer (record {
        most = old.left.peer;
        asked = asked_peer;
        wanted = wanted_peer;
        old = old.at.peer;
        new = new.peer;
      })))
  -- whatever the other is, a faithful side changes by pushes of states that the other may give, and by nothing else
  pub local_side : s.local.is_faithful old.at.local → ChangesSide (s.local.is_faithful new.local) (Local Broken)
      s.peer.can_give (s.local.states old.at.local) (s.local.states new.local) result
  pub peer_side : s.peer.is_faithful old.at.peer → ChangesSide (s.peer.is_faithful new.peer) (Peer Broken)
      s.local.can_give (s.peer.states old.at.peer) (s.peer.states new.peer) result
  -- beside a side that answers nothing a faithful one keeps its states: beside a silent local side the peer, and the
  -- other way round
  pub beside_local : IsSilent s.local.follows s.local.can_answer old.at.local → s.peer.is_faithful old.at.peer →
      s.peer.is_faithful new.peer × (s.peer.states new.peer ≡ s.peer.states old.at.peer)
  pub beside_peer : IsSilent s.peer.follows s.peer.can_answer old.at.peer → s.local.is_faithful old.at.local →
      s.local.is_faithful new.local × (s.local.states new.local ≡ s.local.states old.at.local)

-- both sides have answered on the way
abbrev pub HaveAnswered : {L P : Type 0} → Sides L P → (old new : Two L P) → Type 0
HaveAnswered s old new = HasAnswered s.local.follows s.local.can_answer old.local new.local
    × HasAnswered s.peer.follows s.peer.can_answer old.peer new.peer

-- A SESSION of two sides, each asked at most so many questions
pub record Session {L P : Type 0} (s : Sides L P) (most : ℕ) (old new : Two L P)
    (result : Result Report SyncFault) : Type 0 where
  pub course : Course s (record { at = old; left = record { local = most; peer = most } }) new result
  -- with no fault both sides have answered
  pub answers : OnOk result (HaveAnswered s old new)
  -- between two faithful sides states are joined, at a fault, too; with no fault all that differ, but those refused for
  -- a cause, where SHA-256 tells the texts of both sides apart
  pub meets : s.local.is_faithful old.local → s.peer.is_faithful old.peer →
      Meets (before_of s old) (after_of s new) result
  -- and few questions were made for the first time, or wanted
  pub few : s.local.is_faithful old.local → s.peer.is_faithful old.peer → (differing : List Key) →
      HasAllThatDiffer (s.local.states old.local) (s.peer.states old.peer) differing →
      AreFew (course.first_local + course.wanted_local) (s.local.states old.local) differing
      × AreFew (course.first_peer + course.wanted_peer) (s.peer.states old.peer) differing
  -- Of any two sides: those that were made again are sixteen, and seven for each of the others at most. So a 36 that a
  -- side did not itself give means that these bounds together are above the budget
  pub again : IsLittle course.again_local (course.first_local + course.first_peer)
      × IsLittle course.again_peer (course.first_local + course.first_peer)
