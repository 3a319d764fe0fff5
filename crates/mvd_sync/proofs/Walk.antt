-- Questions to two sides: a walk from the root to the buckets that differ, and over these.
use Rattle.std.specs.Prelude.{ℕ, Bool, List, ◌≡◌, ◌+◌, ◌≤◌, ◌≢◌, [], length, IsTrue, ◌*◌}
use Rattle.std.specs.List.{list_any}
use Rattle.mvd_keys.specs.Writes.{Key}
use Rattle.mvd_tree.specs.HashTree.{is_under}
use Rattle.mvd_peer.specs.Sides.{two, SideOf, Sides, Two}
use Rattle.mvd_sync.specs.declared.asking.Questions.{Questions}
use Rattle.mvd_sync.specs.Session.{Asking, HaveAnswered, AreDistinct, HasAllThatDiffer}
use Rattle.mvd_sync.proofs.Readings.{OneAsking, with_left, Keeps, TellsPages}
use Rattle.mvd_sync.specs.Faults.{Blames, IsFaultOf}
use Rattle.mvd_sync.specs.declared.report.SyncFault.{SyncFault}
use Rattle.mvd_site.specs.Answer.{digests, spelled}
use Rattle.mvd_sync.specs.Nodes.{differing_children, differs_at}
use Rattle.mvd_peer.specs.PushedStates.{Each}
use Rattle.std.specs.FinMap.{get}
use Rattle.mvd_tree.specs.Hashed.{HashesTellApart}
use Rattle.mvd_site.specs.Held.{States}
use Rattle.mvd_sync.specs.Answers.{ListingValue}
use Rattle.mvd_sync.specs.declared.report.Side.TheVariants.{Local as AtLocal, Peer as AtPeer}
use Rattle.mvd_sync.specs.Walking.{pages_of, Walking}

-- whether one of the nodes has the key below it
abbrev pub has_below : List (List ℕ) → Key → Bool
has_below paths key = list_any (λ path. is_under path key) paths

abbrev pub asking : {L P : Type 0} → L → P → Questions → Asking L P
asking local peer left = record { at = two local peer; left = left }

-- one of two sides, with the questions that are left for it
abbrev pub local_of : {L P : Type 0} → Asking L P → OneAsking L
local_of a = with_left a.at.local a.left.local

abbrev pub peer_of : {L P : Type 0} → Asking L P → OneAsking P
peer_of a = with_left a.at.peer a.left.peer

-- So many questions were made to a side, and taken from those that were left
pub record ReadsSide {S : Type 0} (s : SideOf S) (asked : ℕ) (old new : OneAsking S) : Type 0 where
  pub spent : old.left ≡ new.left + asked
  pub follows : s.follows asked old.at new.at
  pub kept : s.is_faithful old.at → Keeps s old.at new.at

-- They came to an end by a fault that has a cause: no more were made than were left, and so few
pub record ReadsEnd {L P : Type 0} (s : Sides L P) (Few : ℕ → Type 0) (old : Asking L P) (new : Two L P)
    (fault : SyncFault) : Type 0 where
  pub asked_local : ℕ
  pub asked_peer : ℕ
  pub wanted_local : ℕ
  pub wanted_peer : ℕ
  pub within : (asked_local ≤ old.left.local) × (asked_peer ≤ old.left.peer)
  pub few : Few (asked_local + wanted_local) × Few (asked_peer + wanted_peer)
  pub follows : s.local.follows asked_local old.at.local new.local × s.peer.follows asked_peer old.at.peer new.peer
  pub cause : IsFaultOf
      (Blames s.local (record {
        most = old.left.local;
        asked = asked_local;
        wanted = wanted_local;
        old = old.at.local;
        new = new.local;
      }))
      (Blames s.peer (record {
        most = old.left.peer;
        asked = asked_peer;
        wanted = wanted_peer;
        old = old.at.peer;
        new = new.peer;
      })) fault
  pub kept_local : s.local.is_faithful old.at.local → Keeps s.local old.at.local new.local
  pub kept_peer : s.peer.is_faithful old.at.peer → Keeps s.peer old.at.peer new.peer

-- ONE LEVEL: both sides were asked about these nodes, one question each, and told of their children; of two faithful
-- sides these are the children that differ
pub record Descends {L P : Type 0} (s : Sides L P) (paths : List (List ℕ)) (old new : Asking L P)
    (below : List (List ℕ)) : Type 0 where
  pub local_side : ReadsSide s.local (length paths) (local_of old) (local_of new)
  pub peer_side : ReadsSide s.peer (length paths) (peer_of old) (peer_of new)
  pub answers : paths ≢ [] → HaveAnswered s old.at new.at
  pub longer : (n : ℕ) → Each (λ path. length path ≡ n) paths → Each (λ path. length path ≡ n + 1) below
  pub is : s.local.is_faithful old.at.local → s.peer.is_faithful old.at.peer →
      below ≡ differing_children (digests (s.local.states old.at.local)) (digests (s.peer.states old.at.peer)) paths

-- The buckets that differ: each once, and where SHA-256 tells the texts of the two trees apart, each key that differs
-- is in one
pub record AreBuckets (a b : States) (buckets : List (List ℕ)) : Type 0 where
  pub distinct : AreDistinct buckets
  pub differ : Each (λ path. IsTrue (differs_at (digests a) (digests b) path)) buckets
  pub whole : HashesTellApart spelled a b → (key : Key) → get a key ≢ get b key → IsTrue (has_below buckets key)

-- so few questions, where so many keys differ at most
abbrev pub AreFewFor : {L P : Type 0} → Sides L P → Two L P → (ℕ → Type 0) → Type 0
AreFewFor s at Few = s.local.is_faithful at.local → s.peer.is_faithful at.peer → (differing : List Key) →
    HasAllThatDiffer (s.local.states at.local) (s.peer.states at.peer) differing → Few (length differing)

-- THE WALK from the root: both sides were asked equally many questions, and these are the buckets that differ. The
-- questions, and one for each bucket, are at most one for the root and three for each key that differs
pub record FindsBuckets {L P : Type 0} (s : Sides L P) (old new : Asking L P) (buckets : List (List ℕ)) : Type 0 where
  pub asked : ℕ
  pub local_side : ReadsSide s.local asked (local_of old) (local_of new)
  pub peer_side : ReadsSide s.peer asked (peer_of old) (peer_of new)
  pub answers : HaveAnswered s old.at new.at
  pub deep : Each (λ path. length path ≡ 3) buckets
  pub right : s.local.is_faithful old.at.local → s.peer.is_faithful old.at.peer →
      AreBuckets (s.local.states old.at.local) (s.peer.states old.at.peer) buckets
  pub few : AreFewFor s old.at (λ most. asked + length buckets ≤ 1 + 3 * most)

-- both told the pages that they were asked for
pub record PagesTold {L P : Type 0} (s : Sides L P) (at : Walking) (mine theirs : List ListingValue)
    (old new : Asking L P) : Type 0 where
  pub local_side : TellsPages s.local (pages_of AtLocal at) mine (local_of old) (local_of new)
  pub peer_side : TellsPages s.peer (pages_of AtPeer at) theirs (peer_of old) (peer_of new)

-- or one came to an end; of each no more was asked than these pages
pub record PagesEnd {L P : Type 0} (s : Sides L P) (at : Walking) (old : Asking L P) (new : Two L P)
    (fault : SyncFault) : Type 0 where
  pub ends : ReadsEnd s (λ _. Unit {0}) old new fault
  pub few : (ends.asked_local + ends.wanted_local ≤ length (pages_of AtLocal at))
      × (ends.asked_peer + ends.wanted_peer ≤ length (pages_of AtPeer at))
