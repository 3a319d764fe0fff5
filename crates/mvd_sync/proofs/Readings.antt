-- Questions to a side, and what is so of it after them.
use Rattle.std.specs.Prelude.{◌≡◌, ℕ, Bool, List, Option, false, [], ◌++◌, ◌+◌, length, ◌≤◌, Result, ◌≢◌, ◌<◌, ◌^◌, None, true}
use Rattle.std.specs.FinMap.{entries}
use Rattle.mvd_tree.specs.HashTree.{KeyDigests, node_digest}
use Rattle.mvd_tree.specs.Page.{is_more_after_page, bucket_page, keys_after, children_digests}
use Rattle.mvd_sync.specs.Answers.{PageEntry, IsPage, ListingValue}
use Rattle.mvd_peer.specs.Sides.{SideOf, is_of_question, HasAnswered}
use Rattle.mvd_peer.specs.Windows.{ForEach, Pushes, PushesFirst}
use Rattle.mvd_dots.specs.declared.refusals.Refusal.{Refusal}
use Rattle.mvd_sync.specs.Faults.{Blames}
use Rattle.mvd_keys.specs.State.{State}
use Rattle.mvd_keys.specs.Writes.{Key}
use Rattle.mvd_dots.specs.declared.refusals.Refusal.TheVariants.{Broken}
use Rattle.mvd_site.specs.Answer.{digests}
use Rattle.mvd_sync.specs.declared.asking.Node.{Node}

-- what a faithful side tells of a bucket after a key: so many of its entries as a page has, and whether there are more
pub record IsBucketPage (held : KeyDigests) (path : List ℕ) (after : Option (List ℕ)) (page : List PageEntry)
    (more : Bool) : Type 0 where
  pub is : page ≡ bucket_page held path after
  pub goes_on : more ≡ is_more_after_page held path after

-- these are the first entries of a bucket after a key, and unless there is more all of them
pub record IsListing (held : KeyDigests) (path : List ℕ) (after : Option (List ℕ)) (page : List PageEntry)
    (more : Bool) : Type 0 where
  pub later : List PageEntry
  pub is : entries (keys_after held path after) ≡ page ++ later
  pub ended : more ≡ false → later ≡ []

-- a side, and the questions that are left for it
pub record OneAsking (S : Type 0) : Type 0 where
  pub at : S
  pub left : ℕ

abbrev pub with_left : {S : Type 0} → S → ℕ → OneAsking S
with_left at left = record { at = at; left = left }

-- ALL WERE ANSWERED, each by what a side may answer, faithful or not, and taken from those that were left; and of a
-- side that was faithful this is so
pub record AllAnswered {S Q A : Type 0} (s : SideOf S) (May : Q → A → Type 0) (IfFaithful : Type 0)
    (questions : List Q) (answers : List A) (old new : OneAsking S) : Type 0 where
  pub spent : old.left ≡ new.left + length questions
  pub follows : s.follows (length questions) old.at new.at
  pub may : ForEach May questions answers
  pub right : s.is_faithful old.at → IfFaithful

-- THEY CAME TO AN END: so many were made, and wanted, no more than there are, nor than were left, and this is why; and
-- of a side that was faithful this is so
pub record ComesToEnd {S : Type 0} (s : SideOf S) (IfFaithful : Type 0) (questions : ℕ) (old : OneAsking S) (new : S)
    (refusal : Refusal) : Type 0 where
  pub asked : ℕ
  pub wanted : ℕ
  pub few : asked + wanted ≤ questions
  pub within : asked ≤ old.left
  pub follows : s.follows asked old.at new
  pub cause : Blames s (record { most = old.left; asked = asked; wanted = wanted; old = old.at; new = new }) refusal
  pub not_of_question : s.is_faithful old.at → is_of_question refusal ≡ false
  pub right : s.is_faithful old.at → IfFaithful

-- after questions that change nothing
pub record Keeps {S : Type 0} (s : SideOf S) (old new : S) : Type 0 where
  pub still : s.is_faithful new
  pub states : s.states new ≡ s.states old

-- and all of them were answered rightly
pub record AnswersEach {S Q A : Type 0} (s : SideOf S) (Right : Q → A → Type 0) (questions : List Q) (answers : List A)
    (old new : S) : Type 0 where
  pub kept : Keeps s old new
  pub right : ForEach Right questions answers

-- after pushes, each taken or refused for its cause
pub record TakesIn {S : Type 0} (s : SideOf S) (pairs : List (Key × State)) (told : List (Result (Unit {0}) Refusal))
    (old new : S) : Type 0 where
  pub still : s.is_faithful new
  pub pushes : Pushes (s.most_keys old) (s.states old) pairs told (s.states new)

-- after pushes that came to an end, of which the first were made
pub record TakesInFirst {S : Type 0} (s : SideOf S) (pairs : List (Key × State)) (old new : S)
    (refusal : Refusal) : Type 0 where
  pub still : refusal ≢ Broken → s.is_faithful new
  pub pushes : PushesFirst (s.is_faithful new) (s.most_keys old) (s.states old) pairs (s.states new)

-- the pages of buckets that were asked for were told, each in form
abbrev pub TellsPages : {S : Type 0} → SideOf S → List (List ℕ × Option Key) → List ListingValue
    → (old new : OneAsking S) → Type 0
TellsPages s asked pages old new =
    AllAnswered s (λ q page. IsPage None page.0 page.1 × (length page.0 < 2 ^ 64)
    × HasAnswered s.follows s.can_answer old.at new.at)
    (AnswersEach s (λ q page. IsBucketPage (digests (s.states old.at)) q.0 q.1 page.0 page.1) asked pages old.at new.at)
    asked pages old new

-- A listing of the keys of a bucket after a key was filled, by a question more where it had come to its end and there
-- are more
pub record Fills {S : Type 0} (s : SideOf S) (path : List ℕ) (after : Option Key) (listing listing' : ListingValue)
    (old new : OneAsking S) : Type 0 where
  pub asked : ℕ
  pub one : asked ≤ 1
  pub needed : 1 ≤ asked → (listing.0 ≡ []) × (listing.1 ≡ true)
  pub same : asked ≡ 0 → listing' ≡ listing
  pub spent : old.left ≡ new.left + asked
  pub follows : s.follows asked old.at new.at
  pub short : length listing.0 < 2 ^ 64 → length listing'.0 < 2 ^ 64
  pub ended : listing'.0 ≡ [] → listing'.1 ≡ false
  pub kept : s.is_faithful old.at → Keeps s old.at new.at
  pub page : s.is_faithful old.at → 1 ≤ asked →
      IsBucketPage (digests (s.states old.at)) path after listing'.0 listing'.1

-- the digests of a node above the buckets
pub record IsInner (held : KeyDigests) (path : List ℕ) (node : Node) : Type 0 where
  pub own : node.own ≡ node_digest held path
  pub children : node.children ≡ children_digests held path
