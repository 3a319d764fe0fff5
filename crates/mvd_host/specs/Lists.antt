-- What a feed lists of the states that a site had: from each moment that it remembers, the keys whose states changed.
use Rattle.std.specs.Prelude.{◌≡◌, ◌⊎◌, ℕ, true, List, [], ◌∷◌, Option, Some, None, ⊤}
use Rattle.std.specs.List.{AllByRecursion}
use Rattle.std.specs.FinMap.{get}
use Rattle.mvd_keys.specs.Writes.{Key}
use Rattle.mvd_tree.specs.HashTree.{node_digest}
use Rattle.mvd_site.specs.Answer.{digests}
use Rattle.mvd_site.specs.Held.{States}
use Rattle.mvd_host.specs.Feeds.{ChangedValue, FeedValue, NotedValue, begins_with, is_listed}

-- the root of the hash tree over the states
unfoldable pub root_of : States → List ℕ
root_of states = node_digest (digests states) []

-- each key whose state is another than before is among these
abbrev pub ChangesAmong : List Key → States → States → Type 0
ChangesAmong keys old new = (key : Key) → (get old key ≡ get new key) ⊎ (is_listed keys key ≡ true)

abbrev pub first_or : States → List States → States
first_or now [] = now
first_or now (next ∷ later) = next

-- The states that the site had at the moments that are remembered, from the start on; at the last it has those of now.
-- Each had its root, and the keys that were noted up to the next are all that changed
abbrev pub ListsFrom : List ℕ → List NotedValue → List States → States → Type 0
ListsFrom root rounds [] now = ⊥
ListsFrom root [] (was ∷ past) now = (root ≡ root_of was) × (was ≡ now) × (past ≡ [])
ListsFrom root (noted ∷ rounds) (was ∷ past) now =
    (root ≡ root_of was) × ChangesAmong noted.keys was (first_or now past) × ListsFrom noted.root rounds past now

-- a feed that knows nothing lists nothing
abbrev pub ListsIf : Option (List ℕ) → List NotedValue → List States → States → Type 0
ListsIf None rounds past now = past ≡ []
ListsIf (Some root) rounds past now = ListsFrom root rounds past now

-- THE FEED LISTS WHAT CHANGED: these are the states at the moments that it remembers, and from each of them all keys
-- that changed were noted
abbrev pub Lists : FeedValue → List States → States → Type 0
Lists feed past now = ListsIf feed.start feed.rounds past now

-- this is so of one of them
abbrev pub AnyByRecursion : {X : Type 0} → (X → Type 0) → List X → Type 0
AnyByRecursion P [] = ⊥
AnyByRecursion P (x ∷ xs) = P x ⊎ AnyByRecursion P xs

-- the same of one of them and those behind it
abbrev pub AnyWithLater : {X : Type 0} → (X → List X → Type 0) → List X → Type 0
AnyWithLater P [] = ⊥
AnyWithLater P (x ∷ xs) = P x (x ∷ xs) ⊎ AnyWithLater P xs

-- each key that begins with a prefix and whose state is another than before is among these
abbrev pub ChangesWith : List ℕ → List Key → States → States → Type 0
ChangesWith prefix keys old new =
    (key : Key) → begins_with prefix key ≡ true → (get old key ≡ get new key) ⊎ (is_listed keys key ≡ true)

-- Where keys are told, the site had states with this root, and then or later states with the root that is told. Each
-- key that begins with the prefix and changed between the two is among them
abbrev pub IsListed : List ℕ → List ℕ → List States → Option ChangedValue → Type 0
IsListed prefix root past None = ⊤
IsListed prefix root past (Some told) =
    AnyWithLater (λ was later. (root ≡ root_of was)
    × AnyByRecursion (λ mid. (told.root ≡ root_of mid) × ChangesWith prefix told.keys was mid) later) past

-- the feed lists still: its moments are some of those before, and now
abbrev pub ListsOn : FeedValue → States → FeedValue → States → Type 0
ListsOn old before new now = (past : List States) → Lists old past before →
    (later : List States) × AllByRecursion (λ was. AnyByRecursion (λ old. old ≡ was) past ⊎ (was ≡ now)) later
    × Lists new later now
