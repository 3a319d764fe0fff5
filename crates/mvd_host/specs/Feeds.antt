-- What a feed remembers of late rounds: which keys each may have changed, and the root of the hash tree after it.
use Rattle.std.specs.Prelude.{ℕ, Bool, ◌&&◌, if◌then◌else◌, nat_eq, nat_le, List, [], ◌∷◌, ◌++◌, filter, length, take, Option, Some, None}
use Rattle.std.specs.List.{flat_map, list_any}
use Rattle.std.specs.Option.{option_and_then, option_map}
use Rattle.std.specs.Ordering.{eq_by_cmp}
use Rattle.std.specs.Cmp.Lexicographic.{pointwise}
use Rattle.mvd_keys.specs.Key.{key_cmp}
use Rattle.std.specs.Str.{bytes_eq}
use Rattle.mvd_keys.specs.Writes.{Key}
use Rattle.mvd_host.specs.declared.feed.Changed.{Changed}

-- the keys that a round may have changed, and the root after it
pub record NotedValue : Type 0 where
  pub keys : List Key
  pub root : List ℕ

-- the root from which on all changes were noted, if there is one, and the rounds since
pub record FeedValue : Type 0 where
  pub start : Option (List ℕ)
  pub rounds : List NotedValue

abbrev pub knows_nothing : FeedValue
knows_nothing = record { start = None; rounds = [] }

abbrev pub knows_root : List ℕ → FeedValue
knows_root root = record { start = Some root; rounds = [] }

-- the keys of rounds, in order
abbrev pub keys_in : List NotedValue → List Key
keys_in rounds = flat_map (λ noted. noted.keys) rounds

-- the root after the last of some rounds
abbrev pub root_after : List ℕ → List NotedValue → List ℕ
root_after root [] = root
root_after root (noted ∷ rounds) = root_after noted.root rounds

-- the root now
abbrev pub root_now : FeedValue → Option (List ℕ)
root_now feed = option_map (λ root. root_after root feed.rounds) feed.start

-- ---- what is remembered

-- the most rounds that are remembered, the most keys of them, and with how many keys a page ends
abbrev pub rounds_most : ℕ
rounds_most = 4096

abbrev pub keys_most : ℕ
keys_most = 65536

abbrev pub told_most : ℕ
told_most = 1000

abbrev pub are_few : List NotedValue → Bool
are_few rounds = nat_le (length rounds) rounds_most && nat_le (length (keys_in rounds)) keys_most

-- the oldest rounds are forgotten, as many as must be
abbrev pub fitted : List ℕ → List NotedValue → FeedValue
fitted root [] = knows_root root
fitted root (noted ∷ rounds) = if are_few (noted ∷ rounds) then record { start = Some root; rounds = noted ∷ rounds }
    else fitted noted.root rounds

-- a round is put behind the others; where nothing was known, the root is
abbrev pub noted_behind : Option (List ℕ) → List NotedValue → List Key → List ℕ → FeedValue
noted_behind None rounds keys root = knows_root root
noted_behind (Some start) rounds keys root = fitted start (rounds ++ record { keys = keys; root = root } ∷ [])

-- a round was noted
abbrev pub noted_in : FeedValue → List Key → List ℕ → FeedValue
noted_in feed keys root = noted_behind feed.start feed.rounds keys root

-- ---- what is told

abbrev pub is_root : List ℕ → List ℕ → Bool
is_root = pointwise nat_eq

abbrev pub later_or : {A : Type 0} → Option A → Option A → Option A
later_or (Some later) other = Some later
later_or None other = other

-- the rounds after the last of these that left this root
abbrev pub after_root : List NotedValue → List ℕ → Option (List NotedValue)
after_root [] root = None
after_root (noted ∷ rounds) root =
    later_or (after_root rounds root) (if is_root noted.root root then Some rounds else None)

-- the rounds since the last moment with this root
abbrev pub since_start : List ℕ → List NotedValue → List ℕ → Option (List NotedValue)
since_start start rounds root = later_or (after_root rounds root) (if is_root start root then Some rounds else None)

abbrev pub rounds_since : FeedValue → List ℕ → Option (List NotedValue)
rounds_since feed root = option_and_then (λ start. since_start start feed.rounds root) feed.start

abbrev pub is_listed : List Key → Key → Bool
is_listed keys key = list_any (λ k. eq_by_cmp key_cmp k key) keys

-- each key once, in the order of their last places
abbrev pub lasts : List Key → List Key
lasts [] = []
lasts (key ∷ keys) = if is_listed keys key then lasts keys else key ∷ lasts keys

-- the different keys of a list and of those that were met before, the last one first
abbrev pub met_one : List Key → Key → List Key
met_one met key = if is_listed met key then met else key ∷ met

abbrev pub met_all : List Key → List Key → List Key
met_all met [] = met
met_all met (key ∷ keys) = met_all (met_one met key) keys

-- whether the prefix stands at the head of the key
abbrev pub begins_with : List ℕ → Key → Bool
begins_with prefix key = bytes_eq prefix (take (length prefix) key)

-- the keys of rounds that begin with a prefix, in order
abbrev pub keys_with : List ℕ → List NotedValue → List Key
keys_with prefix rounds = flat_map (λ noted. filter (begins_with prefix) noted.keys) rounds

-- the first rounds, up to that in which the thousandth different key stands, where these were met before them
abbrev pub page_of : List ℕ → List Key → List NotedValue → List NotedValue
page_of prefix met [] = []
page_of prefix met (noted ∷ rounds) = if nat_le told_most (length met) then []
    else noted ∷ page_of prefix (met_all met (filter (begins_with prefix) noted.keys)) rounds

-- keys that may have changed, and the root at the moment up to which all of them are told
pub record ChangedValue : Type 0 where
  pub keys : List Key
  pub root : List ℕ

abbrev pub page_told : List ℕ → List ℕ → List NotedValue → ChangedValue
page_told prefix root rounds =
    record { keys = lasts (keys_with prefix (page_of prefix [] rounds)); root = root_after root (page_of prefix [] rounds) }

-- what is told of a root: of the first rounds since, the keys that begin with the prefix, each once, and the root then;
-- the root may be none that is known
abbrev pub told_since : FeedValue → List ℕ → List ℕ → Option ChangedValue
told_since feed prefix root = option_map (page_told prefix root) (rounds_since feed root)

abbrev pub changed_by : Changed → ChangedValue
changed_by changed = record { keys = changed.keys.items; root = changed.root }
