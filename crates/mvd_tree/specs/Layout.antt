-- How a hash tree lies in memory: buckets by number, and what is kept of the nodes of each depth by number.
use Rattle.std.specs.Prelude.{◌≡◌, ◌≢◌, ℕ, ◌+◌, ◌*◌, ◌/◌, ◌%◌, ◌<◌, ◌≤◌, List, [], ◌∷◌, length, flat_map, slice_index, slice_index_or, slice_range, All, Option, None}
use Rattle.std.specs.FinMap.{empty, get, entries, from_entries}
use Rattle.mvd_digest.specs.Sha256.{sha256}
use Rattle.mvd_tree.specs.HashTree.{KeyDigests}
use Rattle.mvd_tree.specs.Kept.{kept_node, kept_inner}

-- a path has at most three digits, each below sixteen
pub record IsPath (path : List ℕ) : Type 0 where
  pub short : length path ≤ 3
  pub small : All (λ digit. digit < 16) path

-- the number of a key's bucket: its path, read as a number
unfoldable pub bucket_of : List ℕ → ℕ
bucket_of key = slice_index (sha256 key) 0 * 16 + slice_index (sha256 key) 1 / 16

-- the path of the node with this number among those of one, two or three digits
abbrev pub path_of_one : ℕ → List ℕ
path_of_one n = n ∷ []

abbrev pub path_of_two : ℕ → List ℕ
path_of_two n = n / 16 ∷ n % 16 ∷ []

abbrev pub path_of_three : ℕ → List ℕ
path_of_three n = n / 16 / 16 ∷ n / 16 % 16 ∷ n % 16 ∷ []

-- the keys of all buckets
unfoldable pub gathered : List KeyDigests → KeyDigests
gathered buckets = from_entries (flat_map entries buckets)

-- each bucket holds only keys whose path it is
abbrev pub AreApart : List KeyDigests → Type 0
AreApart buckets = (number : ℕ) (key : List ℕ) → bucket_of key ≢ number
    → get (slice_index_or buckets number empty) key ≡ None

-- they hold just these keys, each in its bucket
pub record HoldApart (buckets : List KeyDigests) (held : KeyDigests) : Type 0 where
  pub all : length buckets ≡ 4096
  pub apart : AreApart buckets
  pub holds : gathered buckets ≡ held

-- these are what is kept of so many nodes over the others, sixteen below each
pub record AreOver (nodes : List (Option (List ℕ))) (count : ℕ) (above : List (Option (List ℕ))) : Type 0 where
  pub all : length above ≡ count
  pub each : (n : ℕ) → n < count → slice_index_or above n None ≡ kept_inner (slice_range nodes (n * 16) (n * 16 + 16))

-- these are what is kept of so many nodes, which are so many levels above the buckets
pub record KeepsLevel (levels : ℕ) (path_of : ℕ → List ℕ) (count : ℕ) (held : KeyDigests)
    (nodes : List (Option (List ℕ))) : Type 0 where
  pub all : length nodes ≡ count
  pub each : (n : ℕ) → n < count → slice_index_or nodes n None ≡ kept_node levels held (path_of n)

-- the buckets, and what is kept of all nodes over them
pub record KeepsTree (buckets : List KeyDigests) (lowest middle upper : List (Option (List ℕ)))
    (root : Option (List ℕ)) : Type 0 where
  pub all : length buckets ≡ 4096
  pub apart : AreApart buckets
  pub keeps_lowest : KeepsLevel 0 path_of_three 4096 (gathered buckets) lowest
  pub keeps_middle : KeepsLevel 1 path_of_two 256 (gathered buckets) middle
  pub keeps_upper : KeepsLevel 2 path_of_one 16 (gathered buckets) upper
  pub keeps_root : root ≡ kept_node 3 (gathered buckets) []
