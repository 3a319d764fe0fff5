-- What the digests of buckets read.
use Rattle.std.specs.Prelude.{ℕ, List, length, flat_map}
use Rattle.std.specs.FinMap.{len, entries}
use Rattle.mvd_tree.specs.HashTree.{KeyDigests, path_of_key, under}

-- how many keys have a key's path
abbrev pub keys_beside : KeyDigests → List ℕ → ℕ
keys_beside held key = len (under (path_of_key key) held)

-- how many bytes these keys have
abbrev pub key_bytes : List (List ℕ × List ℕ) → ℕ
key_bytes es = length (flat_map (λ e. e.0) es)

-- how many keys these buckets have
abbrev pub all_keys : List KeyDigests → ℕ
all_keys buckets = length (flat_map entries buckets)
