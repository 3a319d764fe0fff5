-- What is told of a node's children and of a bucket's keys.
use Rattle.std.specs.Prelude.{ℕ, Bool, true, ◌&&◌, nat_lt, List, [], ◌∷◌, ◌++◌, length, map, take, Option, Some, None}
use Rattle.std.specs.Ordering.{is_lt}
use Rattle.mvd_keys.specs.Key.{key_cmp}
use Rattle.std.specs.FinMap.{entries, retain_keys}
use Rattle.mvd_tree.specs.HashTree.{KeyDigests, is_under, digits, node_digest}

-- the digests of the children of a node above the buckets
abbrev pub children_digests : KeyDigests → List ℕ → List (List ℕ)
children_digests held path = map (λ d. node_digest held (path ++ d ∷ [])) digits

-- whether a key comes after another, or after none
abbrev pub is_after : Option (List ℕ) → List ℕ → Bool
is_after None key = true
is_after (Some after) key = is_lt (key_cmp after key)

-- the keys under a path that come after a key, with their digests
unfoldable pub keys_after : KeyDigests → List ℕ → Option (List ℕ) → KeyDigests
keys_after held path after = retain_keys held (λ key. is_under path key && is_after after key)

-- a page of a bucket: its first thousand entries after a key, and whether more are left
abbrev pub bucket_page : KeyDigests → List ℕ → Option (List ℕ) → List (List ℕ × List ℕ)
bucket_page held path after = take 1000 (entries (keys_after held path after))

abbrev pub is_more_after_page : KeyDigests → List ℕ → Option (List ℕ) → Bool
is_more_after_page held path after = nat_lt 1000 (length (entries (keys_after held path after)))
