-- The hash tree of depth 3 over the digests of the keys that are held, after Merkle's, as replicas compare what they
-- hold by it (DeCandia et al., Dynamo: Amazon's Highly Available Key-value Store, 2007, section 4.7). SHA-256 is that
-- of FIPS 180-4.
use Rattle.std.specs.Prelude.{ℕ, zero, suc, ◌-◌, ◌/◌, ◌%◌, Bool, true, false, cond, ◌&&◌, ◌==◌, List, [], ◌∷◌, ◌++◌, length, flat_map, replicate, slice_index, nat_eq}
use Rattle.std.specs.FinMap.{FinMap, entries, len, retain_keys}
use Rattle.mvd_digest.specs.Sha256.{sha256}
use Rattle.mvd_keys.specs.Key.{key_cmp}

-- the digests of the keys that are held
abbrev pub KeyDigests : Type 0
KeyDigests = FinMap key_cmp (List ℕ)

-- the path of a key in the tree: the first three hexadecimal digits of its SHA-256
unfoldable pub path_of_key : List ℕ → List ℕ
path_of_key key = slice_index (sha256 key) 0 / 16 ∷ slice_index (sha256 key) 0 % 16 ∷ slice_index (sha256 key) 1 / 16
    ∷ []

-- whether a path begins with the digits of a path
abbrev pub begins : List ℕ → List ℕ → Bool
begins [] place = true
begins (d ∷ path) [] = false
begins (d ∷ path) (e ∷ place) = (d == e) && begins path place

-- whether a key stands under the node at a path
abbrev pub is_under : List ℕ → List ℕ → Bool
is_under path key = begins path (path_of_key key)

-- the keys under a path, with their digests
unfoldable pub under : List ℕ → KeyDigests → KeyDigests
under path held = retain_keys held (is_under path)

-- the digits of a node's children
abbrev pub sixteen : List ℕ
sixteen = 0 ∷ 1 ∷ 2 ∷ 3 ∷ 4 ∷ 5 ∷ 6 ∷ 7 ∷ 8 ∷ 9 ∷ 10 ∷ 11 ∷ 12 ∷ 13 ∷ 14 ∷ 15 ∷ []

unfoldable pub digits : List ℕ
digits = sixteen

-- the digest of a node under which no key is held
unfoldable pub zero_digest : List ℕ
zero_digest = replicate 32 0

-- the text's SHA-256, or zeros where no key is held
unfoldable pub digest_unless_empty : KeyDigests → List ℕ → List ℕ
digest_unless_empty held text = cond (nat_eq (len held) 0) zero_digest (sha256 text)

-- the digest of the node at a path, so many levels above the buckets
unfoldable pub digest_above : ℕ → KeyDigests → List ℕ → List ℕ
digest_above zero held path = digest_unless_empty (under path held) (flat_map (λ e. e.1) (entries (under path held)))
digest_above (suc levels) held path =
    digest_unless_empty (under path held) (flat_map (λ d. digest_above levels held (path ++ d ∷ [])) digits)

-- what it hashes: the digests of its keys in rising order, or those of its children
unfoldable pub text_above : ℕ → KeyDigests → List ℕ → List ℕ
text_above zero held path = flat_map (λ e. e.1) (entries (under path held))
text_above (suc levels) held path = flat_map (λ d. digest_above levels held (path ++ d ∷ [])) digits

-- the digest of the node at a path of at most three digits
abbrev pub node_digest : KeyDigests → List ℕ → List ℕ
node_digest held path = digest_above (3 - length path) held path
