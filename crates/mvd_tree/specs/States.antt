-- The digests of keys in their states, by SHA-256 (FIPS 180-4), where a key in a state is spelled somehow.
use Rattle.std.specs.Prelude.{ℕ, List, map}
use Rattle.std.specs.FinMap.{FinMap, entries, from_entries}
use Rattle.mvd_digest.specs.Sha256.{sha256}
use Rattle.mvd_keys.specs.Key.{key_cmp}
use Rattle.mvd_tree.specs.HashTree.{KeyDigests}

-- the digest of a key in a state: SHA-256 of the two as they are spelled, one after the other
unfoldable pub key_digest : {S : Type 0} → (List ℕ → S → List ℕ) → List ℕ → S → List ℕ
key_digest spelled key state = sha256 (spelled key state)

-- the digests of the keys that are held in these states
unfoldable pub digests_of : {S : Type 0} → (List ℕ → S → List ℕ) → FinMap key_cmp S → KeyDigests
digests_of spelled states = from_entries (map (λ e. (e.0, key_digest spelled e.0 e.1)) (entries states))
