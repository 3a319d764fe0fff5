-- States of SHA-256 computations (FIPS 180-4) that are kept, so that a computation goes on from there: a node's digest
-- is one over its sixteen children's digests, and a bucket's is one over the digests of its keys.
use Rattle.std.specs.Prelude.{◌≡◌, ℕ, ◌+◌, ◌*◌, ◌/◌, ◌%◌, ◌<◌, ◌≤◌, List, T, length, flat_map, take, slice_index_or, slice_range, Option, None, IfSome}
use Rattle.std.specs.FinMap.{is_sorted}
use Rattle.mvd_keys.specs.Key.{key_cmp}
use Rattle.mvd_digest.specs.Counted.{Absorbed}
use Rattle.mvd_tree.specs.Kept.{digest_or_zeros}
use Rattle.mvd_digest.specs.declared.digest.CountedHasher.{CountedHasher}

-- the computation has read the digests of the node's children before this group of four
abbrev pub IsMidstate : List (Option (List ℕ)) → ℕ → CountedHasher → Type 0
IsMidstate nodes group midstate =
    Absorbed midstate (flat_map digest_or_zeros (slice_range nodes (group / 4 * 16) (group * 4)))

-- of the midstates of groups, those from one to before another are forgotten, and the others are as they were
pub record AreForgotten (old new : List (Option CountedHasher)) (from to : ℕ) : Type 0 where
  pub all : length new ≡ length old
  pub below : (group : ℕ) → group < from → slice_index_or new group None ≡ slice_index_or old group None
  pub gone : (group : ℕ) → from ≤ group → group < to → slice_index_or new group None ≡ None
  pub above : (group : ℕ) → to ≤ group → slice_index_or new group None ≡ slice_index_or old group None

-- There is room for the midstate before each group of nodes, of which each node above has four; and each that is kept
-- is that of its group
pub record HasMidstates (nodes : List (Option (List ℕ))) (midstates : List (Option CountedHasher)) : Type 0 where
  pub all : length nodes ≡ length midstates * 4
  pub whole : length midstates % 4 ≡ 0
  pub each : (group : ℕ) → IfSome (slice_index_or midstates group None) (IsMidstate nodes group)

-- the computation has read the digests of so many keys of a bucket
abbrev pub HasRead : List (List ℕ × List ℕ) → ℕ → CountedHasher → Type 0
HasRead es n midstate = Absorbed midstate (flat_map (λ e. e.1) (take n es))

-- these are the midstates of a bucket behind its first sixteen keys, behind its first thirty-two, and so on, as many as
-- are kept
pub record AreRead (es : List (List ℕ × List ℕ)) (midstates : List CountedHasher) : Type 0 where
  pub within : length midstates * 16 ≤ length es
  pub each : (i : ℕ) (d : CountedHasher) → i < length midstates
      → HasRead es (i * 16 + 16) (slice_index_or midstates i d)

-- the keys of a bucket rise, and its midstates are of them
pub record IsBucket (es : List (List ℕ × List ℕ)) (midstates : List CountedHasher) : Type 0 where
  pub sorted : T (is_sorted key_cmp es)
  pub read : AreRead es midstates
