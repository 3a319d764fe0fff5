-- The buckets and the nodes of a tree once many keys have changed.
use Rattle.std.specs.Prelude.{◌≡◌, ℕ, ◌/◌, List, [], ◌∷◌, length, map, nat_eq, slice_index_or, slice_set, Option}
use Rattle.std.specs.FinMap.{empty}
use Rattle.std.specs.List.{IsDistinct}
use Rattle.std.specs.Set.{is_member}
use Rattle.mvd_digest.specs.Counted.{Hashes}
use Rattle.mvd_digest.specs.declared.digest.Hashed.{Hashed}
use Rattle.mvd_tree.specs.Change.{changed}
use Rattle.mvd_tree.specs.HashTree.{KeyDigests}
use Rattle.mvd_tree.specs.Layout.{bucket_of}
use Rattle.mvd_tree.specs.Touched.{Changes}

-- the buckets once each key has changed in its own
abbrev pub with_changes : Changes → List KeyDigests → List KeyDigests
with_changes [] buckets = buckets
with_changes (c ∷ changes) buckets =
    let n = bucket_of c.0 in
    with_changes changes (slice_set buckets n (changed (slice_index_or buckets n empty) c.0 c.1))

-- nodes once each of these was set to what is told of its number
abbrev pub set_each : (ℕ → Option (List ℕ)) → List ℕ → List (Option (List ℕ)) → List (Option (List ℕ))
set_each told [] nodes = nodes
set_each told (n ∷ numbers) nodes = set_each told numbers (slice_set nodes n (told n))

-- these are the quotients of numbers, each once
pub record AreQuotients (numbers : List ℕ) (by : ℕ) (found : List ℕ) : Type 0 where
  pub once : IsDistinct nat_eq found
  pub same : (q : ℕ) → is_member nat_eq found q ≡ is_member nat_eq (map (λ n. n / by) numbers) q

-- nodes once each that stands over one of the keys was set to what is told of its number, and once; and the
-- computations of those
pub record Renews
    (told : ℕ → Option (List ℕ)) (bytes : List ℕ → ℕ) (by : ℕ) (changes : Changes) (old new : List (Option (List ℕ)))
    (before after : Hashed) : Type 0 where
  pub found : List ℕ
  pub are : AreQuotients (map (λ c. bucket_of c.0) changes) by found
  pub nodes : new ≡ set_each told found old
  pub hashes : Hashes (length found) (bytes found) before after
