-- Changes of many keys at once, which make each node anew that stands over one of the keys, and each once.
use Rattle.std.specs.Prelude.{◌≡◌, ℕ, ◌+◌, ◌*◌, ◌/◌, ◌^◌, ◌<◌, List, length, map, take, nat_eq, ⊤, Option, Result, IfErr, OnOk}
use Rattle.std.specs.FinMap.{len, retain_keys}
use Rattle.std.specs.List.{sum_by}
use Rattle.std.specs.Set.{distinct_count, is_member}
use Rattle.mvd_dots.specs.declared.refusals.Refusal.{Refusal}
use Rattle.mvd_dots.specs.declared.refusals.Refusal.TheVariants.{Broken}
use Rattle.mvd_digest.specs.Counted.{Hashes}
use Rattle.mvd_digest.specs.declared.digest.Hashed.{Hashed}
use Rattle.mvd_tree.specs.Change.{changed_all}
use Rattle.mvd_tree.specs.HashTree.{KeyDigests}
use Rattle.mvd_tree.specs.Layout.{bucket_of}

-- keys with the digests that they are to have, or none
abbrev pub Changes : Type 0
Changes = List (List ℕ × Option (List ℕ))

-- the numbers of the nodes, so many levels above the buckets, that stand over the keys
abbrev pub touched : ℕ → Changes → List ℕ
touched levels changes = map (λ c. bucket_of c.0 / 16 ^ levels) changes

-- how many nodes that are
abbrev pub count_touched : ℕ → Changes → ℕ
count_touched levels changes = distinct_count nat_eq (touched levels changes)

-- how many of them are above the buckets, the root included
abbrev pub inner_touched : Changes → ℕ
inner_touched changes = count_touched 1 changes + count_touched 2 changes + count_touched 3 changes

-- how many keys the buckets have
abbrev pub keys_touched : KeyDigests → Changes → ℕ
keys_touched held changes = len (retain_keys held (λ key. is_member nat_eq (touched 0 changes) (bucket_of key)))

-- how many bytes the keys have that are changed
abbrev pub changed_bytes : Changes → ℕ
changed_bytes changes = sum_by (λ c. length c.0) changes

-- What a call does that is to change all these keys: it does, or memory is refused, which is `Broken`, and some of the
-- first are changed, and not all. It computes the digest of each bucket and that of each node above at most once.
-- These read the digests of the keys in the buckets, and at most sixteen digests of each node
pub record ChangesAll
    (changes : Changes) (old new : KeyDigests) (result : Result ⊤ Refusal) (before after : Hashed) : Type 0 where
  pub ok : OnOk result (new ≡ changed_all old changes)
  pub err : IfErr result
      (λ refusal. (refusal ≡ Broken) × ((n : ℕ) × (n < length changes) × (new ≡ changed_all old (take n changes))))
  pub hashes : Hashes (count_touched 0 changes + inner_touched changes)
      (32 * keys_touched new changes + 512 * inner_touched changes) before after
