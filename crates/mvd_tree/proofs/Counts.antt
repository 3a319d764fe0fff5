-- Counts of what is hashed in steps, and of the keys that the buckets have.
use Rattle.std.proofs.Common.{◌≡◌, ℕ, zero, suc, ◌+◌, ◌<◌, ◌≤◌, true, false, cond, List, [], ◌∷◌, ◌++◌, length, length-append, get_or, set, take, map, refl, sym, ap, subst, ◌∙◌, arith, add-one}
use Rattle.std.specs.Prelude.{flat_map}
use Rattle.std.specs.FinMap.{empty, entries, insert, len, len-entries, len-empty, len-insert, contains_key}
use Rattle.std.specs.Cmp.Lexicographic.{nat_list_cmp_total}
use Rattle.std.proofs.Math.Seq.{take-suc}
use Rattle.std.proofs.lemmas.List.{map-append}
use Rattle.std.proofs.lemmas.Grind.{flat_map-append}
use Rattle.mvd_tree.specs.HashTree.{KeyDigests}
use Rattle.mvd_digest.specs.Counted.{Hashes}
use Rattle.mvd_tree.specs.Counted.{all_keys, key_bytes}
use Rattle.mvd_digest.specs.declared.digest.Hashed.{Hashed}

pub hashes_then : (a b p q m n : ℕ) (x y z : Hashed) → a + p ≤ m → b + q ≤ n → Hashes a b x y → Hashes p q y z → Hashes m n x z
hashes_then a b p q m n x y z ends reads first second = record {
  ends = both _ _ _ a p m ends first.ends second.ends;
  reads = both _ _ _ b q n reads first.reads second.reads;
  least_ends = least _ _ _ first.least_ends second.least_ends;
  least_reads = least _ _ _ first.least_reads second.least_reads;
}
  where
    both : (x y z a p m : ℕ) → a + p ≤ m → y ≤ x + a → z ≤ y + p → z ≤ x + m
    both x y z a p m h e f = omega arith

    least : (x y z : ℕ) → x ≤ y → y ≤ z → x ≤ z
    least x y z e f = omega arith

all_more : (b : KeyDigests) (bs : List KeyDigests) → all_keys (b ∷ bs) ≡ len b + all_keys bs
all_more b bs = length-append (entries b) (flat_map entries bs) ∙ ap (λ n. n + all_keys bs) (sym (len-entries b))

-- buckets that are all empty have no key
pub no_keys : (bs : List KeyDigests) → ((n : ℕ) → get_or bs n empty ≡ empty) → all_keys bs ≡ 0
no_keys [] each = refl
no_keys (b ∷ bs) each =
    let first : len b ≡ 0 = ap len (each 0) ∙ len-empty _ _ in
    let rest = no_keys bs (λ n. each (suc n)) in
    let all = all_more b bs in omega (arith, first, rest, all)

-- one bucket is set to one that has at most one key more
pub keys_set : (bs : List KeyDigests) (n : ℕ) (b : KeyDigests) → len b ≤ len (get_or bs n empty) + 1 → all_keys (set bs n b) ≤ all_keys bs + 1
keys_set [] n b more = omega arith
keys_set (c ∷ bs) zero b more = let old = all_more c bs in let new = all_more b bs in omega (arith, old, new, more)
keys_set (c ∷ bs) (suc n) b more = let rest = keys_set bs n b more in let old = all_more c bs in let new = all_more c (set bs n b) in omega (arith, rest, old, new)

-- a key that is put in makes at most one more
pub one_key : (b : KeyDigests) (key digest : List ℕ) → len (insert b key digest) ≤ len b + 1
one_key b key digest =
    subst (λ n. n ≤ len b + 1) (sym (len-insert nat_list_cmp_total b key digest))
    (elim (contains_key b key) as (λ held. cond held (len b) (len b + 1) ≤ len b + 1) [ true ↦ omega arith | false ↦ omega arith ])

-- the keys of the first buckets and of the next one are among all
pub keys_taken : (bs : List KeyDigests) (n : ℕ) (b : KeyDigests) → n < length bs → b ≡ get_or bs n b → all_keys (take n bs) + len b ≤ all_keys bs
keys_taken [] n b within is = absurd (omega arith)
keys_taken (c ∷ bs) zero b within is = let all = all_more c bs in let same = ap len is in omega (arith, all, same)
keys_taken (c ∷ bs) (suc n) b within is =
    let rest = keys_taken bs n b (omega arith) is in let old = all_more c bs in let new = all_more c (take n bs) in omega (arith, rest, old, new)

-- one key more has so many bytes more
pub bytes_more : (es : List (List ℕ × List ℕ)) (e : List ℕ × List ℕ) → key_bytes (es ++ e ∷ []) ≡ key_bytes es + length e.0
bytes_more es e =
    let joined = ap length (flat_map-append (λ e. e.0) es (e ∷ [])) in
    let both = length-append (flat_map (λ e. e.0) es) (e.0 ++ []) in
    let last = length-append e.0 [] in omega (arith, joined, both, last)

-- the keys of one bucket more
pub keys_next : (bs : List KeyDigests) (n : ℕ) (d : KeyDigests) → n < length bs → all_keys (take (n + 1) bs) ≡ all_keys (take n bs) + len (get_or bs n d)
keys_next bs n d within =
    let next = ap all_keys (ap (λ k. take k bs) (add-one n) ∙ take-suc bs n d within) in
    let joined = ap length (flat_map-append entries (take n bs) (get_or bs n d ∷ [])) in
    let both = length-append (flat_map entries (take n bs)) (flat_map entries (get_or bs n d ∷ [])) in
    let one = all_more (get_or bs n d) [] in omega (arith, next, joined, both, one)

-- what is made of one thing more
pub map_next : {X Y : Type 0} (f : X → Y) (xs : List X) (n : ℕ) (d : X) → n < length xs → map f (take (n + 1) xs) ≡ map f (take n xs) ++ f (get_or xs n d) ∷ []
map_next f xs n d within = ap (map f) (ap (λ k. take k xs) (add-one n) ∙ take-suc xs n d within) ∙ map-append f (take n xs) (get_or xs n d ∷ [])

-- a list in which a thing is set to what it was
pub set_own : {X : Type 0} (xs : List X) (n : ℕ) (x : X) → x ≡ get_or xs n x → set xs n x ≡ xs
set_own [] n x is = refl
set_own (y ∷ xs) zero x is = ap (λ z. z ∷ xs) is
set_own (y ∷ xs) (suc n) x is = ap (λ ys. y ∷ ys) (set_own xs n x is)
