-- The SHA-256 computation of a node, or of a bucket, goes on from a midstate.
use Rattle.std.proofs.Common.{◌≡◌, ◌⊎◌, inl, inr, ℕ, zero, suc, ◌+◌, ◌-◌, ◌*◌, ◌/◌, ◌%◌, ◌<◌, ◌≤◌, List, [], ◌∷◌, ◌++◌, length, take, drop, get_or, set, refl, sym, ap, subst, subst₂, ◌∙◌, arith, add-one, Option, Some, None}
use Rattle.std.specs.List.{insert, remove}
use Rattle.std.proofs.lemmas.List.{append-nil, get_or-set_other, get_or-set_same, get_or-take, length-set, length-take, take-take}
use Rattle.std.proofs.lemmas.List.Edits.{length-insert}
use Rattle.std.specs.Prelude.{slice_range, flat_map, IfSome}
use Rattle.std.proofs.lemmas.Bool.{cases_lt}
use Rattle.std.proofs.Math.Seq.{take-add, take-suc}
use Rattle.std.proofs.lemmas.List.{drop-drop, take-set-le, drop-set-lt, drop-set-add}
use Rattle.std.proofs.lemmas.Grind.{flat_map-append}
use Rattle.mvd_digest.specs.Counted.{Absorbed}
use Rattle.mvd_tree.specs.Kept.{digest_or_zeros}
use Rattle.mvd_tree.specs.Midstates.{AreForgotten, AreRead, HasMidstates, HasRead, IsMidstate}
use Rattle.mvd_tree.proofs.Entries.{Entry}
use Rattle.mvd_tree.proofs.Gathered.{same_or_not}
use Rattle.mvd_digest.specs.declared.digest.CountedHasher.{CountedHasher}

-- two parts of a list, one after the other
slices-join : {X : Type 0} (xs : List X) (a b c : ℕ) → a ≤ b → b ≤ c → slice_range xs a b ++ slice_range xs b c ≡ slice_range xs a c
slices-join xs a b c low high =
    let back : a + (b - a) ≡ b = omega arith in
    let whole : (b - a) + (c - b) ≡ c - a = omega arith in
    ap (λ rest. take (b - a) (drop a xs) ++ take (c - b) rest) (ap (λ n. drop n xs) (sym back) ∙ sym (drop-drop (b - a) a xs))
    ∙ sym (take-add (b - a) (c - b) (drop a xs)) ∙ ap (λ n. take n (drop a xs)) whole

-- a part of a list is the same once something outside of it was set
slice-set_after : {X : Type 0} (xs : List X) (a b n : ℕ) (x : X) → a ≤ b → b ≤ n → slice_range (set xs n x) a b ≡ slice_range xs a b
slice-set_after xs a b n x low high =
    let at : a + (n - a) ≡ n = omega arith in
    ap (λ k. take (b - a) (drop a (set xs k x))) (sym at) ∙ ap (take (b - a)) (drop-set-add a xs (n - a) x) ∙ take-set-le (b - a) (drop a xs) (n - a) x (omega arith)

slice-set_before : {X : Type 0} (xs : List X) (a b n : ℕ) (x : X) → n < a → slice_range (set xs n x) a b ≡ slice_range xs a b
slice-set_before xs a b n x h = ap (take (b - a)) (drop-set-lt a xs n x h)

-- where a number stands of two others
three_parts : (n from to : ℕ) → (n < from) ⊎ (((from ≤ n) × (n < to)) ⊎ (to ≤ n))
three_parts n from to = elim (cases_lt n from) [
  | inl low ↦ inl low
  | inr high ↦ elim (cases_lt n to) [
    | inl low ↦ inr (inl (high, low))
    | inr above ↦ inr (inr above)
  ]
]

-- once a group has been read, the next one is at hand
pub read_on : (nodes : List (Option (List ℕ))) (group to : ℕ) (midstate after : CountedHasher)
    → IsMidstate nodes group midstate
    → ((m : List ℕ) → Absorbed midstate m → Absorbed after (m ++ flat_map digest_or_zeros (slice_range nodes (group * 4) to)))
    → group * 4 ≤ to
    → Absorbed after (flat_map digest_or_zeros (slice_range nodes (group / 4 * 16) to))
read_on nodes group to midstate after is reads on =
    subst (Absorbed after)
    (sym (flat_map-append digest_or_zeros (slice_range nodes (group / 4 * 16) (group * 4)) (slice_range nodes (group * 4) to))
    ∙ ap (flat_map digest_or_zeros) (slices-join nodes (group / 4 * 16) (group * 4) to (omega arith) on))
    (reads _ is)

-- a computation that is kept before one group more
pub keeps_more : (nodes : List (Option (List ℕ))) (midstates : List (Option CountedHasher)) (group : ℕ) (midstate : CountedHasher)
    → HasMidstates nodes midstates → group < length midstates → IsMidstate nodes group midstate → HasMidstates nodes (set midstates group (Some midstate))
keeps_more nodes midstates group midstate has within is = record {
  all = let same = length-set midstates group (Some midstate) in omega (arith, same, has.all);
  whole = ap (λ n. n % 4) (length-set midstates group (Some midstate)) ∙ has.whole;
  each = λ other. elim (same_or_not other group) [
    | inl e ↦ subst (λ m. IfSome m (IsMidstate nodes other)) (sym (ap (λ n. get_or (set midstates group (Some midstate)) n None) e ∙ get_or-set_same midstates group (Some midstate) None within)) (subst (λ n. IsMidstate nodes n midstate) (sym e) is)
    | inr e ↦ subst (λ m. IfSome m (IsMidstate nodes other)) (sym (get_or-set_other midstates group other (Some midstate) None e)) (has.each other)
  ];
}

-- once a node was set, the midstates are forgotten after its group, up to the last one of the same node above
pub forgotten-set : (nodes : List (Option (List ℕ))) (midstates after : List (Option CountedHasher)) (number : ℕ) (kept : Option (List ℕ)) → HasMidstates nodes midstates
    → AreForgotten midstates after (number / 4 + 1) (number / 4 / 4 * 4 + 4) → HasMidstates (set nodes number kept) after
forgotten-set nodes midstates after number kept has are = record {
  all = let same = length-set nodes number kept in omega (arith, same, has.all, are.all);
  whole = ap (λ n. n % 4) are.all ∙ has.whole;
  each = λ group. elim (three_parts group (number / 4 + 1) (number / 4 / 4 * 4 + 4)) [
    | inl low ↦ subst₂ (λ m part. IfSome m (λ (h : CountedHasher). Absorbed h (flat_map digest_or_zeros part))) (sym (are.below group low)) (sym (slice-set_after nodes (group / 4 * 16) (group * 4) number kept (omega arith) (omega (arith, low)))) (has.each group)
    | inr (inl mid) ↦ subst (λ m. IfSome m (IsMidstate (set nodes number kept) group)) (sym (are.gone group mid.0 mid.1)) tt
    | inr (inr high) ↦ subst₂ (λ m part. IfSome m (λ (h : CountedHasher). Absorbed h (flat_map digest_or_zeros part))) (sym (are.above group high)) (sym (slice-set_before nodes (group / 4 * 16) (group * 4) number kept (omega (arith, high)))) (has.each group)
  ];
}

-- ---- of a bucket

take-insert : {X : Type 0} (n i : ℕ) (xs : List X) (x : X) → n ≤ i → i ≤ length xs → take n (insert xs i x) ≡ take n xs
take-insert zero i xs x low within = refl
take-insert (suc n) zero xs x low within = absurd (omega arith)
take-insert (suc n) (suc i) [] x low within = absurd (omega arith)
take-insert (suc n) (suc i) (y ∷ xs) x low within = ap (λ ys. y ∷ ys) (take-insert n i xs x (omega arith) (omega arith))

take-remove : {X : Type 0} (n i : ℕ) (xs : List X) → n ≤ i → i < length xs → take n (remove xs i) ≡ take n xs
take-remove zero i xs low within = refl
take-remove (suc n) zero xs low within = absurd (omega arith)
take-remove (suc n) (suc i) [] low within = absurd (omega arith)
take-remove (suc n) (suc i) (y ∷ xs) low within = ap (λ ys. y ∷ ys) (take-remove n i xs (omega arith) (omega arith))

length-remove : {X : Type 0} (i : ℕ) (xs : List X) → i < length xs → length (remove xs i) + 1 ≡ length xs
length-remove i [] within = absurd (omega arith)
length-remove zero (x ∷ xs) within = omega arith
length-remove (suc i) (x ∷ xs) within = let rest = length-remove i xs (omega arith) in omega (arith, rest)

-- the midstates of the keys in front of one are those of other keys that have the same in front
read_front : (es fs : List Entry) (midstates : List CountedHasher) (n : ℕ) → AreRead es midstates → n ≤ length fs → take n fs ≡ take n es → AreRead fs (take (n / 16) midstates)
read_front es fs midstates n are within same = record {
  within = let few = length-take (n / 16) midstates in omega (arith, few);
  each = λ i d inside.
      let few = length-take (n / 16) midstates in
      let low : i < n / 16 = omega (arith, few) in
      let there : i < length midstates = omega (arith, few) in
      let front : i * 16 + 16 ≤ n = omega arith in
      subst₂ (λ part (m : CountedHasher). Absorbed m (flat_map (λ (e : Entry). e.1) part))
      (sym (take-take (i * 16 + 16) n es front) ∙ ap (take (i * 16 + 16)) (sym same) ∙ take-take (i * 16 + 16) n fs front)
      (sym (get_or-take (n / 16) midstates i d low)) (are.each i d there);
}

pub read_set : (es : List Entry) (midstates : List CountedHasher) (n : ℕ) (e : Entry) → AreRead es midstates → n ≤ length es → AreRead (set es n e) (take (n / 16) midstates)
read_set es midstates n e are within = read_front es (set es n e) midstates n are (omega (arith, length-set es n e)) (take-set-le n es n e (omega arith))

pub read_insert : (es : List Entry) (midstates : List CountedHasher) (n : ℕ) (e : Entry) → AreRead es midstates → n ≤ length es → AreRead (insert es n e) (take (n / 16) midstates)
read_insert es midstates n e are within = read_front es (insert es n e) midstates n are (omega (arith, length-insert es n e within)) (take-insert n n es e (omega arith) within)

pub read_remove : (es : List Entry) (midstates : List CountedHasher) (n : ℕ) → AreRead es midstates → n < length es → AreRead (remove es n) (take (n / 16) midstates)
read_remove es midstates n are within = read_front es (remove es n) midstates n are (omega (arith, length-remove n es within)) (take-remove n n es (omega arith) within)

-- one key more was read
pub one_more_read : (es : List Entry) (n : ℕ) (d : Entry) (midstate after : CountedHasher) → n < length es → HasRead es n midstate
    → ((m : List ℕ) → Absorbed midstate m → Absorbed after (m ++ (get_or es n d).1)) → HasRead es (n + 1) after
one_more_read es n d midstate after within read reads =
    subst (Absorbed after)
    (sym (ap (flat_map (λ (e : Entry). e.1)) (ap (λ k. take k es) (add-one n) ∙ take-suc es n d within)
    ∙ flat_map-append (λ (e : Entry). e.1) (take n es) (get_or es n d ∷ []) ∙ ap (λ l. flat_map (λ (e : Entry). e.1) (take n es) ++ l) (append-nil (get_or es n d).1)))
    (reads _ read)
