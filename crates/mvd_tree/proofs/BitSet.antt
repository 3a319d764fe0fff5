-- Numbers in words of 64 bits, and the numbers of the nodes over the first keys.
use Rattle.std.proofs.Common.{◌≡◌, ℕ, zero, suc, ◌+◌, ◌*◌, ◌/◌, ◌%◌, ◌^◌, ◌<◌, ◌≤◌, Bool, true, false, not, ◌&&◌, ◌||◌, eqb, List, Option, length, map, take, replicate, get_or, set, inl, inr, refl, sym, ap, ◌∙◌, arith, length-set, get_or-set_same, get_or-set_other, eq-eqb, ne_eqb, w64}
use Rattle.std.specs.Prelude.{bit_and, bit_or, nat_eq}
use Rattle.std.specs.Cmp.{nat_cmp_total, nat_eq_equiv, unsigned_Decides, unsigned_tied}
use Rattle.std.specs.FinSet.{contains, contains-empty, contains-from_list_nat, contains-insert, empty, from_list, from_list_push, insert, nat_cmp-IsAntisymmetric, same_set}
use Rattle.std.specs.Int.{bit_at}
use Rattle.std.specs.List.{range_with_len}
use Rattle.std.specs.Ordering.{nat_cmp}
use Rattle.std.specs.Set.{is_member}
use Rattle.std.proofs.lemmas.Bool.{and_right, cases_eq}
use Rattle.std.proofs.lemmas.Map.Made.{is_member-filter}
use Rattle.std.proofs.lemmas.Nat.{one_shl, pow_pos}
use Rattle.std.proofs.lemmas.Nat.Bits.{and_pow, bit_at-zero, bit_at_set_other, bit_at_set_same}
use Rattle.mvd_tree.specs.Layout.{bucket_of}
use Rattle.mvd_tree.specs.BitSet.{is_set, numbers_in}
use Rattle.mvd_tree.specs.Touched.{Changes}
use Rattle.mvd_tree.proofs.Counts.{map_next}
use Rattle.mvd_tree.proofs.Renewing.{member_turned}

-- ---- words

-- a number from one to below another is in the range
in_range : (from n q : ℕ) → from ≤ q → q < from + n → is_member nat_eq (range_with_len from n) q ≡ true
in_range from zero q low high = absurd (omega arith)
in_range from (suc n) q low high =
    elim (cases_eq q from) [
      | inl same ↦ ap (λ b. b || is_member nat_eq (range_with_len (from + 1) n) q) (eq-eqb q from same)
      | inr other ↦ ap (λ b. b || is_member nat_eq (range_with_len (from + 1) n) q) (ne_eqb q from other) ∙ in_range (from + 1) n q (omega arith) (omega arith)
    ]

contains_in : (words : List ℕ) (q : ℕ) → contains (numbers_in words) q ≡ (is_member nat_eq (range_with_len 0 (64 * length words)) q && is_set words q)
unfolding numbers_in
contains_in words q =
    contains-from_list_nat _ q ∙ member_turned _ q
    ∙ is_member-filter nat_eq_equiv (is_set words) q (λ x e. ap (is_set words) ((unsigned_Decides q x).0 e)) (range_with_len 0 (64 * length words))

zero_at : (n i : ℕ) → get_or (replicate n zero) i zero ≡ zero
zero_at zero i = refl
zero_at (suc n) zero = refl
zero_at (suc n) (suc i) = zero_at n i

-- zeros have no number
pub none_in : (n : ℕ) → numbers_in (replicate n 0) ≡ empty
none_in n =
    same_set nat_cmp_total nat_cmp-IsAntisymmetric _ _ (λ q.
    contains_in (replicate n 0) q
    ∙ and_right _ _ (ap (λ x. eqb (bit_at x (q % 64)) 1) (zero_at n (q / 64)) ∙ ap (λ x. eqb x 1) (bit_at-zero (q % 64)))
    ∙ sym (contains-empty nat_cmp q))

-- the test `word & bit == 0`
bit_clear : (word k : ℕ) → k < 64 → eqb (bit_and word (1 * 2 ^ k % 2 ^ 64)) 0 ≡ not (eqb (bit_at word k) 1)
bit_clear word k h =
    let e : bit_and word (1 * 2 ^ k % 2 ^ 64) ≡ bit_at word k * 2 ^ k = ap (bit_and word) (one_shl k 64 h) ∙ and_pow word k in
    let b : ℕ = bit_at word k in
    let small : b < 2 = omega arith in
    elim (cases_eq b 1) [
      | inl one ↦
          let big : 0 < bit_and word (1 * 2 ^ k % 2 ^ 64) = rw (e, one) (omega (arith, pow_pos k)) in
          ne_eqb _ 0 (omega arith) ∙ sym (ap not (eq-eqb b 1 one))
      | inr other ↦
          let none : b ≡ 0 = omega arith in
          eq-eqb _ 0 (rw (e, none) (omega arith)) ∙ sym (ap not (ne_eqb b 1 other))
    ]

module _ (words : List ℕ) (n word : ℕ) (within : n < 64 * length words) (read : word ≡ get_or words (n / 64) 0) where
  abbrev pub more : List ℕ
  more = set words (n / 64) (bit_or word (1 * 2 ^ (n % 64) % 2 ^ 64))

  -- whether a number is new
  pub is_new : eqb (bit_and word (1 * 2 ^ (n % 64) % 2 ^ 64)) 0 ≡ not (contains (numbers_in words) n)
  is_new =
      bit_clear word (n % 64) (omega arith)
      ∙ ap (λ x. not (eqb (bit_at x (n % 64)) 1)) read
      ∙ sym (ap not (contains_in words n ∙ ap (λ b. b && is_set words n) (in_range 0 (64 * length words) n (omega arith) (omega arith))))

  is_set-more : (q : ℕ) → is_set more q ≡ (nat_eq q n || is_set words q)
  is_set-more q =
      let v : ℕ = bit_or word (1 * 2 ^ (n % 64) % 2 ^ 64) in
      let word_in : n / 64 < length words = omega arith in
      let low : n % 64 < 64 = omega arith in
      elim (cases_eq q n) [
        | inl same ↦
            ap (is_set more) same
            ∙ ap (λ x. eqb (bit_at x (n % 64)) 1) (get_or-set_same words (n / 64) v 0 word_in)
            ∙ eq-eqb _ 1 (bit_at_set_same w64 word (n % 64) low)
            ∙ sym (ap (λ b. b || is_set words q) (eq-eqb q n same))
        | inr other ↦
            (elim (cases_eq (q / 64) (n / 64)) as (λ _. is_set more q ≡ is_set words q) [
              | inl row ↦
                  ap (λ i. eqb (bit_at (get_or more i 0) (q % 64)) 1) row
                  ∙ ap (λ x. eqb (bit_at x (q % 64)) 1) (get_or-set_same words (n / 64) v 0 word_in)
                  ∙ ap (λ x. eqb x 1) (bit_at_set_other w64 word (n % 64) low (q % 64) (omega arith))
                  ∙ ap (λ x. eqb (bit_at x (q % 64)) 1) (read ∙ ap (λ i. get_or words i 0) (sym row))
              | inr apart ↦ ap (λ x. eqb (bit_at x (q % 64)) 1) (get_or-set_other words (n / 64) (q / 64) v 0 apart)
            ])
            ∙ sym (ap (λ b. b || is_set words q) (ne_eqb q n other))
      ]

  -- a number is put in
  pub numbers_in-set : numbers_in more ≡ insert (numbers_in words) n
  numbers_in-set =
      same_set nat_cmp_total nat_cmp-IsAntisymmetric _ _ (λ q.
      contains_in more q
      ∙ (λ i. is_member nat_eq (range_with_len 0 (64 * length-set words (n / 64) (bit_or word (1 * 2 ^ (n % 64) % 2 ^ 64)) i)) q && is_set-more q i)
      ∙ and_or (is_member nat_eq (range_with_len 0 (64 * length words)) q) (nat_eq q n) (is_set words q) (λ e.
      let same = (unsigned_Decides q n).0 e in in_range 0 (64 * length words) q (omega arith) (omega arith))
      ∙ sym (contains-insert nat_cmp_total (numbers_in words) n q ∙ (λ i. unsigned_tied q n i || contains_in words q i)))
    where
      and_or : (m e b : Bool) → (e ≡ true → m ≡ true) → (m && (e || b)) ≡ (e || (m && b))
      and_or true true b h = refl
      and_or true false b h = refl
      and_or false true b h = h refl
      and_or false false b h = refl

-- ---- the numbers of the nodes over the first keys

-- what the set tells
pub tells : (by : ℕ) (cs : Changes) (n : ℕ) → contains (from_list {R = nat_cmp} (map (λ c. bucket_of c.0 / by) cs)) n ≡ is_member nat_eq (map (λ c. bucket_of c.0 / by) cs) n
tells by cs n = contains-from_list_nat _ n ∙ member_turned _ n

-- and that of the next key
pub numbers_next : (by : ℕ) (cs : Changes) (i : ℕ) (d : List ℕ × Option (List ℕ)) → i < length cs
    → insert (from_list {R = nat_cmp} (map (λ c. bucket_of c.0 / by) (take i cs))) (bucket_of (get_or cs i d).0 / by) ≡ from_list (map (λ c. bucket_of c.0 / by) (take (i + 1) cs))
numbers_next by cs i d within =
    sym (ap from_list (map_next (λ (c : List ℕ × Option (List ℕ)). bucket_of c.0 / by) cs i d within) ∙ from_list_push nat_cmp_total nat_cmp-IsAntisymmetric _ _)
