-- Buckets put together, and the nodes over them by number.
use Rattle.std.proofs.Common.{◌≡◌, ◌≢◌, ◌⊎◌, inl, inr, ℕ, zero, suc, ◌+◌, ◌*◌, ◌/◌, ◌%◌, ◌<◌, Bool, true, false, cond, ◌&&◌, ◌==◌, List, [], ◌∷◌, ◌++◌, length, get_or, set, refl, sym, ap, subst, ◌∙◌, arith, Some, None, Option}
use Rattle.std.specs.Prelude.{IsTrue, Ok, Err, nat_lt, flat_map, slice_index}
use Rattle.std.specs.Option.{option_or}
use Rattle.std.specs.declared.cmp.Ordering.{Ordering}
use Rattle.std.specs.declared.cmp.Ordering.TheVariants.{Less, Equal, Greater}
use Rattle.std.specs.Ordering.{nat_cmp, eq_by_cmp, is_eq}
use Rattle.std.specs.Cmp.{nat_eq_equiv, unsigned_Decides}
use Rattle.std.specs.Cmp.Lexicographic.{slice_cmp, nat_list_cmp_total}
use Rattle.std.specs.FinMap.{get, entries, empty, find, get-empty, get-insert, get-remove, get-entries, get-from_entries, same_map, retain_keys, get-retain_keys}
use Rattle.std.proofs.lemmas.List.{get_or-set_same, get_or-set_other}
use Rattle.std.proofs.lemmas.Bool.{lt-ltb}
use Rattle.mvd_digest.specs.Sha256.{sha256}
use Rattle.mvd_digest.proofs.Facts256.{length-sha256}
use Rattle.mvd_dots.specs.declared.refusals.Refusal.TheVariants.{BadPath}
use Rattle.mvd_keys.specs.Path.{path_of}
use Rattle.mvd_tree.specs.HashTree.{KeyDigests, path_of_key, begins, is_under, under}
use Rattle.mvd_tree.specs.Change.{changed}
use Rattle.mvd_tree.specs.Page.{is_after, keys_after}
use Rattle.mvd_tree.specs.Layout.{bucket_of, path_of_one, path_of_two, path_of_three, gathered, AreApart}
use Rattle.mvd_tree.proofs.Under.{keys_same, get-under}
use Rattle.mvd_tree.proofs.Bytes.{bytes-sha256}

abbrev Entry : Type 0
Entry = List ℕ × List ℕ

abbrev order : List ℕ → List ℕ → Ordering
order = slice_cmp nat_cmp

pub same_or_not : (a b : ℕ) → (a ≡ b) ⊎ (a ≢ b)
same_or_not a b =
    elim (a == b) as (λ t. (a == b) ≡ t → (a ≡ b) ⊎ (a ≢ b)) [
      | true ↦ λ e. inl ((unsigned_Decides a b).0 e)
      | false ↦ λ e. inr (λ h. let t = (unsigned_Decides a b).1 h in absurd (cc))
    ] refl

-- the digits of a place, and its number

pub byte_small : (key : List ℕ) (i : ℕ) → i < 32 → slice_index (sha256 key) i < 256
byte_small key i h = bytes-sha256 key i 0 (rw length-sha256 h)

pub bucket_of-limit : (key : List ℕ) → bucket_of key < 4096
unfolding bucket_of
bucket_of-limit key = omega (arith, byte_small key 0 (omega arith), byte_small key 1 (omega arith))

left : (a b : Bool) → IsTrue (a && b) → IsTrue a
left true b h = refl
left false b h = h

right : (a b : Bool) → IsTrue (a && b) → IsTrue b
right true b h = h
right false b h = absurd (cc)

pub under_one : (n : ℕ) (key : List ℕ) → IsTrue (is_under (path_of_one n) key) → bucket_of key / 16 / 16 ≡ n
unfolding path_of_key bucket_of
under_one n key h =
    let one : n ≡ slice_index (sha256 key) 0 / 16 = (unsigned_Decides n _).0 (left _ _ h) in
    let small : slice_index (sha256 key) 1 < 256 = byte_small key 1 (omega arith) in
    omega arith

pub under_two : (n : ℕ) (key : List ℕ) → IsTrue (is_under (path_of_two n) key) → bucket_of key / 16 ≡ n
unfolding path_of_key bucket_of
under_two n key h =
    let a = slice_index (sha256 key) 0 in
    let one : n / 16 ≡ a / 16 = (unsigned_Decides (n / 16) (a / 16)).0 (left _ _ h) in
    let two : n % 16 ≡ a % 16 = (unsigned_Decides (n % 16) (a % 16)).0 (left _ _ (right _ _ h)) in
    let small : slice_index (sha256 key) 1 < 256 = byte_small key 1 (omega arith) in
    omega arith

pub under_three : (n : ℕ) (key : List ℕ) → IsTrue (is_under (path_of_three n) key) → bucket_of key ≡ n
unfolding path_of_key bucket_of
under_three n key h =
    let a = slice_index (sha256 key) 0 in
    let b = slice_index (sha256 key) 1 in
    let one : n / 16 / 16 ≡ a / 16 = (unsigned_Decides (n / 16 / 16) (a / 16)).0 (left _ _ h) in
    let two : n / 16 % 16 ≡ a % 16 = (unsigned_Decides (n / 16 % 16) (a % 16)).0 (left _ _ (right _ _ h)) in
    let three : n % 16 ≡ b / 16 = (unsigned_Decides (n % 16) (b / 16)).0 (left _ _ (right _ _ (right _ _ h))) in
    omega arith

pub path_of_bucket : (key : List ℕ) → path_of_three (bucket_of key) ≡ path_of_key key
unfolding path_of_key bucket_of
path_of_bucket key =
    let small : slice_index (sha256 key) 1 < 256 = byte_small key 1 (omega arith) in
    let n = slice_index (sha256 key) 0 * 16 + slice_index (sha256 key) 1 / 16 in
    let one : n / 16 / 16 ≡ slice_index (sha256 key) 0 / 16 = omega arith in
    let two : n / 16 % 16 ≡ slice_index (sha256 key) 0 % 16 = omega arith in
    let three : n % 16 ≡ slice_index (sha256 key) 1 / 16 = omega arith in
    λ i. one i ∷ two i ∷ three i ∷ []

-- the path that a place is
pub path_of_place : (key digest : List ℕ) → digest ≡ sha256 key → path_of (slice_index digest 0 / 16 ∷ slice_index digest 0 % 16 ∷ slice_index digest 1 / 16 ∷ []) ≡ Ok (path_of_key key)
unfolding path_of_key
path_of_place key digest e =
    let a = slice_index (sha256 key) 0 in
    let b = slice_index (sha256 key) 1 in
    let one : a < 256 = byte_small key 0 (omega arith) in
    let two : b < 256 = byte_small key 1 (omega arith) in
    let first : nat_lt (a / 16) 16 ≡ true = lt-ltb _ _ (omega arith) in
    let second : nat_lt (a % 16) 16 ≡ true = lt-ltb _ _ (omega arith) in
    let third : nat_lt (b / 16) 16 ≡ true = lt-ltb _ _ (omega arith) in
    let d : List ℕ = a / 16 ∷ a % 16 ∷ b / 16 ∷ [] in
    ap (λ m. path_of (slice_index m 0 / 16 ∷ slice_index m 0 % 16 ∷ slice_index m 1 / 16 ∷ [])) e
    ∙ (λ i. cond (first i && (second i && (third i && true))) (Ok d) (Err BadPath))

begins_itself : (place : List ℕ) → IsTrue (begins place place)
begins_itself [] = refl
begins_itself (d ∷ place) = ap (λ b. b && begins place place) (nat_eq_equiv.refl d) ∙ begins_itself place

pub stands_under : (key : List ℕ) → IsTrue (is_under (path_of_three (bucket_of key)) key)
stands_under key = ap (λ path. begins path (path_of_key key)) (path_of_bucket key) ∙ begins_itself (path_of_key key)

-- what is found in buckets that are apart

pub find-append : (q : List ℕ) (es fs : List Entry) → find order q (es ++ fs) ≡ option_or (find order q es) (find order q fs)
find-append q [] fs = refl
find-append q (e ∷ es) fs =
    elim (eq_by_cmp order q e.0) as (λ b. cond b (Some e.1) (find order q (es ++ fs)) ≡ option_or (cond b (Some e.1) (find order q es)) (find order q fs)) [ true ↦ refl | false ↦ find-append q es fs ]

pub or_none : {X : Type 0} (o : Option X) → option_or o None ≡ o
or_none None = refl
or_none (Some x) = refl

found_nowhere : (bs : List KeyDigests) (q : List ℕ) → ((i : ℕ) → get (get_or bs i empty) q ≡ None) → find order q (flat_map entries bs) ≡ None
found_nowhere [] q h = refl
found_nowhere (b ∷ bs) q h =
    find-append q (entries b) (flat_map entries bs)
    ∙ ap (λ o. option_or o (find order q (flat_map entries bs))) (sym (get-entries b q) ∙ h 0)
    ∙ found_nowhere bs q (λ i. h (suc i))

found_at : (bs : List KeyDigests) (q : List ℕ) (n : ℕ) → ((i : ℕ) → n ≢ i → get (get_or bs i empty) q ≡ None) → find order q (flat_map entries bs) ≡ get (get_or bs n empty) q
found_at [] q n h = sym (get-empty order q)
found_at (b ∷ bs) q zero h =
    find-append q (entries b) (flat_map entries bs)
    ∙ ap (option_or (find order q (entries b))) (found_nowhere bs q (λ i. h (suc i) (λ e. omega arith)))
    ∙ or_none _ ∙ sym (get-entries b q)
found_at (b ∷ bs) q (suc n) h =
    find-append q (entries b) (flat_map entries bs)
    ∙ ap (λ o. option_or o (find order q (flat_map entries bs))) (sym (get-entries b q) ∙ h 0 (λ e. omega arith))
    ∙ found_at bs q n (λ i e. h (suc i) (λ f. e (omega arith)))

-- a key is found in its bucket
pub get-gathered : (bs : List KeyDigests) → AreApart bs → (q : List ℕ) → get (gathered bs) q ≡ get (get_or bs (bucket_of q) empty) q
unfolding gathered
get-gathered bs apart q = get-from_entries nat_list_cmp_total _ q ∙ found_at bs q (bucket_of q) (λ i e. apart i q e)

-- what is found under a bucket's path
pub get-in_bucket : (bs : List KeyDigests) → AreApart bs → (n : ℕ) (q : List ℕ) → cond (is_under (path_of_three n) q) (get (gathered bs) q) None ≡ get (get_or bs n empty) q
get-in_bucket bs apart n q =
    elim (is_under (path_of_three n) q) as (λ b. is_under (path_of_three n) q ≡ b → cond b (get (gathered bs) q) None ≡ get (get_or bs n empty) q) [
      | true ↦ λ u. get-gathered bs apart q ∙ ap (λ k. get (get_or bs k empty) q) (under_three n q u)
      | false ↦ λ u. sym (apart n q (λ e. let s : IsTrue (is_under (path_of_three n) q) = subst (λ k. IsTrue (is_under (path_of_three k) q)) e (stands_under q) in absurd (cc)))
    ] refl

-- the keys under a bucket's path are the bucket's
pub entries_under : (bs : List KeyDigests) → AreApart bs → (n : ℕ) → entries (under (path_of_three n) (gathered bs)) ≡ entries (get_or bs n empty)
entries_under bs apart n = ap entries (same_map nat_list_cmp_total keys_same _ _ (λ q. get-under (path_of_three n) (gathered bs) q ∙ get-in_bucket bs apart n q))

two_tests : {X : Type 0} (a b : Bool) (o : Option X) → cond (a && b) o None ≡ cond b (cond a o None) None
two_tests true b o = refl
two_tests false true o = refl
two_tests false false o = refl

-- the keys under a bucket's path after a key are the bucket's after it
pub rest_in_bucket : (bs : List KeyDigests) → AreApart bs → (n : ℕ) (after : Option (List ℕ)) → keys_after (gathered bs) (path_of_three n) after ≡ retain_keys (get_or bs n empty) (is_after after)
unfolding keys_after
rest_in_bucket bs apart n after =
    let test : List ℕ → Bool = λ key. is_under (path_of_three n) key && is_after after key in
    same_map nat_list_cmp_total keys_same _ _ (λ q.
    get-retain_keys (gathered bs) test q (λ x e. ap test (sym (keys_same q x e)))
    ∙ two_tests (is_under (path_of_three n) q) (is_after after q) (get (gathered bs) q)
    ∙ ap (λ o. cond (is_after after q) o None) (get-in_bucket bs apart n q)
    ∙ sym (get-retain_keys (get_or bs n empty) (is_after after) q (λ x e. ap (is_after after) (sym (keys_same q x e)))))

-- what is found after a change
pub get-changed : (m : KeyDigests) (key : List ℕ) (digest : Option (List ℕ)) (q : List ℕ) → get (changed m key digest) q ≡ cond (eq_by_cmp order q key) digest (get m q)
get-changed m key None q = get-remove nat_list_cmp_total m key q
get-changed m key (Some d) q = get-insert nat_list_cmp_total m key d q

pub get-changed_other : (m : KeyDigests) (key : List ℕ) (digest : Option (List ℕ)) (q : List ℕ) → q ≢ key → get (changed m key digest) q ≡ get m q
get-changed_other m key digest q apart =
    get-changed m key digest q ∙ elim (order q key) as (λ o. order q key ≡ o → cond (is_eq o) digest (get m q) ≡ get m q) [
      | Less ↦ λ _. refl
      | Equal ↦ λ e. absurd (apart (keys_same q key e))
      | Greater ↦ λ _. refl
    ] refl

-- the buckets once that of a key has changed
module _ (bs : List KeyDigests) (key : List ℕ) (digest : Option (List ℕ)) (all : length bs ≡ 4096) (apart : AreApart bs) where
  abbrev new_buckets : List KeyDigests
  new_buckets = set bs (bucket_of key) (changed (get_or bs (bucket_of key) empty) key digest)

  own : get_or new_buckets (bucket_of key) empty ≡ changed (get_or bs (bucket_of key) empty) key digest
  own = get_or-set_same bs (bucket_of key) _ empty (omega (arith, bucket_of-limit key, all))

  unlike : (n : ℕ) → n ≢ bucket_of key → get_or new_buckets n empty ≡ get_or bs n empty
  unlike n e = get_or-set_other bs (bucket_of key) n _ empty e

  pub new_buckets-apart : AreApart new_buckets
  new_buckets-apart n q away =
      elim (same_or_not n (bucket_of key)) [
        | inl e ↦ ap (λ m. get m q) (ap (λ k. get_or new_buckets k empty) e ∙ own)
            ∙ get-changed_other (get_or bs (bucket_of key) empty) key digest q (λ s. away (ap bucket_of s ∙ sym e))
            ∙ apart (bucket_of key) q (λ s. away (s ∙ sym e))
        | inr e ↦ ap (λ m. get m q) (unlike n e) ∙ apart n q away
      ]

  pub new_buckets-gathered : gathered new_buckets ≡ changed (gathered bs) key digest
  new_buckets-gathered =
      same_map nat_list_cmp_total keys_same _ _ (λ q.
      get-gathered new_buckets new_buckets-apart q ∙ elim (same_or_not (bucket_of q) (bucket_of key)) [
        | inl e ↦ ap (λ m. get m q) (ap (λ k. get_or new_buckets k empty) e ∙ own)
            ∙ get-changed (get_or bs (bucket_of key) empty) key digest q
            ∙ ap (cond (eq_by_cmp order q key) digest) (ap (λ k. get (get_or bs k empty) q) (sym e) ∙ sym (get-gathered bs apart q))
            ∙ sym (get-changed (gathered bs) key digest q)
        | inr e ↦ ap (λ m. get m q) (unlike (bucket_of q) e) ∙ sym (get-gathered bs apart q)
            ∙ sym (get-changed_other (gathered bs) key digest q (λ s. e (ap bucket_of s)))
      ])
