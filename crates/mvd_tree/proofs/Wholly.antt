-- The tree once many keys have changed, and the nodes over them were made anew.
use Rattle.std.proofs.Common.{◌≡◌, ◌≢◌, inl, inr, ℕ, zero, suc, ◌+◌, ◌*◌, ◌/◌, ◌^◌, ◌<◌, ◌≤◌, Bool, true, false, cond, ◌||◌, List, [], ◌∷◌, length, get_or, set, map, take, refl, sym, ap, subst, ◌∙◌, arith, None, Option}
use Rattle.std.specs.Prelude.{⊤, IfErr, IsTrue, OnErr, OnOk, Result, Ok, Err, nat_eq, slice_range}
use Rattle.std.specs.Cmp.{nat_eq_equiv, unsigned_Decides}
use Rattle.std.specs.FinMap.{entries, empty, len, len-entries, retain_keys}
use Rattle.std.specs.FinMap.Entries.{where_key}
use Rattle.std.specs.List.{IsDistinct, AllByRecursion, sum_by}
use Rattle.std.specs.Set.{distinct_count, is_member, unique_keys}
use Rattle.std.proofs.lemmas.List.{get_or-set_same, get_or-set_other, length-set}
use Rattle.std.proofs.lemmas.List.Sums.{sum_by-cons}
use Rattle.std.proofs.lemmas.Map.Made.{length-from_keys}
use Rattle.std.proofs.Math.Seq.{take-length}
use Rattle.mvd_dots.specs.declared.refusals.Refusal.{Refusal}
use Rattle.mvd_dots.specs.declared.refusals.Refusal.TheVariants.{Broken}
use Rattle.mvd_tree.specs.Change.{changed, changed_all}
use Rattle.mvd_tree.specs.HashTree.{KeyDigests, is_under, path_of_key, under}
use Rattle.mvd_tree.specs.Kept.{kept_bucket, kept_inner, kept_node}
use Rattle.mvd_tree.specs.Layout.{bucket_of, path_of_one, path_of_two, path_of_three, gathered, AreApart, KeepsLevel, KeepsTree}
use Rattle.mvd_tree.specs.Renewed.{AreQuotients, Renews, set_each, with_changes}
use Rattle.mvd_tree.specs.Counted.{keys_beside}
use Rattle.mvd_tree.specs.Touched.{Changes, ChangesAll, count_touched, inner_touched, keys_touched, touched}
use Rattle.mvd_tree.proofs.Changes.{children_of_one, children_of_root, children_of_two}
use Rattle.mvd_tree.proofs.Entries.{Entry, entries-retain_keys, order}
use Rattle.mvd_tree.proofs.Gathered.{bucket_of-limit, entries_under, get-changed_other, path_of_bucket, same_or_not, stands_under, under_one, under_two, under_three}
use Rattle.mvd_tree.proofs.KeptNodes.{bucket-kept, inner-kept, kept_node-same}
use Rattle.mvd_tree.proofs.Renewing.{buckets_after, fused, or_false}
use Rattle.mvd_digest.specs.Counted.{Hashes}
use Rattle.mvd_digest.specs.declared.digest.Hashed.{Hashed}
use Rattle.mvd_tree.proofs.Counts.{hashes_then}

pub or_left : (a b : Bool) → (a || b) ≡ false → a ≡ false
or_left true b e = absurd (cc)
or_left false b e = refl

pub or_right : (a b : Bool) → (a || b) ≡ false → b ≡ false
or_right true b e = absurd (cc)
or_right false b e = e

not_equal : (n m : ℕ) → n ≢ m → nat_eq n m ≡ false
not_equal n m h =
    elim (nat_eq n m) as (λ b. nat_eq n m ≡ b → b ≡ false) [
      | true ↦ λ e. absurd (h ((unsigned_Decides n m).0 e))
      | false ↦ λ _. refl
    ] refl

-- ---- the keys that change and the nodes that they touch

-- no key of these stands under the path
abbrev Away : List ℕ → Changes → Type 0
Away path [] = Unit {0}
Away path (c ∷ cs) = (is_under path c.0 ≡ false) × Away path cs

-- a node whose number is none of the keys'
away : (path : List ℕ) (n by : ℕ) → ((key : List ℕ) → IsTrue (is_under path key) → bucket_of key / by ≡ n)
    → (k : ℕ) (all : Changes) → is_member nat_eq (map (λ m. m / by) (map (λ c. bucket_of c.0) all)) n ≡ false → Away path (take k all)
away path n by at zero all none = tt
away path n by at (suc k) [] none = tt
away path n by at (suc k) (c ∷ all) none = (
  elim (is_under path c.0) as (λ b. is_under path c.0 ≡ b → b ≡ false) [
    | true ↦ λ u. let t : nat_eq n (bucket_of c.0 / by) ≡ true = (unsigned_Decides n (bucket_of c.0 / by)).1 (sym (at c.0 u)) in let f : nat_eq n (bucket_of c.0 / by) ≡ false = or_left (nat_eq n (bucket_of c.0 / by)) (is_member nat_eq (map (λ m. m / by) (map (λ x. bucket_of x.0) all)) n) none in absurd (cc)
    | false ↦ λ _. refl
  ] refl,
  away path n by at k all (or_right (nat_eq n (bucket_of c.0 / by)) (is_member nat_eq (map (λ m. m / by) (map (λ x. bucket_of x.0) all)) n) none),
)

-- keeps what it kept
kept_away : (levels : ℕ) (path : List ℕ) (cs : Changes) (held : KeyDigests) → Away path cs → kept_node levels held path ≡ kept_node levels (changed_all held cs) path
kept_away levels path [] held a = refl
kept_away levels path (c ∷ cs) held a =
    kept_node-same levels path held (changed held c.0 c.1) (λ q u. sym (get-changed_other held c.0 c.1 q (λ s. let t : IsTrue (is_under path c.0) = subst (λ k. IsTrue (is_under path k)) s u in let f = a.0 in absurd (cc))))
    ∙ kept_away levels path cs (changed held c.0 c.1) a.1

-- a level in which the nodes that were touched are set to what is to be kept of them
set_right : (levels count : ℕ) (path_of : ℕ → List ℕ) (held : KeyDigests) (told : ℕ → Option (List ℕ)) → ((n : ℕ) → n < count → told n ≡ kept_node levels held (path_of n))
    → (ns : List ℕ) (nodes : List (Option (List ℕ))) → length nodes ≡ count
    → ((n : ℕ) → n < count → is_member nat_eq ns n ≡ false → get_or nodes n None ≡ kept_node levels held (path_of n))
    → KeepsLevel levels path_of count held (set_each told ns nodes)
set_right levels count path_of held told right [] nodes all others = record { all = all; each = λ n l. others n l refl }
set_right levels count path_of held told right (m ∷ ns) nodes all others =
    set_right levels count path_of held told right ns (set nodes m (told m)) (length-set nodes m (told m) ∙ all)
    (λ n l none. elim (same_or_not n m) [
      | inl e ↦ ap (λ k. get_or (set nodes m (told m)) k None) e ∙ get_or-set_same nodes m (told m) None (omega (arith, l, e, all)) ∙ ap told (sym e) ∙ right n l
      | inr e ↦ get_or-set_other nodes m n (told m) None e ∙ others n l ((λ i. not_equal n m e i || is_member nat_eq ns n) ∙ none)
    ])

-- what bounds the number of the node over a key
pub middle_within : (key : List ℕ) → bucket_of key / 16 < 256
middle_within key = omega (arith, bucket_of-limit key)

pub upper_within : (key : List ℕ) → bucket_of key / 256 < 16
upper_within key = omega (arith, bucket_of-limit key)

-- ---- the tree

module _ (all : Changes) (k : ℕ) (bs : List KeyDigests) where
  -- a node that was not touched keeps what it kept
  untouched : (levels by : ℕ) (path : List ℕ) (n : ℕ) (found : List ℕ) → AreQuotients (map (λ c. bucket_of c.0) all) by found → ((key : List ℕ) → IsTrue (is_under path key) → bucket_of key / by ≡ n) → is_member nat_eq found n ≡ false
      → kept_node levels (gathered bs) path ≡ kept_node levels (changed_all (gathered bs) (take k all)) path
  untouched levels by path n found are at none =
      kept_away levels path (take k all) (gathered bs) (away path n by at k all (sym (are.same n) ∙ none))

  all_after : (bs' : List KeyDigests) (lowest middle upper lowest' middle' upper' : List (Option (List ℕ))) (root root' : Option (List ℕ)) (L M U : List ℕ)
      → KeepsTree bs lowest middle upper root
      → AreQuotients (map (λ c. bucket_of c.0) all) 1 L → AreQuotients (map (λ c. bucket_of c.0) all) 16 M → AreQuotients (map (λ c. bucket_of c.0) all) 256 U
      → bs' ≡ with_changes (take k all) bs
      → lowest' ≡ set_each (λ n. kept_bucket (entries (get_or bs' n empty))) L lowest
      → middle' ≡ set_each (λ n. kept_inner (slice_range lowest' (n * 16) (n * 16 + 16))) M middle
      → upper' ≡ set_each (λ n. kept_inner (slice_range middle' (n * 16) (n * 16 + 16))) U upper
      → root' ≡ kept_inner (slice_range upper' (0 * 16) (0 * 16 + 16))
      → (gathered bs' ≡ changed_all (gathered bs) (take k all)) × KeepsTree bs' lowest' middle' upper' root'
  all_after bs' lowest middle upper lowest' middle' upper' root root' L M U tree ls ms us new_bs new_lowest new_middle new_upper new_root =
      let after = buckets_after (take k all) bs tree.all tree.apart in
      let apart : AreApart bs' = subst AreApart (sym new_bs) after.1 in
      let now : gathered bs' ≡ changed_all (gathered bs) (take k all) = ap gathered new_bs ∙ after.2 in
      let held = changed_all (gathered bs) (take k all) in
      let low : KeepsLevel 0 path_of_three 4096 held lowest' =
      subst (KeepsLevel 0 path_of_three 4096 held) (sym new_lowest) (set_right 0 4096 path_of_three held _
      (λ n l. bucket-kept (gathered bs') (path_of_three n) _ (entries_under bs' apart n) ∙ ap (λ m. kept_node 0 m (path_of_three n)) now)
      L lowest tree.keeps_lowest.all
      (λ n l none. tree.keeps_lowest.each n l ∙ untouched 0 1 (path_of_three n) n L ls (λ key u. omega (arith, under_three n key u)) none)) in
      let mid : KeepsLevel 1 path_of_two 256 held middle' =
      subst (KeepsLevel 1 path_of_two 256 held) (sym new_middle) (set_right 1 256 path_of_two held _
      (λ n l. inner-kept 0 held (path_of_two n) _ (omega arith) (children_of_two held lowest' n low l))
      M middle tree.keeps_middle.all
      (λ n l none. tree.keeps_middle.each n l ∙ untouched 1 16 (path_of_two n) n M ms (λ key u. under_two n key u) none)) in
      let up : KeepsLevel 2 path_of_one 16 held upper' =
      subst (KeepsLevel 2 path_of_one 16 held) (sym new_upper) (set_right 2 16 path_of_one held _
      (λ n l. inner-kept 1 held (path_of_one n) _ (omega arith) (children_of_one held middle' n mid l))
      U upper tree.keeps_upper.all
      (λ n l none. tree.keeps_upper.each n l ∙ untouched 2 256 (path_of_one n) n U us (λ key u. omega (arith, under_one n key u)) none)) in
      let top : root' ≡ kept_node 3 held [] = new_root ∙ inner-kept 2 held [] _ (omega arith) (children_of_root held upper' up) in (
        now,
        record {
          all = ap length new_bs ∙ after.0;
          apart = apart;
          keeps_lowest = subst (λ m. KeepsLevel 0 path_of_three 4096 m lowest') (sym now) low;
          keeps_middle = subst (λ m. KeepsLevel 1 path_of_two 256 m middle') (sym now) mid;
          keeps_upper = subst (λ m. KeepsLevel 2 path_of_one 16 m upper') (sym now) up;
          keeps_root = top ∙ ap (λ m. kept_node 3 m []) (sym now);
        },
      )

-- ---- counts

length-set_each : (told : ℕ → Option (List ℕ)) (ns : List ℕ) (nodes : List (Option (List ℕ))) → length (set_each told ns nodes) ≡ length nodes
length-set_each told [] nodes = refl
length-set_each told (n ∷ ns) nodes = length-set_each told ns (set nodes n (told n)) ∙ length-set nodes n (told n)

-- so many nodes are left
pub still_many : (told : ℕ → Option (List ℕ)) (ns : List ℕ) (nodes after : List (Option (List ℕ))) (count : ℕ) → length nodes ≡ count → after ≡ set_each told ns nodes → length after ≡ count
still_many told ns nodes after count all is = ap length is ∙ length-set_each told ns nodes ∙ all

pub still_buckets : (cs : Changes) (bs after : List KeyDigests) → length bs ≡ 4096 → after ≡ with_changes cs bs → length after ≡ 4096
still_buckets [] bs after all is = ap length is ∙ all
still_buckets (c ∷ cs) bs after all is = still_buckets cs _ after (length-set bs (bucket_of c.0) _ ∙ all) is

-- the quotients are as many as the nodes that are touched
count_quotients : (by : ℕ) (all : Changes) (found : List ℕ) → AreQuotients (map (λ c. bucket_of c.0) all) by found → length found ≡ distinct_count nat_eq (map (λ c. bucket_of c.0 / by) all)
count_quotients by all found are =
    length-from_keys nat_eq_equiv found (map (λ c. bucket_of c.0 / by) all) are.once
    (λ q. are.same q ∙ ap (λ ns. is_member nat_eq ns q) (fused by all))

some_unique : (x : ℕ) (xs : List ℕ) → 1 ≤ length (unique_keys nat_eq (x ∷ xs))
some_unique x [] = omega arith
some_unique x (y ∷ xs) =
    elim (is_member nat_eq (y ∷ xs) x) as (λ b. 1 ≤ length (cond b (unique_keys nat_eq (y ∷ xs)) (x ∷ unique_keys nat_eq (y ∷ xs)))) [
      | true ↦ some_unique y xs
      | false ↦ omega arith
    ]

-- the root is touched
pub some_touched : (levels : ℕ) (all : Changes) → 0 < length all → 1 ≤ count_touched levels all
some_touched levels [] some = absurd (omega arith)
some_touched levels (c ∷ all) some = some_unique (bucket_of c.0 / 16 ^ levels) (map (λ x. bucket_of x.0 / 16 ^ levels) all)

-- the entries that pass one of two tests, where none passes both
two_parts : (p q r : List ℕ → Bool) → ((key : List ℕ) → r key ≡ (p key || q key)) → ((key : List ℕ) → p key ≡ true → q key ≡ false) → (es : List Entry)
    → length (where_key order p es) + length (where_key order q es) ≡ length (where_key order r es)
two_parts p q r either apart [] = refl
two_parts p q r either apart (e ∷ es) =
    let rest = two_parts p q r either apart es in
    elim (p e.0) as (λ a. p e.0 ≡ a → length (cond a (e ∷ where_key order p es) (where_key order p es)) + length (where_key order q (e ∷ es)) ≡ length (where_key order r (e ∷ es))) [
      | true ↦ λ h.
          let f : length (where_key order q (e ∷ es)) ≡ length (where_key order q es) = ap (λ b. length (cond b (e ∷ where_key order q es) (where_key order q es))) (apart e.0 h) in
          let t : length (where_key order r (e ∷ es)) ≡ length (e ∷ where_key order r es) = ap (λ b. length (cond b (e ∷ where_key order r es) (where_key order r es))) (either e.0 ∙ ap (λ a. a || q e.0) h) in
          omega (arith, rest, f, t)
      | false ↦ λ h.
          let same : r e.0 ≡ q e.0 = either e.0 ∙ ap (λ a. a || q e.0) h in
          elim (q e.0) as (λ b. r e.0 ≡ b → length (where_key order p es) + length (cond b (e ∷ where_key order q es) (where_key order q es)) ≡ length (where_key order r (e ∷ es))) [
            | true ↦ λ y.
                let t : length (where_key order r (e ∷ es)) ≡ length (e ∷ where_key order r es) = ap (λ b. length (cond b (e ∷ where_key order r es) (where_key order r es))) y in
                omega (arith, rest, t)
            | false ↦ λ y.
                let t : length (where_key order r (e ∷ es)) ≡ length (where_key order r es) = ap (λ b. length (cond b (e ∷ where_key order r es) (where_key order r es))) y in
                omega (arith, rest, t)
          ] same
    ] refl

-- a key stands under a bucket's path just where that is its bucket
under_bucket : (n : ℕ) (key : List ℕ) → nat_eq (bucket_of key) n ≡ is_under (path_of_three n) key
under_bucket n key =
    elim (is_under (path_of_three n) key) as (λ b. is_under (path_of_three n) key ≡ b → nat_eq (bucket_of key) n ≡ b) [
      | true ↦ λ u. (unsigned_Decides (bucket_of key) n).1 (under_three n key u)
      | false ↦ λ u. not_equal (bucket_of key) n (λ e. let t : IsTrue (is_under (path_of_three n) key) = subst (λ m. IsTrue (is_under (path_of_three m) key)) e (stands_under key) in absurd (cc))
    ] refl

-- the keys of these buckets are those that have one of their numbers
bucket_keys : (bs : List KeyDigests) → AreApart bs → (ns : List ℕ) → IsDistinct nat_eq ns
    → sum_by (λ n. len (get_or bs n empty)) ns ≡ length (where_key order (λ key. is_member nat_eq ns (bucket_of key)) (entries (gathered bs)))
unfolding IsDistinct under
bucket_keys bs apart [] d = none_pass (entries (gathered bs))
  where
    none_pass : (es : List Entry) → 0 ≡ length (where_key order (λ key. false) es)
    none_pass [] = refl
    none_pass (e ∷ es) = none_pass es
bucket_keys bs apart (n ∷ ns) d =
    let held = gathered bs in
    let first : len (get_or bs n empty) ≡ length (where_key order (is_under (path_of_three n)) (entries held)) =
    len-entries _ ∙ ap length (sym (entries_under bs apart n) ∙ entries-retain_keys held (is_under (path_of_three n))) in
    let rest = bucket_keys bs apart ns d.1 in
    let both =
    two_parts (is_under (path_of_three n)) (λ key. is_member nat_eq ns (bucket_of key)) (λ key. is_member nat_eq (n ∷ ns) (bucket_of key))
    (λ key. ap (λ b. b || is_member nat_eq ns (bucket_of key)) (under_bucket n key))
    (λ key u. ap (is_member nat_eq ns) (under_three n key u) ∙ apart_from n ns d.0)
    (entries held) in
    let sum : sum_by (λ m. len (get_or bs m empty)) (n ∷ ns) ≡ len (get_or bs n empty) + sum_by (λ m. len (get_or bs m empty)) ns = sum_by-cons (λ m. len (get_or bs m empty)) n ns in
    omega (arith, sum, first, rest, both)
  where
    apart_from : (n : ℕ) (ns : List ℕ) → AllByRecursion (λ m. nat_eq n m ≡ false) ns → is_member nat_eq ns n ≡ false
    apart_from n [] none = refl
    apart_from n (m ∷ ns) none = (λ i. none.0 i || is_member nat_eq ns n) ∙ apart_from n ns none.1

-- and they are those that have the place of a key that changes
keys_of_touched : (bs : List KeyDigests) (all : Changes) (found : List ℕ) → AreApart bs → AreQuotients (map (λ c. bucket_of c.0) all) 1 found
    → sum_by (λ n. len (get_or bs n empty)) found ≡ keys_touched (gathered bs) all
keys_of_touched bs all found apart are =
    bucket_keys bs apart found are.once
    ∙ ap length (sym (entries-retain_keys (gathered bs) (λ key. is_member nat_eq found (bucket_of key))))
    ∙ sym (len-entries _)
    ∙ (λ i. len (retain_keys (gathered bs) (λ key. same key i)))
  where
    same : (key : List ℕ) → is_member nat_eq found (bucket_of key) ≡ is_member nat_eq (touched 0 all) (bucket_of key)
    same key = are.same (bucket_of key) ∙ ap (λ ns. is_member nat_eq ns (bucket_of key)) (fused 1 all)

-- one key touches the keys with its place
pub one_touched : (held : KeyDigests) (key : List ℕ) (digest : Option (List ℕ)) → keys_touched held ((key, digest) ∷ []) ≡ keys_beside held key
unfolding under
one_touched held key digest = λ i. len (retain_keys held (λ other. same other i))
  where
    same : (other : List ℕ) → is_member nat_eq (touched 0 ((key, digest) ∷ [])) (bucket_of other) ≡ is_under (path_of_key key) other
    same other =
        or_false (nat_eq (bucket_of other) (bucket_of key / 1))
        ∙ ap (nat_eq (bucket_of other)) (omega arith)
        ∙ under_bucket (bucket_of key) other
        ∙ ap (λ path. is_under path other) (path_of_bucket key)

hashes_within : (x y m n : ℕ) (a f : Hashed) → x ≤ m → y ≤ n → Hashes x y a f → Hashes m n a f
hashes_within x y m n a f p q h = record {
  ends = let e = h.ends in omega (arith, e, p);
  reads = let e = h.reads in omega (arith, e, q);
  least_ends = h.least_ends;
  least_reads = h.least_reads;
}

-- all that is hashed
counts_after : (all : Changes) (bs : List KeyDigests) (L M U : List ℕ) (b c d e f : Hashed) → 0 < length all → AreApart bs
    → AreQuotients (map (λ c. bucket_of c.0) all) 1 L → AreQuotients (map (λ c. bucket_of c.0) all) 16 M → AreQuotients (map (λ c. bucket_of c.0) all) 256 U
    → Hashes (length L) (32 * sum_by (λ n. len (get_or bs n empty)) L) b c
    → Hashes (length M) (512 * length M) c d → Hashes (length U) (512 * length U) d e → Hashes 1 512 e f
    → Hashes (count_touched 0 all + inner_touched all) (32 * keys_touched (gathered bs) all + 512 * inner_touched all) b f
counts_after all bs L M U b c d e f some apart ls ms us buckets middle upper root =
    let l = count_quotients 1 all L ls in
    let m = count_quotients 16 all M ms in
    let u = count_quotients 256 all U us in
    let r = some_touched 3 all some in
    let S = sum_by (λ n. len (get_or bs n empty)) L in
    let keys : S ≡ keys_touched (gathered bs) all = keys_of_touched bs all L apart ls in
    sums (length L) S (length M) (length U)
    (count_touched 0 all) (count_touched 1 all) (count_touched 2 all) (count_touched 3 all) (keys_touched (gathered bs) all)
    l m u r keys
    (hashes_then (length L) (32 * S) (length M + (length U + 1)) (512 * length M + (512 * length U + 512))
    (length L + (length M + (length U + 1))) (32 * S + (512 * length M + (512 * length U + 512))) b c f (omega arith) (omega arith) buckets
    (hashes_then (length M) (512 * length M) (length U + 1) (512 * length U + 512)
    (length M + (length U + 1)) (512 * length M + (512 * length U + 512)) c d f (omega arith) (omega arith) middle
    (hashes_then (length U) (512 * length U) 1 512 (length U + 1) (512 * length U + 512) d e f (omega arith) (omega arith) upper root)))
  where
    sums : (l keys m u t₀ t₁ t₂ t₃ k : ℕ) → l ≡ t₀ → m ≡ t₁ → u ≡ t₂ → 1 ≤ t₃ → keys ≡ k
        → Hashes (l + (m + (u + 1))) (32 * keys + (512 * m + (512 * u + 512))) b f
        → Hashes (t₀ + (t₁ + t₂ + t₃)) (32 * k + 512 * (t₁ + t₂ + t₃)) b f
    sums l keys m u t₀ t₁ t₂ t₃ k p q r s t h = hashes_within (l + (m + (u + 1))) (32 * keys + (512 * m + (512 * u + 512))) (t₀ + (t₁ + t₂ + t₃)) (32 * k + 512 * (t₁ + t₂ + t₃)) b f (omega (arith, p, q, r, s)) (omega (arith, q, r, s, t)) h

-- ---- all that a change of many does, step by step

pub record TreeAfter (all : Changes) (held : KeyDigests) (bs : List KeyDigests) (lowest middle upper : List (Option (List ℕ))) (root : Option (List ℕ)) (before after : Hashed) : Type 0 where
  pub holds : gathered bs ≡ held
  pub keeps : KeepsTree bs lowest middle upper root
  pub hashes : Hashes (count_touched 0 all + inner_touched all) (32 * keys_touched (gathered bs) all + 512 * inner_touched all) before after

pub tree_after : (all : Changes) (k : ℕ) (bs bs₁ bs' : List KeyDigests) (lowest middle upper l₁ l₂ m₁ m₂ u₁ u₂ : List (Option (List ℕ))) (root root' : Option (List ℕ)) (a b c d e : Hashed)
    → 0 < length all → KeepsTree bs lowest middle upper root → bs₁ ≡ with_changes (take k all) bs → bs' ≡ bs₁
    → Renews (λ n. kept_bucket (entries (get_or bs₁ n empty))) (λ ns. 32 * sum_by (λ n. len (get_or bs₁ n empty)) ns) 1 all lowest l₁ a b → l₂ ≡ l₁
    → Renews (λ n. kept_inner (slice_range l₁ (n * 16) (n * 16 + 16))) (λ ns. 512 * length ns) 16 all middle m₁ b c → m₂ ≡ m₁
    → Renews (λ n. kept_inner (slice_range m₁ (n * 16) (n * 16 + 16))) (λ ns. 512 * length ns) 256 all upper u₁ c d → u₂ ≡ u₁
    → root' ≡ kept_inner (slice_range u₁ (0 * 16) (0 * 16 + 16)) → Hashes 1 512 d e
    → TreeAfter all (changed_all (gathered bs) (take k all)) bs' l₂ m₂ u₂ root' a e
tree_after all k bs bs₁ bs' lowest middle upper l₁ l₂ m₁ m₂ u₁ u₂ root root' a b c d e some tree new_bs same_bs ls same_l ms same_m us same_u new_root last =
    let after = all_after all k bs bs₁ lowest middle upper l₁ m₁ u₁ root root' ls.found ms.found us.found tree ls.are ms.are us.are new_bs ls.nodes ms.nodes us.nodes new_root in
    subst (λ x. TreeAfter all (changed_all (gathered bs) (take k all)) x l₂ m₂ u₂ root' a e) (sym same_bs)
    (subst (λ l. TreeAfter all (changed_all (gathered bs) (take k all)) bs₁ l m₂ u₂ root' a e) (sym same_l)
    (subst (λ m. TreeAfter all (changed_all (gathered bs) (take k all)) bs₁ l₁ m u₂ root' a e) (sym same_m)
    (subst (λ u. TreeAfter all (changed_all (gathered bs) (take k all)) bs₁ l₁ m₁ u root' a e) (sym same_u)
    (record {
      holds = after.0;
      keeps = after.1;
      hashes = counts_after all bs₁ ls.found ms.found us.found a b c d e some after.1.apart ls.are ms.are us.are ls.hashes ms.hashes us.hashes last;
    }))))

-- how many of the first are changed
pub record ChangesTo (result : Result ⊤ Refusal) (all : Changes) (bs bs₁ : List KeyDigests) : Type 0 where
  pub k : ℕ
  pub is : bs₁ ≡ with_changes (take k all) bs
  pub ok : OnOk result (take k all ≡ all)
  pub err : IfErr result (λ refusal. (refusal ≡ Broken) × (k < length all))

pub changes_to : (result : Result ⊤ Refusal) (all : Changes) (bs bs₁ : List KeyDigests) → OnOk result (bs₁ ≡ with_changes all bs) → IfErr result (λ refusal. refusal ≡ Broken)
    → OnErr result ((n : ℕ) × (n < length all) × (bs₁ ≡ with_changes (take n all) bs)) → ChangesTo result all bs bs₁
changes_to (Ok done) all bs bs₁ ok broken err = record {
  k = length all;
  is = ok ∙ ap (λ cs. with_changes cs bs) (sym (take-length all));
  ok = take-length all;
  err = tt;
}
changes_to (Err refusal) all bs bs₁ ok broken err = record { k = err.0; is = err.2; ok = tt; err = (broken, err.1) }

pub changes_all : (result : Result ⊤ Refusal) (all : Changes) (bs bs₁ bs' : List KeyDigests) (to : ChangesTo result all bs bs₁) (held : KeyDigests) (lowest middle upper : List (Option (List ℕ))) (root : Option (List ℕ)) (b a : Hashed)
    → gathered bs ≡ held → TreeAfter all (changed_all (gathered bs) (take to.k all)) bs' lowest middle upper root b a → ChangesAll all held (gathered bs') result b a
changes_all (Ok done) all bs bs₁ bs' to held lowest middle upper root b a was after = record {
  ok = after.holds ∙ ap (changed_all (gathered bs)) to.ok ∙ ap (λ h. changed_all h all) was;
  err = tt;
  hashes = after.hashes;
}
changes_all (Err refusal) all bs bs₁ bs' to held lowest middle upper root b a was after = record {
  ok = tt;
  err = (to.err.0, (to.k, to.err.1, after.holds ∙ ap (λ h. changed_all h (take to.k all)) was));
  hashes = after.hashes;
}
