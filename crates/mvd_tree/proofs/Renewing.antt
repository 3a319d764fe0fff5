-- Many keys change at once: the numbers of the nodes over them, and the buckets.
use Rattle.std.proofs.Common.{◌≡◌, ℕ, ◌+◌, ◌/◌, ◌<◌, ◌≤◌, Bool, true, false, ◌||◌, List, [], ◌∷◌, ◌++◌, length, length-append, get_or, set, map, take, refl, sym, ap, subst, ◌∙◌, add-one, arith, Option}
use Rattle.std.specs.Prelude.{nat_eq}
use Rattle.std.specs.Cmp.{unsigned_Decides}
use Rattle.std.specs.List.{AllByRecursion, IsDistinct, list_any}
use Rattle.std.specs.Set.{is_member}
use Rattle.std.proofs.Math.Seq.{take-suc}
use Rattle.std.proofs.lemmas.List.{length-set, map-append, take_all}
use Rattle.std.proofs.lemmas.List.Folds.{list_any-append}
use Rattle.mvd_digest.specs.Counted.{Hashes}
use Rattle.mvd_digest.specs.declared.digest.Hashed.{Hashed}
use Rattle.mvd_tree.specs.Change.{changed_all}
use Rattle.mvd_tree.specs.HashTree.{KeyDigests}
use Rattle.mvd_tree.specs.Layout.{bucket_of, gathered, AreApart}
use Rattle.mvd_tree.specs.Renewed.{AreQuotients, Renews, set_each, with_changes}
use Rattle.mvd_tree.specs.Touched.{Changes}
use Rattle.mvd_tree.proofs.Counts.{hashes_then, map_next}
use Rattle.mvd_tree.proofs.Gathered.{new_buckets-apart, new_buckets-gathered}

-- numbers that are compared the other way round
eq_turned : (m n : ℕ) → nat_eq m n ≡ nat_eq n m
eq_turned m n =
    elim (nat_eq m n) as (λ b. nat_eq m n ≡ b → b ≡ nat_eq n m) [
      | true ↦ λ e. sym ((unsigned_Decides n m).1 (sym ((unsigned_Decides m n).0 e)))
      | false ↦ λ e. elim (nat_eq n m) as (λ b. nat_eq n m ≡ b → false ≡ b) [
        | true ↦ λ f. let t = (unsigned_Decides m n).1 (sym ((unsigned_Decides n m).0 f)) in absurd (cc)
        | false ↦ λ _. refl
      ] refl
    ] refl

pub member_turned : (xs : List ℕ) (n : ℕ) → list_any (λ m. nat_eq m n) xs ≡ is_member nat_eq xs n
member_turned [] n = refl
member_turned (x ∷ xs) n = λ i. eq_turned x n i || member_turned xs n i

-- a number that is not there may stand at the end
distinct_more : (xs : List ℕ) (n : ℕ) → IsDistinct nat_eq xs → list_any (λ m. nat_eq m n) xs ≡ false → IsDistinct nat_eq (xs ++ n ∷ [])
unfolding IsDistinct
distinct_more [] n d none = (tt, tt)
distinct_more (x ∷ xs) n d none = (
  apart_more xs d.0 (or_left _ _ none),
  distinct_more xs n d.1 (or_right _ _ none),
)
  where
    or_left : (a b : Bool) → (a || b) ≡ false → a ≡ false
    or_left true b e = absurd (cc)
    or_left false b e = refl

    or_right : (a b : Bool) → (a || b) ≡ false → b ≡ false
    or_right true b e = absurd (cc)
    or_right false b e = e

    apart_more : (ys : List ℕ) → AllByRecursion (λ y. nat_eq x y ≡ false) ys → nat_eq x n ≡ false → AllByRecursion (λ y. nat_eq x y ≡ false) (ys ++ n ∷ [])
    apart_more [] all last = (last, tt)
    apart_more (y ∷ ys) all last = (all.0, apart_more ys all.1 last)

-- the quotients of no numbers
pub no_quotients : (by : ℕ) (found : List ℕ) → found ≡ [] → AreQuotients [] by found
unfolding IsDistinct
no_quotients by found is = subst (AreQuotients [] by) (sym is) (record { once = tt; same = λ q. refl })

pub or_false : (b : Bool) → (b || false) ≡ b
or_false true = refl
or_false false = refl

or_same : (a b : Bool) → (b ≡ true → a ≡ true) → a ≡ (a || b)
or_same true b h = refl
or_same false true h = h refl
or_same false false h = refl

joined : (numbers : List ℕ) (by n q : ℕ) → is_member nat_eq (map (λ m. m / by) (numbers ++ n ∷ [])) q ≡ (is_member nat_eq (map (λ m. m / by) numbers) q || nat_eq q (n / by))
joined numbers by n q =
    ap (list_any (nat_eq q)) (map-append (λ m. m / by) numbers (n ∷ []))
    ∙ list_any-append (nat_eq q) (map (λ m. m / by) numbers) ((n / by) ∷ [])
    ∙ (λ i. is_member nat_eq (map (λ m. m / by) numbers) q || or_false (nat_eq q (n / by)) i)

-- those of one number more, whose quotient is there or is not
old_quotient : (numbers : List ℕ) (by : ℕ) (found : List ℕ) (n : ℕ) → AreQuotients numbers by found → is_member nat_eq found (n / by) ≡ true → AreQuotients (numbers ++ n ∷ []) by found
old_quotient numbers by found n are there = record {
  once = are.once;
  same = λ q.
      are.same q ∙ or_same (is_member nat_eq (map (λ m. m / by) numbers) q) (nat_eq q (n / by)) (λ e.
      ap (is_member nat_eq (map (λ m. m / by) numbers)) ((unsigned_Decides q (n / by)).0 e) ∙ sym (are.same (n / by)) ∙ there)
      ∙ sym (joined numbers by n q);
}

new_quotient : (numbers : List ℕ) (by : ℕ) (found : List ℕ) (n : ℕ) → AreQuotients numbers by found → is_member nat_eq found (n / by) ≡ false → AreQuotients (numbers ++ n ∷ []) by (found ++ (n / by) ∷ [])
new_quotient numbers by found n are none = record {
  once = distinct_more found (n / by) are.once (member_turned found (n / by) ∙ none);
  same = λ q. list_any-append (nat_eq q) found ((n / by) ∷ []) ∙ (λ i. are.same q i || or_false (nat_eq q (n / by)) i) ∙ sym (joined numbers by n q);
}

pub fused : (by : ℕ) (all : Changes) → map (λ m. m / by) (map (λ c. bucket_of c.0) all) ≡ map (λ c. bucket_of c.0 / by) all
fused by [] = refl
fused by (c ∷ all) = ap (λ ns. bucket_of c.0 / by ∷ ns) (fused by all)

-- ---- the nodes over the first keys

set_each-more : (told : ℕ → Option (List ℕ)) (ns : List ℕ) (q : ℕ) (nodes : List (Option (List ℕ))) → set_each told (ns ++ q ∷ []) nodes ≡ set (set_each told ns nodes) q (told q)
set_each-more told [] q nodes = refl
set_each-more told (n ∷ ns) q nodes = set_each-more told ns q (set nodes n (told n))

module _ (told : ℕ → Option (List ℕ)) (bytes : List ℕ → ℕ) (by : ℕ) (cs : Changes) where
  -- none yet
  pub renews_none : (nodes : List (Option (List ℕ))) (h : Hashed) → Renews told bytes by (take 0 cs) nodes nodes h h
  renews_none nodes h = record {
    found = [];
    are = no_quotients by [] refl;
    nodes = refl;
    hashes = record { ends = omega arith; reads = omega arith; least_ends = omega arith; least_reads = omega arith };
  }

  -- and the next, which was made anew before
  pub renews_again : (i : ℕ) (d : List ℕ × Option (List ℕ)) (old mid : List (Option (List ℕ))) (b m : Hashed) → i < length cs
      → is_member nat_eq (map (λ c. bucket_of c.0 / by) (take i cs)) (bucket_of (get_or cs i d).0 / by) ≡ true
      → Renews told bytes by (take i cs) old mid b m → Renews told bytes by (take (i + 1) cs) old mid b m
  renews_again i d old mid b m within there r = record {
    found = r.found;
    are = subst (λ ns. AreQuotients ns by r.found) (sym (map_next (λ (c : List ℕ × Option (List ℕ)). bucket_of c.0) cs i d within))
        (old_quotient _ by r.found (bucket_of (get_or cs i d).0) r.are
        (r.are.same _ ∙ ap (λ ns. is_member nat_eq ns (bucket_of (get_or cs i d).0 / by)) (fused by (take i cs)) ∙ there));
    nodes = r.nodes;
    hashes = r.hashes;
  }

  -- or is made anew now
  pub renews_first : (i : ℕ) (d : List ℕ × Option (List ℕ)) (w : ℕ) (old mid new : List (Option (List ℕ))) (b m a : Hashed) → i < length cs
      → is_member nat_eq (map (λ c. bucket_of c.0 / by) (take i cs)) (bucket_of (get_or cs i d).0 / by) ≡ false
      → ((ns : List ℕ) → bytes ns + w ≤ bytes (ns ++ (bucket_of (get_or cs i d).0 / by) ∷ []))
      → new ≡ set mid (bucket_of (get_or cs i d).0 / by) (told (bucket_of (get_or cs i d).0 / by)) → Hashes 1 w m a
      → Renews told bytes by (take i cs) old mid b m → Renews told bytes by (take (i + 1) cs) old new b a
  renews_first i d w old mid new b m a within none more is one r =
      let q = bucket_of (get_or cs i d).0 / by in
      record {
        found = r.found ++ q ∷ [];
        are = subst (λ ns. AreQuotients ns by (r.found ++ q ∷ [])) (sym (map_next (λ (c : List ℕ × Option (List ℕ)). bucket_of c.0) cs i d within))
            (new_quotient _ by r.found (bucket_of (get_or cs i d).0) r.are
            (r.are.same _ ∙ ap (λ ns. is_member nat_eq ns q) (fused by (take i cs)) ∙ none));
        nodes = is ∙ ap (λ ns. set ns q (told q)) r.nodes ∙ sym (set_each-more told r.found q old);
        hashes = hashes_then (length r.found) (bytes r.found) 1 w (length (r.found ++ q ∷ [])) (bytes (r.found ++ q ∷ [])) b m a
            (omega (arith, length-append r.found (q ∷ []))) (more r.found) r.hashes one;
      }

  -- the one change that there is
  pub renews_one : (d : List ℕ × Option (List ℕ)) (w : ℕ) (old new : List (Option (List ℕ))) (b a : Hashed) → length cs ≡ 1
      → ((ns : List ℕ) → bytes ns + w ≤ bytes (ns ++ (bucket_of (get_or cs 0 d).0 / by) ∷ []))
      → new ≡ set old (bucket_of (get_or cs 0 d).0 / by) (told (bucket_of (get_or cs 0 d).0 / by)) → Hashes 1 w b a
      → Renews told bytes by cs old new b a
  renews_one d w old new b a all more is one =
      subst (λ es. Renews told bytes by es old new b a) (take_all 1 cs (omega (arith, all)))
      (renews_first 0 d w old old new b b a (omega (arith, all)) refl more is one (renews_none old b))

-- ---- the buckets

-- the buckets once one key more has changed
with_changes-append : (cs ds : Changes) (bs : List KeyDigests) → with_changes (cs ++ ds) bs ≡ with_changes ds (with_changes cs bs)
with_changes-append [] ds bs = refl
with_changes-append (c ∷ cs) ds bs = with_changes-append cs ds _

pub with_changes-more : (cs : Changes) (i : ℕ) (d : List ℕ × Option (List ℕ)) (bs : List KeyDigests) → i < length cs
    → with_changes (take (i + 1) cs) bs ≡ with_changes (get_or cs i d ∷ []) (with_changes (take i cs) bs)
with_changes-more cs i d bs within =
    ap (λ es. with_changes es bs) (ap (λ k. take k cs) (add-one i) ∙ take-suc cs i d within) ∙ with_changes-append (take i cs) (get_or cs i d ∷ []) bs

-- what the buckets hold once many keys have changed
pub buckets_after : (cs : Changes) (bs : List KeyDigests) → length bs ≡ 4096 → AreApart bs
    → (length (with_changes cs bs) ≡ 4096) × AreApart (with_changes cs bs) × (gathered (with_changes cs bs) ≡ changed_all (gathered bs) cs)
buckets_after [] bs all apart = (all, apart, refl)
buckets_after (c ∷ cs) bs all apart =
    let rest = buckets_after cs _ (length-set bs (bucket_of c.0) _ ∙ all) (new_buckets-apart bs c.0 c.1 all apart) in
    (rest.0, rest.1, rest.2 ∙ ap (λ held. changed_all held cs) (new_buckets-gathered bs c.0 c.1 all apart))
