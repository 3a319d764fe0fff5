-- Pages of a bucket, and which key comes next.
use Rattle.std.proofs.Common.{◌≡◌, ◌↔◌, ℕ, ◌≤◌, Bool, true, false, not, List, [], ◌∷◌, ◌++◌, length, drop, refl, sym, ap, ◌∙◌, arith, Some, Option, length-drop}
use Rattle.std.specs.Prelude.{IsTrue, nat_lt}
use Rattle.std.specs.declared.cmp.Ordering.TheVariants.{Less, Equal, Greater}
use Rattle.std.specs.Ordering.{nat_cmp, ordering_reverse}
use Rattle.std.specs.Cmp.Lexicographic.{slice_cmp, nat_list_cmp_total}
use Rattle.std.specs.FinMap.{entries}
use Rattle.std.proofs.lemmas.Bool.Decides.{nat_tests}
use Rattle.std.proofs.lemmas.List.{take-append-drop}
use Rattle.mvd_tree.specs.HashTree.{KeyDigests}
use Rattle.mvd_tree.proofs.Under.{keys_same}
use Rattle.mvd_tree.specs.Page.{keys_after, bucket_page, is_more_after_page}
use Rattle.mvd_sync.proofs.Readings.{IsListing, IsBucketPage}
use Rattle.mvd_sync.specs.Answers.{PageEntry, TakesLesser, of_first, of_second, of_both, order_of_first}
use Rattle.mvd_peer.specs.Sides.{two}
use Rattle.mvd_sync.specs.declared.cursor.Entry.{Entry}

-- ---- a page that was fetched

pub no_entries : {A : Type 0} (xs : List A) → length xs ≡ 0 → xs ≡ []
no_entries [] e = refl
no_entries (x ∷ xs) e = absurd (omega arith)

pub fresh_listing : (held : KeyDigests) (path : List ℕ) (after : Option (List ℕ)) (page : List PageEntry) (more : Bool) → page ≡ bucket_page held path after → more ≡ is_more_after_page held path after → IsListing held path after page more
fresh_listing held path after page more p m = record {
  later = drop 1000 (entries (keys_after held path after));
  is = sym (take-append-drop 1000 (entries (keys_after held path after))) ∙ ap (λ xs. xs ++ drop 1000 (entries (keys_after held path after))) (sym p);
  ended = λ e.
      let n = length-drop 1000 (entries (keys_after held path after)) in
      let few : nat_lt 1000 (length (entries (keys_after held path after))) ≡ false = sym m ∙ e in
      let small : length (entries (keys_after held path after)) ≤ 1000 = grind (arith, nat_tests) in
      no_entries _ (omega (arith, n, small));
}

pub listing_of_page : (held : KeyDigests) (path : List ℕ) (after : Option (List ℕ)) (page : List PageEntry) (more : Bool) → IsBucketPage held path after page more → IsListing held path after page more
listing_of_page held path after page more h = fresh_listing held path after page more h.is h.goes_on

-- ---- which key comes next

abbrev entry : List ℕ → (mine theirs differs : Bool) → Entry
entry key mine theirs differs = record { key = key; mine = mine; theirs = theirs; differs = differs }

pub next_less : (xs ys xs' : List PageEntry) (e : PageEntry) → xs ≡ e ∷ xs' → order_of_first xs ys ≡ Some Less → TakesLesser (two xs ys) (entry e.0 true false true) (two xs' ys)
next_less xs [] xs' e p o = of_first e p refl refl refl refl refl tt
next_less xs (f ∷ fs) xs' e p o =
    let q : Some (slice_cmp nat_cmp e.0 f.0) ≡ Some Less = ap (λ zs. order_of_first zs (f ∷ fs)) (sym p) ∙ o in
    of_first e p refl refl refl refl refl (cc)

pub next_greater : (xs ys ys' : List PageEntry) (f : PageEntry) → ys ≡ f ∷ ys' → order_of_first xs ys ≡ Some Greater → TakesLesser (two xs ys) (entry f.0 false true true) (two xs ys')
next_greater [] ys ys' f p o = of_second f refl p refl refl refl refl tt
next_greater (e ∷ es) ys ys' f p o =
    let q : Some (slice_cmp nat_cmp e.0 f.0) ≡ Some Greater = ap (order_of_first (e ∷ es)) (sym p) ∙ o in
    let g : slice_cmp nat_cmp e.0 f.0 ≡ Greater = cc in
    of_second f refl p refl refl refl refl (nat_list_cmp_total.antisymm f.0 e.0 ∙ ap ordering_reverse g)

not_is : (b : Bool) (P : Type 0) → (IsTrue b ↔ P) → IsTrue (not b) ↔ (P → ⊥)
not_is true P h = (λ no. absurd (cc), λ no. absurd (no (h.0 refl)))
not_is false P h = (λ _ p. let t = h.1 p in absurd (cc), λ _. refl)

pub next_both : (xs ys xs' ys' : List PageEntry) (e f : PageEntry) (same : Bool) → xs ≡ e ∷ xs' → ys ≡ f ∷ ys' → order_of_first xs ys ≡ Some Equal → (IsTrue same ↔ (e.1 ≡ f.1)) → TakesLesser (two xs ys) (entry e.0 true true (not same)) (two xs' ys')
next_both xs ys xs' ys' e f same p q o h =
    let r : Some (slice_cmp nat_cmp e.0 f.0) ≡ Some Equal = (λ i. order_of_first (sym p i) (sym q i)) ∙ o in
    of_both e f p q refl (keys_same e.0 f.0 (cc)) refl refl (not_is same (e.1 ≡ f.1) h)

-- what is left is no longer than it was
pub takes_shorter : (xs ys xs' ys' : List PageEntry) (e : Entry) → TakesLesser (two xs ys) e (two xs' ys') → (length xs' ≤ length xs) × (length ys' ≤ length ys)
takes_shorter xs ys xs' ys' e (of_first x is same _ _ _ _ _) = let n = ap length is in let m = ap length same in (omega (arith, n), omega (arith, m))
takes_shorter xs ys xs' ys' e (of_second y same is _ _ _ _ _) = let n = ap length is in let m = ap length same in (omega (arith, m), omega (arith, n))
takes_shorter xs ys xs' ys' e (of_both x y is is' _ _ _ _ _) = let n = ap length is in let m = ap length is' in (omega (arith, n), omega (arith, m))
