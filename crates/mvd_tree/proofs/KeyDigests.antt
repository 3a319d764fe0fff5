-- The digests of keys in their states, key by key.
use Rattle.std.proofs.Common.{◌≡◌, ℕ, Bool, true, false, cond, ◌&&◌, List, [], ◌∷◌, refl, sym, ap, ◌∙◌, Some, Option}
use Rattle.std.specs.Prelude.{map, option_map, T}
use Rattle.std.specs.declared.cmp.Ordering.{Ordering}
use Rattle.std.specs.declared.cmp.Ordering.TheVariants.{Less, Equal, Greater}
use Rattle.std.specs.Ordering.{nat_cmp, eq_by_cmp, is_eq, is_lt, ordering_reverse}
use Rattle.std.specs.Cmp.{IsTotalOrder, tied_itself, Equal-is}
use Rattle.std.specs.Cmp.Lexicographic.{slice_cmp, nat_list_cmp_total}
use Rattle.std.specs.FinMap.{FinMap, get, entries, entries_sorted, get-entries, find, is_sorted, get-from_entries}
use Rattle.std.specs.FinMap.Entries.{below_all}
use Rattle.mvd_tree.specs.States.{key_digest, digests_of}
use Rattle.mvd_tree.proofs.Under.{keys_same}

-- each entry of a list, by recursion
abbrev pub Each : {X : Type 0} → (X → Type 0) → List X → Type 0
Each P [] = Unit {0}
Each P (x ∷ xs) = P x × Each P xs

pub Each-weaker : {X : Type 0} (P Q : X → Type 0) → ((x : X) → P x → Q x) → (xs : List X) → Each P xs → Each Q xs
Each-weaker P Q f [] h = tt
Each-weaker P Q f (x ∷ xs) h = (f x h.0, Each-weaker P Q f xs h.1)

is_lt-Less : (o : Ordering) → T (is_lt o) → o ≡ Less
is_lt-Less Less h = refl
is_lt-Less Equal h = absurd h
is_lt-Less Greater h = absurd h

front : (a b : Bool) → T (a && b) → T a
front true b h = tt
front false b h = absurd h

back : (a b : Bool) → T (a && b) → T b
back true b h = h
back false b h = absurd h

module _ {K X : Type 0} {R : K → K → Ordering} (o : IsTotalOrder R) where
  -- what is found in a list is found behind a lower entry
  behind : (x : K × X) (es fs : List (K × X)) → T (below_all R x.0 fs) → Each (λ e. find R e.0 es ≡ Some e.1) fs → Each (λ e. find R e.0 (x ∷ es) ≡ Some e.1) fs
  behind x es [] b h = tt
  behind x es (f ∷ fs) b h =
      let less = is_lt-Less _ (front _ _ b) in
      let more : R f.0 x.0 ≡ Greater = o.antisymm f.0 x.0 ∙ ap ordering_reverse less in
      (ap (λ r. cond (is_eq r) (Some x.1) (find R f.0 es)) more ∙ h.0, behind x es fs (back _ _ b) h.1)

  found_each : (es : List (K × X)) → T (is_sorted R es) → Each (λ e. find R e.0 es ≡ Some e.1) es
  found_each [] h = tt
  found_each (x ∷ es) h =
      (ap (λ r. cond (is_eq r) (Some x.1) (find R x.0 es)) (tied_itself o x.0), behind x es es (front _ _ h) (found_each es (back _ _ h)))

  -- a map answers each of its entries
  pub got_each : (m : FinMap R X) → Each (λ e. get m e.0 ≡ Some e.1) (entries m)
  got_each m = Each-weaker (λ e. find R e.0 (entries m) ≡ Some e.1) (λ e. get m e.0 ≡ Some e.1) (λ e h. get-entries m e.0 ∙ h) (entries m) (found_each (entries m) (entries_sorted m))

module _ {S : Type 0} (spelled : List ℕ → S → List ℕ) where
  pub find-digests : (q : List ℕ) (es : List (List ℕ × S)) → find (slice_cmp nat_cmp) q (map (λ e. (e.0, key_digest spelled e.0 e.1)) es) ≡ option_map (key_digest spelled q) (find (slice_cmp nat_cmp) q es)
  find-digests q [] = refl
  find-digests q (e ∷ es) =
      elim (eq_by_cmp (slice_cmp nat_cmp) q e.0) as (λ b. eq_by_cmp (slice_cmp nat_cmp) q e.0 ≡ b → cond b (Some (key_digest spelled e.0 e.1)) (find (slice_cmp nat_cmp) q (map (λ e. (e.0, key_digest spelled e.0 e.1)) es)) ≡ option_map (key_digest spelled q) (cond b (Some e.1) (find (slice_cmp nat_cmp) q es))) [
        | true ↦ λ tie. ap (λ k. Some (key_digest spelled k e.1)) (sym (keys_same q e.0 ((Equal-is _).0 tie)))
        | false ↦ λ _. find-digests q es
      ] refl

  -- the digest of a key is that of its state, if it is held
  pub get-digests_of : (m : FinMap (slice_cmp nat_cmp) S) (q : List ℕ) → get (digests_of spelled m) q ≡ option_map (key_digest spelled q) (get m q)
  unfolding digests_of
  get-digests_of m q = get-from_entries nat_list_cmp_total _ q ∙ find-digests q (entries m) ∙ ap (option_map (key_digest spelled q)) (sym (get-entries m q))
