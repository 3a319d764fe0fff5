-- The entries of an ordered map, as those of a finite map.
use Rattle.std.proofs.Common.{◌≡◌, T, cond, List, [], ◌∷◌, Some, refl, sym, ap, subst, Ordering, Less}
use Rattle.std.specs.BTreeMap as tree
use Rattle.std.specs.Map.{keys_of, lookup}
use Rattle.std.specs.List.{AllByRecursion}
use Rattle.std.specs.List.Sorted.{IsStrictlySortedBy}
use Rattle.std.specs.Ordering.{eq_by_cmp, is_lt}
use Rattle.std.specs.FinMap.{find, is_sorted}
use Rattle.std.specs.FinMap.Entries.{below_all}
use Rattle.mvd_rows.proofs.Sorted.{both}

less_is : (r : Ordering) → r ≡ Less → T (is_lt r)
less_is r e = subst (λ x. T (is_lt x)) (sym e) tt

module _ {K X : Type 0} (R : K → K → Ordering) where
  pub below_is : (x : K) (es : List (K × X)) → AllByRecursion (λ y. R x y ≡ Less) (keys_of es) → T (below_all R x es)
  below_is x [] h = tt
  below_is x (e ∷ es) h = both _ _ (less_is (R x e.0) h.0) (below_is x es h.1)

  pub sorted_is : (es : List (K × X)) → IsStrictlySortedBy R (keys_of es) → T (is_sorted R es)
  unfolding IsStrictlySortedBy
  sorted_is [] h = tt
  sorted_is (e ∷ es) h = both _ _ (below_is e.0 es h.0) (sorted_is es h.1)

  pub find_is : (q : K) (es : List (K × X)) → lookup (tree.is_at (R q)) es ≡ find R q es
  find_is q [] = refl
  find_is q (e ∷ es) = ap (λ o. cond (eq_by_cmp R q e.0) (Some e.1) o) (find_is q es)
