-- Siblings that have a spelling rise, and stand in the context.
use Rattle.std.proofs.Common.{◌≡◌, true, T, List, [], ◌∷◌, Option, Some, None, refl}
use Rattle.std.specs.List.{list_all}
use Rattle.std.specs.FinSet.{contains}
use Rattle.std.specs.FinMap.{FinMap, entries as pairs, from_entries, is_sorted, entries_sorted, same_entries_map}
use Rattle.std.specs.FinMap.Entries.{below_all}
use Rattle.std.specs.Ordering.{is_lt}
use Rattle.mvd_dots.specs.Dot.{DotValue, dot_cmp}
use Rattle.mvd_dots.specs.Context.{DotSet}
use Rattle.mvd_keys.specs.State.{Text, AreParts, pair_of, pairs_of}
use Rattle.mvd_keys.specs.declared.siblings.Sibling.{Sibling}
use Rattle.mvd_keys.proofs.Parts.{is_true, holds, entries_of_pairs, parts_of_tests}
use Rattle.mvd_keys.proofs.Lists.{and_true}
use Rattle.mvd_keys.proofs.Rising.{Pair, both_true, less_of, below_less}
use Rattle.mvd_wire.specs.Codec.{FitEach}
use Rattle.mvd_wire.specs.Codecs.{Layout, sibling, siblings_codec, comes_after}

module _ (v : Layout) (dots : DotSet) where
  after_is : (previous : Option DotValue) (p : Pair) → (sibling v dots previous).Fits p → (comes_after previous p.0 ≡ true) × (contains dots p.0 ≡ true)
  unfolding sibling
  after_is previous p fits = and_true (comes_after previous p.0) (contains dots p.0) fits.0.1

  below : (d : DotValue) (ps : List Pair) → FitEach (sibling v dots) (λ _ s. Some s.0) (Some d) ps → T (below_all dot_cmp d ps)
  below d [] fits = tt
  below d (p ∷ ps) fits =
      let less : T (is_lt (dot_cmp d p.0)) = holds _ (after_is (Some d) p fits.0).0 in
      both_true _ _ less (below_less d p.0 ps (less_of _ less) (below p.0 ps fits.1))

  sorted : (previous : Option DotValue) (ps : List Pair) → FitEach (sibling v dots) (λ _ s. Some s.0) previous ps → T (is_sorted dot_cmp ps)
  sorted previous [] fits = tt
  sorted previous (p ∷ ps) fits = both_true _ _ (below p.0 ps fits.1) (sorted (Some p.0) ps fits.1)

  seen : (previous : Option DotValue) (ss : List Sibling) → FitEach (sibling v dots) (λ _ s. Some s.0) previous (pairs_of ss) → list_all (λ s. contains dots s.dot) ss ≡ true
  seen previous [] fits = refl
  seen previous (s ∷ ss) fits = rw ((after_is previous (pair_of s) fits.0).1) (seen (Some s.dot) ss fits.1)

  pub siblings_sorted : (ps : List Pair) → (siblings_codec v dots).Fits ps → is_sorted dot_cmp ps ≡ true
  unfolding siblings_codec
  siblings_sorted ps fits = is_true _ (sorted None ps fits.1.1)

  -- siblings that were read make a state with the context
  pub siblings_parts : (ss : List Sibling) → (siblings_codec v dots).Fits (pairs_of ss) → AreParts ss dots
  unfolding siblings_codec
  siblings_parts ss fits = parts_of_tests dots ss (siblings_sorted (pairs_of ss) fits) (seen None ss fits.1.1)

  pub siblings_back : (ps : List Pair) → (siblings_codec v dots).Fits ps → pairs (from_entries {R = dot_cmp} ps) ≡ ps
  siblings_back ps fits = entries_of_pairs ps (siblings_sorted ps fits)

pub pairs_back : (m : FinMap dot_cmp Text) → from_entries (pairs m) ≡ m
pairs_back m = same_entries_map _ _ (entries_of_pairs (pairs m) (is_true _ (entries_sorted m)))
