-- The least and the greatest whole number of a group, by the ends of a range of tallies.
use Rattle.mvd_dots.specs.declared.refusals.Refusal.{Refusal}
use Rattle.std.proofs.Common.{Result, Ok, ◌≡◌, ℕ, true, false, Option, Some, None, is_some, IsSome, refl, sym, ap, ◌∙◌, subst, true≢false, Ordering, Less, Equal, Greater, arith, ℤ, pos, negsuc, ◌≤ℤ◌}
use Rattle.std.proofs.lemmas.Int.{ints}
use Rattle.std.specs.declared.ops.Bound.TheVariants.{Included}
use Rattle.std.specs.BTreeMap as tree
use Rattle.std.specs.BTreeMap.{BTreeMap}
use Rattle.std.specs.BTreeMap.Range.{IsLeBy, IsInRange}
use Rattle.std.specs.Ordering.{int_cmp, is_gt, is_lt, ordering_then, ordering_reverse}
use Rattle.std.specs.Cmp.{tied_itself}
use Rattle.mvd_docs.specs.declared.term.Term.{Term}
use Rattle.mvd_docs.specs.Term.{term_cmp}
use Rattle.mvd_docs.proofs.TermOrder.{term_cmp_total, term_cmp-IsAntisymmetric}
use Rattle.mvd_rows.specs.Marks.{tally_cmp, tally_of}
use Rattle.mvd_rows.specs.Stands.{AreEnds, no_ends, two_ends, IsI64, stands_in}
use Rattle.mvd_rows.specs.declared.marks.Tally.{Tally}

abbrev LEAST : ℤ
LEAST = negsuc 9223372036854775807

abbrev MOST : ℤ
MOST = pos 9223372036854775807

not_above : (a b : ℤ) → a ≤ℤ b → is_gt (int_cmp a b) ≡ false
not_above a b h = grind (arith, ints)

up_to : (a b : ℤ) → is_gt (int_cmp a b) ≡ false → a ≤ℤ b
up_to a b h = grind (arith, ints)

not_below : (a b : ℤ) → is_lt (int_cmp a b) ≡ false → b ≤ℤ a
not_below a b h = grind (arith, ints)

pub whole_range : (g a b : Term) → g ≡ a → g ≡ b → IsLeBy tally_cmp (tally_of a LEAST) (tally_of b MOST)
whole_range g a b ga gb = ap (λ r. is_gt (ordering_then r (int_cmp LEAST MOST))) ((λ i. term_cmp (sym ga i) (sym gb i)) ∙ tied_itself term_cmp_total g) ∙ not_above LEAST MOST (omega (arith, ints))

abbrev Range : Term → Tally → Type 0
Range g k = IsInRange tally_cmp (Included (tally_of g LEAST)) (Included (tally_of g MOST)) k

in_range : (g : Term) (w : ℤ) → IsI64 w → Range g (tally_of g w)
in_range g w fits = (
  ap (λ r. is_gt (ordering_then r (int_cmp LEAST w))) (tied_itself term_cmp_total g) ∙ not_above LEAST w fits.least,
  ap (λ r. is_gt (ordering_then r (int_cmp w MOST))) (tied_itself term_cmp_total g) ∙ not_above w MOST fits.most,
)

same_group_by : (r s b c : Ordering) → r ≡ ordering_reverse s → is_gt (ordering_then r b) ≡ false → is_gt (ordering_then s c) ≡ false → r ≡ Equal
same_group_by Less Less b c e h k = cc
same_group_by Less Equal b c e h k = cc
same_group_by Less Greater b c e h k = absurd (true≢false k)
same_group_by Equal s b c e h k = refl
same_group_by Greater s b c e h k = absurd (true≢false h)

group_is : (g : Term) (k : Tally) → Range g k → g ≡ k.term
group_is g k h = term_cmp-IsAntisymmetric g k.term (same_group_by (term_cmp g k.term) (term_cmp k.term g) _ _ (term_cmp_total.antisymm g k.term) h.0 h.1)

there : (o : Option ℕ) → IsSome o → is_some o ≡ true
there o h = h

there_back : (o : Option ℕ) → is_some o ≡ true → IsSome o
there_back o h = h

at_group : (g a b : Term) → g ≡ a → g ≡ b → (k : Tally) → Range g k → IsInRange tally_cmp (Included (tally_of a LEAST)) (Included (tally_of b MOST)) k
at_group g a b ga gb k h = (subst (λ t. IsLeBy tally_cmp (tally_of t LEAST) k) ga h.0, subst (λ t. IsLeBy tally_cmp k (tally_of t MOST)) gb h.1)

from_group : (g a b : Term) → g ≡ a → g ≡ b → (k : Tally) → IsInRange tally_cmp (Included (tally_of a LEAST)) (Included (tally_of b MOST)) k → Range g k
from_group g a b ga gb k h = (subst (λ t. IsLeBy tally_cmp (tally_of t LEAST) k) (sym ga) h.0, subst (λ t. IsLeBy tally_cmp k (tally_of t MOST)) (sym gb) h.1)

-- a tally of the group stands there by its whole number
stands_by : (tallies : BTreeMap Tally ℕ) (g : Term) (k : Tally) → g ≡ k.term → IsSome (tree.get tally_cmp tallies k) → stands_in tallies g k.whole ≡ true
stands_by tallies g k e h = ap (λ t. stands_in tallies t k.whole) e ∙ there _ h

below_whole : (g : Term) (k : Tally) (w : ℤ) → g ≡ k.term → IsLeBy tally_cmp k (tally_of g w) → k.whole ≤ℤ w
below_whole g k w e h = up_to k.whole w (ap (λ r. is_gt (ordering_then r (int_cmp k.whole w))) (sym (ap (λ t. term_cmp t g) (sym e) ∙ tied_itself term_cmp_total g)) ∙ h)

above_whole : (g : Term) (k : Tally) (w : ℤ) → g ≡ k.term → is_lt (tally_cmp k (tally_of g w)) ≡ false → w ≤ℤ k.whole
above_whole g k w e h = not_below k.whole w (ap (λ r. is_lt (ordering_then r (int_cmp k.whole w))) (sym (ap (λ t. term_cmp t g) (sym e) ∙ tied_itself term_cmp_total g)) ∙ h)

pub none_between : (tallies : BTreeMap Tally ℕ) (g a b : Term) → g ≡ a → g ≡ b →
    ((q : Tally) → IsInRange tally_cmp (Included (tally_of a LEAST)) (Included (tally_of b MOST)) q → tree.get tally_cmp tallies q ≡ None) → AreEnds tallies g None
none_between tallies g a b ga gb none = no_ends (λ w fits. ap is_some (none (tally_of g w) (at_group g a b ga gb (tally_of g w) (in_range g w fits))))

pub ends_between : (tallies : BTreeMap Tally ℕ) (g a b : Term) → g ≡ a → g ≡ b → (k l : Tally) →
    IsInRange tally_cmp (Included (tally_of a LEAST)) (Included (tally_of b MOST)) k → IsInRange tally_cmp (Included (tally_of a LEAST)) (Included (tally_of b MOST)) l →
    IsSome (tree.get tally_cmp tallies k) → IsSome (tree.get tally_cmp tallies l) →
    ((q : Tally) → IsInRange tally_cmp (Included (tally_of a LEAST)) (Included (tally_of b MOST)) q → IsSome (tree.get tally_cmp tallies q) → IsLeBy tally_cmp k q) →
    ((q : Tally) → IsInRange tally_cmp (Included (tally_of a LEAST)) (Included (tally_of b MOST)) q → IsSome (tree.get tally_cmp tallies q) → is_lt (tally_cmp l q) ≡ false) →
    AreEnds tallies g (Some (k.whole, l.whole))
ends_between tallies g a b ga gb k l in_k in_l has_k has_l least greatest =
    let mine : g ≡ k.term = group_is g k (from_group g a b ga gb k in_k) in
    let theirs : g ≡ l.term = group_is g l (from_group g a b ga gb l in_l) in
    two_ends k.whole l.whole (stands_by tallies g k mine has_k) (stands_by tallies g l theirs has_l)
    (λ w fits has.
    let here = at_group g a b ga gb (tally_of g w) (in_range g w fits) in
    (below_whole g k w mine (least (tally_of g w) here (there_back _ has)), above_whole g l w theirs (greatest (tally_of g w) here (there_back _ has))))

pub same_copy : (a b : Term) → ◌≡◌ {A = Result Term Refusal} (Ok a) (Ok b) → a ≡ b
same_copy a b e = cc
