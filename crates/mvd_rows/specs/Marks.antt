-- The orders of the keys of kept rows.
use Rattle.std.specs.Prelude.{ℤ}
use Rattle.std.specs.declared.cmp.Ordering.{Ordering}
use Rattle.std.specs.Ordering.{int_cmp, then_cmp, on, ordering_then}
use Rattle.std.specs.Option.{option_cmp}
use Rattle.std.specs.Cmp.{IsTotalOrder, int_cmp_total}
use Rattle.std.specs.Cmp.Lexicographic.{options_total}
use Rattle.std.proofs.lemmas.Cmp.{on_total, then_total}
use Rattle.std.specs.Prelude.{◌≡◌, refl}
use Rattle.std.specs.FinMap.{IsAntisymmetric}
use Rattle.std.specs.declared.cmp.Ordering.TheVariants.{Less, Equal, Greater}
use Rattle.mvd_dots.specs.Dot.{dot_cmp}
use Rattle.mvd_dots.proofs.Sets.{dot_total, dot_antisymmetric}
use Rattle.mvd_keys.specs.Key.{key_cmp}
use Rattle.mvd_keys.proofs.KeyOrder.{key_total, key_antisymmetric}
use Rattle.mvd_docs.specs.Term.{term_cmp}
use Rattle.mvd_docs.specs.declared.term.Term.{Term}
use Rattle.mvd_docs.proofs.TermOrder.{term_cmp_total}
use Rattle.mvd_rows.specs.declared.marks.Mark.{Mark}
use Rattle.mvd_rows.specs.declared.marks.Spot.{Spot}
use Rattle.mvd_rows.specs.declared.marks.Tally.{Tally}

-- by key, and then by dot
abbrev pub spot_cmp : Spot → Spot → Ordering
spot_cmp = then_cmp (on (λ s. s.key) key_cmp) (on (λ s. s.dot) dot_cmp)

pub spots_total : IsTotalOrder spot_cmp
spots_total = then_total (on_total (λ s. s.key) key_total) (on_total (λ s. s.dot) dot_total)

both_equal : (a b : Ordering) → ordering_then a b ≡ Equal → (a ≡ Equal) × (b ≡ Equal)
both_equal Less b e = cc
both_equal Equal b e = (refl, e)
both_equal Greater b e = cc

pub spots_exact : IsAntisymmetric spot_cmp
spots_exact x y e =
    let both = both_equal (key_cmp x.key y.key) (dot_cmp x.dot y.dot) e in
    let keys : x.key ≡ y.key = key_antisymmetric _ _ both.0 in
    let dots : x.dot ≡ y.dot = dot_antisymmetric _ _ both.1 in
    λ i. record { key = keys i; dot = dots i }

abbrev pub mark_cmp : Mark → Mark → Ordering
mark_cmp = then_cmp (on (λ m. m.term) term_cmp) (on (λ m. m.spot) (option_cmp spot_cmp))

abbrev pub tally_cmp : Tally → Tally → Ordering
tally_cmp = then_cmp (on (λ t. t.term) term_cmp) (on (λ t. t.whole) int_cmp)

pub marks_total : IsTotalOrder mark_cmp
marks_total = then_total (on_total (λ m. m.term) term_cmp_total) (on_total (λ m. m.spot) (options_total spots_total))

pub tallies_total : IsTotalOrder tally_cmp
tallies_total = then_total (on_total (λ t. t.term) term_cmp_total) (on_total (λ t. t.whole) int_cmp_total)

abbrev pub tally_of : Term → ℤ → Tally
tally_of term whole = record { term = term; whole = whole }
