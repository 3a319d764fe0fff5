-- No count and no sum of a view grows too large.
use Rattle.std.proofs.Common.{◌≡◌, Bool, true, false, if◌then◌else◌, ℕ, suc, ◌+◌, ◌*◌, ◌≤◌, ◌<◌, ◌^◌, List, [], ◌∷◌, length, Option, Some, None, unwrap_or, refl, sym, ap, ◌∙◌, arith, ℤ, pos, ◌+ℤ◌, ◌≤ℤ◌, subst}
use Rattle.std.proofs.lemmas.Int.{ints}
use Rattle.std.proofs.lemmas.List.Sums.{length-filter, count_by-le-length}
use Rattle.std.specs.List.{cons_option}
use Rattle.std.specs.Ordering.{eq_by_cmp, int_cmp}
use Rattle.std.specs.BTreeMap as tree
use Rattle.std.specs.FinMap.{entries, len-entries}
use Rattle.mvd_keys.specs.State.{Text}
use Rattle.mvd_rows.specs.Names.{Field}
use Rattle.mvd_docs.specs.declared.term.Term.{Term}
use Rattle.mvd_rows.specs.declared.marks.Spot.{Spot}
use Rattle.mvd_docs.specs.Document.{whole_of}
use Rattle.mvd_docs.specs.Term.{term_cmp}
use Rattle.mvd_rows.proofs.Ranges.{Fits64, whole_of-fits}
use Rattle.mvd_rows.specs.Marks.{tally_cmp}
use Rattle.mvd_rows.specs.Stands.{IsViewOf, IsSmall, tally_at}
use Rattle.mvd_rows.specs.Views.{has_term, members, wholes, times, total, row_of, no_row}
use Rattle.mvd_rows.specs.Visible.{Visible}
use Rattle.mvd_rows.specs.declared.marks.Tally.{Tally}
use Rattle.mvd_rows.specs.declared.views.Row.{Row}
use Rattle.mvd_rows.specs.declared.views.View.{View}
use Rattle.mvd_rows.proofs.Grouped.{kept_row, kept_times}

pub record Roomy (row : Row) : Type 0 where
  pub count : row.count ≤ 2 ^ 40
  pub low : pos 0 ≤ℤ (row.sum +ℤ pos (2 ^ 103))
  pub high : row.sum ≤ℤ pos (2 ^ 103)

record Bounded (n : ℕ) (z : ℤ) : Type 0 where
  low : pos 0 ≤ℤ (z +ℤ pos (9223372036854775808 * n))
  high : z ≤ℤ pos (9223372036854775808 * n)

bounded_more : (n : ℕ) (o : Option ℤ) (ws : List ℤ) → ((w : ℤ) → o ≡ Some w → Fits64 w) → Bounded n (total ws) → Bounded (suc n) (total (cons_option o ws))
bounded_more n None ws fits b = record { low = let h = b.low in omega (arith, ints); high = let h = b.high in omega (arith, ints) }
bounded_more n (Some w) ws fits b = let f : Fits64 w = fits w refl in record { low = omega (arith, ints); high = omega (arith, ints) }

bounded : (sum : Field) (es : List (Spot × Text)) → Bounded (length es) (total (wholes sum es))
bounded sum [] = record { low = omega (arith, ints); high = omega (arith, ints) }
bounded sum (e ∷ es) = bounded_more (length es) (whole_of sum e.1) (wholes sum es) (λ w gives. whole_of-fits sum e.1 w gives) (bounded sum es)

few_members : (group : Field) (t : Term) (visible : Visible) → IsSmall visible → length (members group t visible) ≤ 2 ^ 40
unfolding members
few_members group t visible small =
    let e = length-filter (λ (x : Spot × Text). has_term group t x.1) (entries visible) in
    let f = count_by-le-length (λ (x : Spot × Text). has_term group t x.1) (entries visible) in
    let g = len-entries visible in
    omega arith

roomy_row : (group sum : Field) (t : Term) (visible : Visible) → IsSmall visible → Roomy (row_of group sum t visible)
roomy_row group sum t visible small =
    let few = few_members group t visible small in
    let b = bounded sum (members group t visible) in
    record { count = few; low = omega (arith, ints); high = omega (arith, ints) }

-- the row of a group that a view keeps
pub row_room : (view : View) (visible : Visible) → IsViewOf view visible → IsSmall visible → (t : Term) → Roomy (unwrap_or (tree.get term_cmp view.rows.map t) no_row)
row_room view visible is small t =
    subst Roomy (sym (ap (λ o. unwrap_or o no_row) (is.row t) ∙ kept_row view.group view.sum visible t)) (roomy_row view.group view.sum t visible small)

times_by : (b : Bool) (m n : ℕ) → m ≤ n → (if b then m + 1 else m) ≤ suc n
times_by true m n h = omega arith
times_by false m n h = omega arith

times_more : (x : ℤ) (o : Option ℤ) (ws : List ℤ) (n : ℕ) → times x ws ≤ n → times x (cons_option o ws) ≤ suc n
times_more x None ws n h = omega arith
times_more x (Some w) ws n h = times_by (eq_by_cmp int_cmp x w) (times x ws) n h

times_few : (x : ℤ) (sum : Field) (es : List (Spot × Text)) → times x (wholes sum es) ≤ length es
times_few x sum [] = omega arith
times_few x sum (e ∷ es) = times_more x (whole_of sum e.1) (wholes sum es) (length es) (times_few x sum es)

pub tally_room : (view : View) (visible : Visible) → IsViewOf view visible → IsSmall visible → (tally : Tally) → unwrap_or (tree.get tally_cmp view.tallies.kept.map tally) 0 < 2 ^ 41
unfolding tally_at
tally_room view visible is small tally =
    let e = ap (λ o. unwrap_or o 0) (is.tallied.at tally) ∙ kept_times (tally_at view.group view.sum visible tally) in
    let f = times_few tally.whole view.sum (members view.group tally.term visible) in
    let g = few_members view.group tally.term visible small in
    omega arith
