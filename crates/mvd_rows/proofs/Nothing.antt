-- Rows of nothing.
use Rattle.std.proofs.Common.{◌≡◌, false, List, [], ◌∷◌, length, filter, flat_map, Ordering, Option, Some, None, refl, sym, ap, ◌∙◌, arith, if◌then◌else◌}
use Rattle.std.specs.BTreeMap as tree
use Rattle.std.specs.Map.{lookup}
use Rattle.std.specs.FinMap.{empty, entries, get-empty, len-empty, len-entries, from_entries}
use Rattle.mvd_docs.specs.Term.{term_cmp}
use Rattle.mvd_docs.specs.declared.term.Term.{Term}
use Rattle.mvd_keys.specs.Key.{key_cmp}
use Rattle.mvd_keys.specs.State.{State, Text}
use Rattle.mvd_rows.specs.Marks.{mark_cmp, spot_cmp, tally_cmp}
use Rattle.mvd_rows.specs.Names.{Field}
use Rattle.mvd_rows.specs.Stands.{IsIndexOf, IsViewOf, is_in_some, is_place, is_place_at, row_at, tally_at, unless_none}
use Rattle.mvd_rows.specs.Views.{has_term, members, row_of_members, times, wholes}
use Rattle.mvd_rows.specs.Visible.{siblings_at, visible_in}
use Rattle.mvd_rows.specs.declared.index.Index.{Index}
use Rattle.mvd_rows.specs.declared.marks.Spot.{Spot}
use Rattle.mvd_rows.specs.declared.views.View.{View}

no_entries_by : {A : Type 0} (es : List A) → length es ≡ 0 → es ≡ []
no_entries_by [] e = refl
no_entries_by (x ∷ es) e = absurd (omega arith)

no_entries : {K : Type 0} (X : Type 0) (R : K → K → Ordering) → entries (empty {X = X} {R = R}) ≡ []
no_entries X R = no_entries_by (entries (empty {X = X} {R = R})) (sym (len-entries (empty {X = X} {R = R})) ∙ len-empty R X)

no_place : (field : Field) (term : Term) (at : Option Spot) → is_place_at field term at empty ≡ false
no_place field term None = refl
no_place field term (Some spot) = ap (is_in_some field term) (get-empty spot_cmp spot)

pub no_places : (index : Index) → tree.IsEmpty index.places.map → IsIndexOf index empty
unfolding is_place
no_places index none = record {
  at = λ m. ap (lookup (tree.is_at (mark_cmp m))) none ∙ sym (ap (λ b. if b then Some tt else None) (no_place index.field m.term m.spot));
}

no_members : (group : Field) (term : Term) → members group term empty ≡ []
unfolding members
no_members group term = ap (λ es. filter (λ e. has_term group term e.1) es) (no_entries Text spot_cmp)

pub no_rows : (view : View) → tree.IsEmpty view.rows.map → tree.IsEmpty view.tallies.kept.map → IsViewOf view empty
unfolding row_at tally_at
no_rows view none no_tallies = record {
  row = λ t. ap (lookup (tree.is_at (term_cmp t))) none ∙ sym (ap (λ es. unless_none (row_of_members view.sum es).count (row_of_members view.sum es)) (no_members view.group t));
  tallied = record { at = λ k. ap (lookup (tree.is_at (tally_cmp k))) no_tallies ∙ sym (ap (λ es. unless_none (times k.whole (wholes view.sum es)) (times k.whole (wholes view.sum es))) (no_members view.group k.term)) };
}

pub nothing_visible : visible_in empty ≡ empty
unfolding visible_in
nothing_visible = ap (λ es. from_entries (flat_map (λ e. siblings_at e.0 e.1.siblings) es)) (no_entries State key_cmp)
