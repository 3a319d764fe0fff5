-- The rows of a view, as a sibling comes or goes.
use Rattle.mvd_dots.specs.declared.refusals.Refusal.{Refusal}
use Rattle.std.proofs.Common.{Result, Ok, ◌≡◌, ℕ, zero, suc, ne_eqb, ◌+◌, ◌==◌, Bool, true, false, ◌&&◌, cond, if◌then◌else◌, List, [], ◌∷◌, length, Option, Some, None, unwrap_or, refl, sym, ap, ap₂, ◌∙◌, Ordering, Less, Equal, Greater, arith, ℤ, subst}
use Rattle.std.specs.Ordering.{eq_by_cmp, int_cmp, is_eq, ordering_then}
use Rattle.std.specs.Cmp.{eq_by_cmp_equiv, Equal-is, int_cmp_total}
use Rattle.std.specs.BTreeMap as tree
use Rattle.std.specs.FinMap.{get, insert, int_cmp-IsAntisymmetric}
use Rattle.mvd_keys.specs.State.{Text}
use Rattle.mvd_rows.specs.Names.{Field}
use Rattle.mvd_docs.specs.declared.term.Term.{Term}
use Rattle.mvd_rows.specs.declared.marks.Spot.{Spot}
use Rattle.mvd_docs.specs.Document.{term_of, whole_of}
use Rattle.mvd_docs.specs.Term.{term_cmp}
use Rattle.mvd_docs.proofs.TermOrder.{term_cmp_total, term_cmp-IsAntisymmetric}
use Rattle.mvd_rows.specs.Becomes.{Becomes}
use Rattle.mvd_rows.specs.Marks.{tally_cmp, tally_of}
use Rattle.mvd_rows.specs.Stands.{IsViewOf, IsTallied, HasSameFields, row_at, tally_at, unless_none}
use Rattle.mvd_rows.specs.Views.{is_term, members, wholes, times, row_of_members, row_of, gained, times_gained, no_row}
use Rattle.mvd_rows.specs.Visible.{Visible}
use Rattle.mvd_rows.specs.declared.tallies.Tallies.{Tallies}
use Rattle.mvd_rows.specs.declared.views.Row.{Row}
use Rattle.mvd_rows.specs.declared.views.View.{View}
use Rattle.mvd_rows.proofs.Members.{members_gain, members_stay, row_gains, wholes_times_gain}

module _ (group sum : Field) (visible : Visible) (s : Spot) (d : Text) (u : Term) (has : term_of group d ≡ Some u) (fresh : get visible s ≡ None) where
  -- the row and the times of a group after the sibling came
  pub row_after : (t : Term) → row_of group sum t (insert visible s d) ≡ cond (eq_by_cmp term_cmp u t) (gained (whole_of sum d) (row_of group sum t visible)) (row_of group sum t visible)
  row_after t = elim (eq_by_cmp term_cmp u t) as (λ b. eq_by_cmp term_cmp u t ≡ b → row_of group sum t (insert visible s d) ≡ cond b (gained (whole_of sum d) (row_of group sum t visible)) (row_of group sum t visible)) [
    | true ↦ λ tied. row_gains sum (s, d) _ _ (members_gain group t visible s d fresh (ap (is_term t) has ∙ (eq_by_cmp_equiv term_cmp_total).symm t u ∙ tied))
    | false ↦ λ apart. ap (row_of_members sum) (members_stay group t visible s d fresh (ap (is_term t) has ∙ (eq_by_cmp_equiv term_cmp_total).symm t u ∙ apart))
  ] refl

  pub times_after : (t : Term) (x : ℤ) → times x (wholes sum (members group t (insert visible s d))) ≡ cond (eq_by_cmp term_cmp u t) (times_gained (whole_of sum d) x (times x (wholes sum (members group t visible)))) (times x (wholes sum (members group t visible)))
  times_after t x = elim (eq_by_cmp term_cmp u t) as (λ b. eq_by_cmp term_cmp u t ≡ b → times x (wholes sum (members group t (insert visible s d))) ≡ cond b (times_gained (whole_of sum d) x (times x (wholes sum (members group t visible)))) (times x (wholes sum (members group t visible)))) [
    | true ↦ λ tied. wholes_times_gain sum (s, d) x _ _ (members_gain group t visible s d fresh (ap (is_term t) has ∙ (eq_by_cmp_equiv term_cmp_total).symm t u ∙ tied))
    | false ↦ λ apart. ap (λ es. times x (wholes sum es)) (members_stay group t visible s d fresh (ap (is_term t) has ∙ (eq_by_cmp_equiv term_cmp_total).symm t u ∙ apart))
  ] refl

-- a row of which nothing is a member
none_in : (sum : Field) (es : List (Spot × Text)) → unwrap_or (unless_none (length es) (row_of_members sum es)) no_row ≡ row_of_members sum es
none_in sum [] = refl
none_in sum (e ∷ es) = ap (λ b. unwrap_or (if b then None else Some (row_of_members sum (e ∷ es))) no_row) (ne_eqb (suc (length es)) 0 (λ e. omega arith))

pub kept_row : (group sum : Field) (visible : Visible) (t : Term) → unwrap_or (row_at group sum visible t) no_row ≡ row_of group sum t visible
unfolding row_at
kept_row group sum visible t = none_in sum (members group t visible)

pub kept_times : (n : ℕ) → unwrap_or (unless_none n n) 0 ≡ n
kept_times zero = refl
kept_times (suc n) = ap (λ b. unwrap_or (if b then None else Some (suc n)) 0) (ne_eqb (suc n) 0 (λ e. omega arith))

pub one_more : (n : ℕ) → ((n + 1) == 0) ≡ false
one_more n = ne_eqb (n + 1) 0 (λ e. omega arith)

gained_stands : (w : Option ℤ) (row : Row) → unless_none (gained w row).count (gained w row) ≡ Some (gained w row)
gained_stands None row = ap (λ b. if b then None else Some (gained None row)) (one_more row.count)
gained_stands (Some w) row = ap (λ b. if b then None else Some (gained (Some w) row)) (one_more row.count)

pub term_tied : (u t : Term) → eq_by_cmp term_cmp u t ≡ true → u ≡ t
term_tied u t tied = term_cmp-IsAntisymmetric u t ((Equal-is (term_cmp u t)).0 tied)

pub rows_come : (old new : View) (visible : Visible) (s : Spot) (d : Text) (u : Term) (row : Row) → IsViewOf old visible → get visible s ≡ None → term_of old.group d ≡ Some u → HasSameFields old new →
    row ≡ gained (whole_of old.sum d) (unwrap_or (tree.get term_cmp old.rows.map u) no_row) → Becomes term_cmp old.rows.map new.rows.map u (Some row) →
    IsTallied old.group old.sum new.tallies (insert visible s d) → IsViewOf new (insert visible s d)
unfolding row_at
rows_come old new visible s d u row is fresh has same row_is becomes tallied = record {
  row = λ t.
      becomes.at t ∙ ap (cond (eq_by_cmp term_cmp u t) (Some row)) (is.row t)
      ∙ elim (eq_by_cmp term_cmp u t) as (λ b. eq_by_cmp term_cmp u t ≡ b → cond b (Some row) (row_at old.group old.sum visible t) ≡ unless_none (cond b (gained (whole_of old.sum d) (row_of old.group old.sum t visible)) (row_of old.group old.sum t visible)).count (cond b (gained (whole_of old.sum d) (row_of old.group old.sum t visible)) (row_of old.group old.sum t visible))) [
        | true ↦ λ tied.
            let e : row ≡ gained (whole_of old.sum d) (row_of old.group old.sum t visible) = row_is ∙ ap (λ x. gained (whole_of old.sum d) (unwrap_or (tree.get term_cmp old.rows.map x) no_row)) (term_tied u t tied) ∙ ap (λ o. gained (whole_of old.sum d) (unwrap_or o no_row)) (is.row t) ∙ ap (gained (whole_of old.sum d)) (kept_row old.group old.sum visible t) in
            ap Some e ∙ sym (gained_stands (whole_of old.sum d) (row_of old.group old.sum t visible))
        | false ↦ λ apart. refl
      ] refl
      ∙ sym (ap (λ (r : Row). unless_none r.count r) (row_after old.group old.sum visible s d u has fresh t))
      ∙ ap₂ (λ g h. row_at g h (insert visible s d) t) (sym same.group) (sym same.sum);
  tallied = subst (λ (g : Field). IsTallied g new.sum new.tallies (insert visible s d)) (sym same.group) (subst (λ (h : Field). IsTallied old.group h new.tallies (insert visible s d)) (sym same.sum) tallied);
}

-- ---- tallies as a sibling comes

pub is_eq-then : (a b : Ordering) → is_eq (ordering_then a b) ≡ (is_eq a && is_eq b)
is_eq-then Less b = refl
is_eq-then Equal b = refl
is_eq-then Greater b = refl

pub int_tied : (w x : ℤ) → eq_by_cmp int_cmp w x ≡ true → w ≡ x
int_tied w x tied = int_cmp-IsAntisymmetric w x ((Equal-is (int_cmp w x)).0 tied)

comes_by : (a b : Bool) (n m : ℕ) → (a ≡ true → b ≡ true → n ≡ m) → cond (a && b) (Some (n + 1)) (unless_none m m) ≡ unless_none (cond a (if b then m + 1 else m) m) (cond a (if b then m + 1 else m) m)
comes_by true true n m same = ap (λ k. Some (k + 1)) (same refl refl) ∙ sym (ap (λ b. if b then None else Some (m + 1)) (one_more m))
comes_by true false n m same = refl
comes_by false b n m same = refl

pub tallies_come : (group sum : Field) (old new : Tallies) (visible : Visible) (s : Spot) (d : Text) (u : Term) (w : ℤ) → IsTallied group sum old visible → get visible s ≡ None → term_of group d ≡ Some u → whole_of sum d ≡ Some w →
    Becomes tally_cmp old.kept.map new.kept.map (tally_of u w) (Some (unwrap_or (tree.get tally_cmp old.kept.map (tally_of u w)) 0 + 1)) → IsTallied group sum new (insert visible s d)
unfolding tally_at
tallies_come group sum old new visible s d u w is fresh has gives becomes = record {
  at = λ k.
      let n = unwrap_or (tree.get tally_cmp old.kept.map (tally_of u w)) 0 in
      let m = tally_at group sum visible k in
      becomes.at k ∙ ap (cond (is_eq (tally_cmp (tally_of u w) k)) (Some (n + 1))) (is.at k)
      ∙ ap (λ b. cond b (Some (n + 1)) (unless_none m m)) (is_eq-then (term_cmp u k.term) (int_cmp w k.whole) ∙ ap (λ b. eq_by_cmp term_cmp u k.term && b) ((eq_by_cmp_equiv int_cmp_total).symm w k.whole))
      ∙ comes_by (eq_by_cmp term_cmp u k.term) (eq_by_cmp int_cmp k.whole w) n m
      (λ one two. ap₂ (λ t x. unwrap_or (tree.get tally_cmp old.kept.map (tally_of t x)) 0) (term_tied u k.term one) (sym (int_tied k.whole w two)) ∙ ap (λ o. unwrap_or o 0) (is.at k) ∙ kept_times m)
      ∙ sym (ap (λ t. unless_none t t) (times_after group sum visible s d u has fresh k.term k.whole ∙ ap (λ o. cond (eq_by_cmp term_cmp u k.term) (times_gained o k.whole m) m) gives));
}

pub cond_same : (b : Bool) (m : ℕ) → cond b m m ≡ m
cond_same true m = refl
cond_same false m = refl

pub tallies_stay : (group sum : Field) (tallies : Tallies) (visible : Visible) (s : Spot) (d : Text) (u : Term) → IsTallied group sum tallies visible → get visible s ≡ None → term_of group d ≡ Some u → whole_of sum d ≡ None → IsTallied group sum tallies (insert visible s d)
unfolding tally_at
tallies_stay group sum tallies visible s d u is fresh has gives = record {
  at = λ k.
      let m = tally_at group sum visible k in
      is.at k ∙ sym (ap (λ t. unless_none t t) (times_after group sum visible s d u has fresh k.term k.whole ∙ ap (λ o. cond (eq_by_cmp term_cmp u k.term) (times_gained o k.whole m) m) gives ∙ cond_same (eq_by_cmp term_cmp u k.term) m));
}

-- ---- what the functions cite

pub none_come : (view : View) (visible : Visible) (s : Spot) (d : Text) → IsViewOf view visible → get visible s ≡ None → term_of view.group d ≡ None → IsViewOf view (insert visible s d)
unfolding row_at tally_at
none_come view visible s d is fresh has =
    let stay : (t : Term) → members view.group t (insert visible s d) ≡ members view.group t visible = λ t. members_stay view.group t visible s d fresh (ap (is_term t) has) in
    record {
      row = λ t. is.row t ∙ ap (λ es. unless_none (row_of_members view.sum es).count (row_of_members view.sum es)) (sym (stay t));
      tallied = record { at = λ k. is.tallied.at k ∙ ap (λ es. unless_none (times k.whole (wholes view.sum es)) (times k.whole (wholes view.sum es))) (sym (stay k.term)) };
    }

pub plain_comes : (old new : View) (visible : Visible) (s : Spot) (d : Text) (u : Term) (row : Row) → IsViewOf old visible → get visible s ≡ None → term_of old.group d ≡ Some u → whole_of old.sum d ≡ None → HasSameFields old new →
    row ≡ gained None (unwrap_or (tree.get term_cmp old.rows.map u) no_row) → Becomes term_cmp old.rows.map new.rows.map u (Some row) → new.tallies ≡ old.tallies → IsViewOf new (insert visible s d)
plain_comes old new visible s d u row is fresh has gives same row_is becomes rest =
    rows_come old new visible s d u row is fresh has same (row_is ∙ ap (λ o. gained o (unwrap_or (tree.get term_cmp old.rows.map u) no_row)) (sym gives)) becomes
    (subst (λ t. IsTallied old.group old.sum t (insert visible s d)) (sym rest) (tallies_stay old.group old.sum old.tallies visible s d u is.tallied fresh has gives))

pub whole_comes : (old new : View) (visible : Visible) (s : Spot) (d : Text) (u copied : Term) (w : ℤ) (row : Row) → u ≡ copied → IsViewOf old visible → get visible s ≡ None → term_of old.group d ≡ Some u → whole_of old.sum d ≡ Some w → HasSameFields old new →
    row ≡ gained (Some w) (unwrap_or (tree.get term_cmp old.rows.map u) no_row) → Becomes term_cmp old.rows.map new.rows.map u (Some row) →
    Becomes tally_cmp old.tallies.kept.map new.tallies.kept.map (tally_of copied w) (Some (unwrap_or (tree.get tally_cmp old.tallies.kept.map (tally_of copied w)) 0 + 1)) → IsViewOf new (insert visible s d)
whole_comes old new visible s d u copied w row copy is fresh has gives same row_is becomes tallied =
    rows_come old new visible s d u row is fresh has same (row_is ∙ ap (λ o. gained o (unwrap_or (tree.get term_cmp old.rows.map u) no_row)) (sym gives)) becomes
    (tallies_come old.group old.sum old.tallies new.tallies visible s d u w is.tallied fresh has gives
    (subst (λ t. Becomes tally_cmp old.tallies.kept.map new.tallies.kept.map (tally_of t w) (Some (unwrap_or (tree.get tally_cmp old.tallies.kept.map (tally_of t w)) 0 + 1))) (sym copy) tallied))

pub same_ok : {X : Type 0} (a b : X) → ◌≡◌ {A = Result X Refusal} (Ok a) (Ok b) → a ≡ b
same_ok a b e = cc

pub row_is : (view : View) (visible : Visible) (t : Term) → IsViewOf view visible → unwrap_or (tree.get term_cmp view.rows.map t) no_row ≡ row_of view.group view.sum t visible
row_is view visible t is = ap (λ o. unwrap_or o no_row) (is.row t) ∙ kept_row view.group view.sum visible t
