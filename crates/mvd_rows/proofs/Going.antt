-- The rows of a view, as a sibling goes.
use Rattle.std.proofs.Common.{◌≡◌, ℕ, ◌+◌, ◌-◌, ◌≤◌, Bool, true, false, ◌&&◌, cond, if◌then◌else◌, Option, Some, None, unwrap_or, refl, sym, ap, ap₂, ◌∙◌, true≢false, arith, ℤ, ◌-ℤ◌, subst}
use Rattle.std.proofs.lemmas.Int.{ints}
use Rattle.std.specs.Ordering.{eq_by_cmp, int_cmp, is_eq}
use Rattle.std.specs.Cmp.{eq_by_cmp_equiv, int_cmp_total, tied_itself}
use Rattle.std.specs.BTreeMap as tree
use Rattle.std.specs.FinMap.{get, insert, remove, get-insert, get-remove, same_map}
use Rattle.mvd_keys.specs.State.{Text}
use Rattle.mvd_rows.specs.Names.{Field}
use Rattle.mvd_docs.specs.declared.term.Term.{Term}
use Rattle.mvd_rows.specs.declared.marks.Spot.{Spot}
use Rattle.mvd_docs.specs.Document.{term_of, whole_of}
use Rattle.mvd_rows.specs.Marks.{spot_cmp, spots_total, spots_exact}
use Rattle.mvd_docs.specs.Term.{term_cmp}
use Rattle.mvd_docs.proofs.TermOrder.{term_cmp_total}
use Rattle.mvd_rows.specs.Becomes.{Becomes}
use Rattle.mvd_rows.specs.Marks.{tally_cmp, tally_of}
use Rattle.mvd_rows.specs.Stands.{IsViewOf, IsTallied, HasSameFields, row_at, tally_at, unless_none, AreEnds}
use Rattle.mvd_rows.specs.Views.{is_term, members, wholes, times, row_of_members, row_of, gained, times_gained, no_row}
use Rattle.mvd_rows.specs.Visible.{Visible}
use Rattle.mvd_rows.specs.declared.tallies.Tallies.{Tallies}
use Rattle.mvd_rows.specs.declared.views.Row.{Row}
use Rattle.mvd_rows.specs.declared.views.View.{View}
use Rattle.mvd_rows.proofs.Members.{members_stay}
use Rattle.mvd_rows.proofs.Grouped.{row_after, times_after, kept_row, kept_times, term_tied, is_eq-then, int_tied, cond_same}
use Rattle.mvd_rows.proofs.Least.{ends_are}
use Rattle.mvd_rows.proofs.Places.{spot_tied}

restored : (visible : Visible) (s : Spot) (d : Text) → get visible s ≡ Some d → insert (remove visible s) s d ≡ visible
restored visible s d here = same_map spots_total spots_exact _ _ (λ q.
    get-insert spots_total (remove visible s) s d q ∙ ap (cond (eq_by_cmp spot_cmp q s) (Some d)) (get-remove spots_total visible s q)
    ∙ elim (eq_by_cmp spot_cmp q s) as (λ b. eq_by_cmp spot_cmp q s ≡ b → cond b (Some d) (cond b None (get visible q)) ≡ get visible q) [
      | true ↦ λ tied. sym (ap (get visible) (spot_tied q s tied) ∙ here)
      | false ↦ λ _. refl
    ] refl)

gone : (visible : Visible) (s : Spot) → get (remove visible s) s ≡ None
gone visible s = get-remove spots_total visible s s ∙ ap (λ r. cond (is_eq r) None (get visible s)) (tied_itself spots_total s)

module _ (group sum : Field) (visible : Visible) (s : Spot) (d : Text) (u : Term) (has : term_of group d ≡ Some u) (here : get visible s ≡ Some d) where
  row_before : (t : Term) → row_of group sum t visible ≡ cond (eq_by_cmp term_cmp u t) (gained (whole_of sum d) (row_of group sum t (remove visible s))) (row_of group sum t (remove visible s))
  row_before t = ap (row_of group sum t) (sym (restored visible s d here)) ∙ row_after group sum (remove visible s) s d u has (gone visible s) t

  times_before : (t : Term) (x : ℤ) → times x (wholes sum (members group t visible)) ≡ cond (eq_by_cmp term_cmp u t) (times_gained (whole_of sum d) x (times x (wholes sum (members group t (remove visible s))))) (times x (wholes sum (members group t (remove visible s))))
  times_before t x = ap (λ v. times x (wholes sum (members group t v))) (sym (restored visible s d here)) ∙ times_after group sum (remove visible s) s d u has (gone visible s) t x

goes_by : (a b : Bool) (n m : ℕ) → (a ≡ true → b ≡ true → n ≡ m) → cond (a && b) (unless_none n n) (unless_none (cond a (if b then m + 1 else m) m) (cond a (if b then m + 1 else m) m)) ≡ unless_none m m
goes_by true true n m same = ap (λ k. unless_none k k) (same refl refl)
goes_by true false n m same = refl
goes_by false b n m same = refl

less_one : (a b : Bool) (m t : ℕ) → a ≡ true → b ≡ true → t ≡ cond a (if b then m + 1 else m) m → t - 1 ≡ m
less_one true true m t p q e = omega arith
less_one true false m t p q e = absurd (true≢false (sym q))
less_one false b m t p q e = absurd (true≢false (sym p))

pub tallies_go : (group sum : Field) (old new : Tallies) (visible : Visible) (s : Spot) (d : Text) (u : Term) (w : ℤ) → IsTallied group sum old visible → get visible s ≡ Some d → term_of group d ≡ Some u → whole_of sum d ≡ Some w →
    Becomes tally_cmp old.kept.map new.kept.map (tally_of u w) (unless_none (unwrap_or (tree.get tally_cmp old.kept.map (tally_of u w)) 0 - 1) (unwrap_or (tree.get tally_cmp old.kept.map (tally_of u w)) 0 - 1)) → IsTallied group sum new (remove visible s)
unfolding tally_at
tallies_go group sum old new visible s d u w is here has gives becomes = record {
  at = λ k.
      let n = unwrap_or (tree.get tally_cmp old.kept.map (tally_of u w)) 0 - 1 in
      let m = tally_at group sum (remove visible s) k in
      let was : tally_at group sum visible k ≡ cond (eq_by_cmp term_cmp u k.term) (if eq_by_cmp int_cmp k.whole w then m + 1 else m) m =
      times_before group sum visible s d u has here k.term k.whole ∙ ap (λ o. cond (eq_by_cmp term_cmp u k.term) (times_gained o k.whole m) m) gives in
      becomes.at k ∙ ap (cond (is_eq (tally_cmp (tally_of u w) k)) (unless_none n n)) (is.at k ∙ ap (λ t. unless_none t t) was)
      ∙ ap (λ b. cond b (unless_none n n) (unless_none (cond (eq_by_cmp term_cmp u k.term) (if eq_by_cmp int_cmp k.whole w then m + 1 else m) m) (cond (eq_by_cmp term_cmp u k.term) (if eq_by_cmp int_cmp k.whole w then m + 1 else m) m)))
      (is_eq-then (term_cmp u k.term) (int_cmp w k.whole) ∙ ap (λ b. eq_by_cmp term_cmp u k.term && b) ((eq_by_cmp_equiv int_cmp_total).symm w k.whole))
      ∙ goes_by (eq_by_cmp term_cmp u k.term) (eq_by_cmp int_cmp k.whole w) n m
      (λ one two. ap₂ (λ t x. unwrap_or (tree.get tally_cmp old.kept.map (tally_of t x)) 0 - 1) (term_tied u k.term one) (sym (int_tied k.whole w two))
      ∙ ap (λ o. unwrap_or o 0 - 1) (is.at k) ∙ ap (λ t. t - 1) (kept_times (tally_at group sum visible k))
      ∙ less_one (eq_by_cmp term_cmp u k.term) (eq_by_cmp int_cmp k.whole w) m (tally_at group sum visible k) one two was);
}

pub tallies_left : (group sum : Field) (tallies : Tallies) (visible : Visible) (s : Spot) (d : Text) (u : Term) → IsTallied group sum tallies visible → get visible s ≡ Some d → term_of group d ≡ Some u → whole_of sum d ≡ None → IsTallied group sum tallies (remove visible s)
unfolding tally_at
tallies_left group sum tallies visible s d u is here has gives = record {
  at = λ k.
      let m = tally_at group sum (remove visible s) k in
      is.at k ∙ ap (λ t. unless_none t t) (times_before group sum visible s d u has here k.term k.whole ∙ ap (λ o. cond (eq_by_cmp term_cmp u k.term) (times_gained o k.whole m) m) gives ∙ cond_same (eq_by_cmp term_cmp u k.term) m);
}

pub rows_go : (old new : View) (visible : Visible) (s : Spot) (d : Text) (u : Term) (row : Row) → IsViewOf old visible → get visible s ≡ Some d → term_of old.group d ≡ Some u → HasSameFields old new →
    row ≡ row_of old.group old.sum u (remove visible s) → Becomes term_cmp old.rows.map new.rows.map u (unless_none row.count row) →
    IsTallied old.group old.sum new.tallies (remove visible s) → IsViewOf new (remove visible s)
unfolding row_at
rows_go old new visible s d u row is here has same row_is becomes tallied = record {
  row = λ t.
      let left = row_of old.group old.sum t (remove visible s) in
      becomes.at t ∙ ap (cond (eq_by_cmp term_cmp u t) (unless_none row.count row)) (is.row t ∙ ap (λ (r : Row). unless_none r.count r) (row_before old.group old.sum visible s d u has here t))
      ∙ elim (eq_by_cmp term_cmp u t) as (λ b. eq_by_cmp term_cmp u t ≡ b → cond b (unless_none row.count row) (unless_none (cond b (gained (whole_of old.sum d) left) left).count (cond b (gained (whole_of old.sum d) left) left)) ≡ unless_none left.count left) [
        | true ↦ λ tied. ap (λ (r : Row). unless_none r.count r) (row_is ∙ ap (λ x. row_of old.group old.sum x (remove visible s)) (term_tied u t tied))
        | false ↦ λ apart. refl
      ] refl
      ∙ ap₂ (λ g h. row_at g h (remove visible s) t) (sym same.group) (sym same.sum);
  tallied = subst (λ (g : Field). IsTallied g new.sum new.tallies (remove visible s)) (sym same.group) (subst (λ (h : Field). IsTallied old.group h new.tallies (remove visible s)) (sym same.sum) tallied);
}

-- the row that a view keeps of the group of a sibling that goes
pub row_to_go : (old : View) (visible : Visible) (s : Spot) (d : Text) (u : Term) → IsViewOf old visible → get visible s ≡ Some d → term_of old.group d ≡ Some u →
    unwrap_or (tree.get term_cmp old.rows.map u) no_row ≡ gained (whole_of old.sum d) (row_of old.group old.sum u (remove visible s))
row_to_go old visible s d u is here has =
    ap (λ o. unwrap_or o no_row) (is.row u) ∙ kept_row old.group old.sum visible u ∙ row_before old.group old.sum visible s d u has here u
    ∙ ap (λ r. cond (is_eq r) (gained (whole_of old.sum d) (row_of old.group old.sum u (remove visible s))) (row_of old.group old.sum u (remove visible s))) (tied_itself term_cmp_total u)

pub none_go : (view : View) (visible : Visible) (s : Spot) (d : Text) → IsViewOf view visible → get visible s ≡ Some d → term_of view.group d ≡ None → IsViewOf view (remove visible s)
unfolding row_at tally_at
none_go view visible s d is here has =
    let stay : (t : Term) → members view.group t visible ≡ members view.group t (remove visible s) = λ t. ap (members view.group t) (sym (restored visible s d here)) ∙ members_stay view.group t (remove visible s) s d (gone visible s) (ap (is_term t) has) in
    record {
      row = λ t. is.row t ∙ ap (λ es. unless_none (row_of_members view.sum es).count (row_of_members view.sum es)) (stay t);
      tallied = record { at = λ k. is.tallied.at k ∙ ap (λ es. unless_none (times k.whole (wholes view.sum es)) (times k.whole (wholes view.sum es))) (stay k.term) };
    }

pub plain_goes : (old new : View) (visible : Visible) (s : Spot) (d : Text) (u : Term) (row : Row) → IsViewOf old visible → get visible s ≡ Some d → term_of old.group d ≡ Some u → whole_of old.sum d ≡ None → HasSameFields old new →
    row.count ≡ (unwrap_or (tree.get term_cmp old.rows.map u) no_row).count - 1 → row.sum ≡ (unwrap_or (tree.get term_cmp old.rows.map u) no_row).sum → row.ends ≡ (unwrap_or (tree.get term_cmp old.rows.map u) no_row).ends →
    Becomes term_cmp old.rows.map new.rows.map u (unless_none row.count row) → new.tallies ≡ old.tallies → IsViewOf new (remove visible s)
plain_goes old new visible s d u row is here has gives same count sum ends becomes rest =
    let r = row_of old.group old.sum u (remove visible s) in
    let e = row_to_go old visible s d u is here has ∙ ap (λ o. gained o r) gives in
    let counts : row.count ≡ r.count = (let f = count in let g = ap (λ (x : Row). x.count) e in omega arith) in
    rows_go old new visible s d u row is here has same
    (λ i. record { count = counts i; sum = (sum ∙ ap (λ (x : Row). x.sum) e) i; ends = (ends ∙ ap (λ (x : Row). x.ends) e) i })
    becomes (subst (λ t. IsTallied old.group old.sum t (remove visible s)) (sym rest) (tallies_left old.group old.sum old.tallies visible s d u is.tallied here has gives))

pub whole_goes : (old new : View) (tallies : Tallies) (visible : Visible) (s : Spot) (d : Text) (u copied : Term) (w : ℤ) (row : Row) → new.tallies ≡ tallies → u ≡ copied → IsViewOf old visible → get visible s ≡ Some d → term_of old.group d ≡ Some u → whole_of old.sum d ≡ Some w → HasSameFields old new →
    row.count ≡ (unwrap_or (tree.get term_cmp old.rows.map u) no_row).count - 1 → row.sum ≡ (unwrap_or (tree.get term_cmp old.rows.map u) no_row).sum -ℤ w → AreEnds tallies.kept.map u row.ends →
    Becomes term_cmp old.rows.map new.rows.map u (unless_none row.count row) →
    Becomes tally_cmp old.tallies.kept.map tallies.kept.map (tally_of copied w) (unless_none (unwrap_or (tree.get tally_cmp old.tallies.kept.map (tally_of copied w)) 0 - 1) (unwrap_or (tree.get tally_cmp old.tallies.kept.map (tally_of copied w)) 0 - 1)) → IsViewOf new (remove visible s)
whole_goes old new tallies visible s d u copied w row left copy is here has gives same count sum ends becomes lowered =
    let r = row_of old.group old.sum u (remove visible s) in
    let e = row_to_go old visible s d u is here has ∙ ap (λ o. gained o r) gives in
    let counts : row.count ≡ r.count = (let f = count in let g = ap (λ (x : Row). x.count) e in omega arith) in
    let sums : row.sum ≡ r.sum = (let f = sum in let g = ap (λ (x : Row). x.sum) e in omega (arith, ints)) in
    let tallied = tallies_go old.group old.sum old.tallies tallies visible s d u w is.tallied here has gives
    (subst (λ t. Becomes tally_cmp old.tallies.kept.map tallies.kept.map (tally_of t w) (unless_none (unwrap_or (tree.get tally_cmp old.tallies.kept.map (tally_of t w)) 0 - 1) (unwrap_or (tree.get tally_cmp old.tallies.kept.map (tally_of t w)) 0 - 1))) (sym copy) lowered) in
    rows_go old new visible s d u row is here has same
    (λ i. record { count = counts i; sum = sums i; ends = ends_are old.group old.sum tallies (remove visible s) u row.ends tallied ends i })
    becomes (subst (λ t. IsTallied old.group old.sum t (remove visible s)) (sym left) tallied)

gained_counts : (o : Option ℤ) (row : Row) → 1 ≤ (gained o row).count
gained_counts None row = omega arith
gained_counts (Some w) row = omega arith

pub row_counts : (old : View) (visible : Visible) (s : Spot) (d : Text) (u : Term) → IsViewOf old visible → get visible s ≡ Some d → term_of old.group d ≡ Some u → 1 ≤ (unwrap_or (tree.get term_cmp old.rows.map u) no_row).count
row_counts old visible s d u is here has = subst (λ (r : Row). 1 ≤ r.count) (sym (row_to_go old visible s d u is here has)) (gained_counts (whole_of old.sum d) (row_of old.group old.sum u (remove visible s)))
