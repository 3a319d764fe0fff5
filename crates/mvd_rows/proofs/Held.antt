-- What is visible depends on the state of each key alone.
use Rattle.std.proofs.Common.{◌≡◌, true, false, not, ◌&&◌, cond, List, [], ◌∷◌, filter_map, Some, None, refl, sym, ap, ap₂, ◌∙◌}
use Rattle.std.specs.Ordering.{eq_by_cmp}
use Rattle.std.specs.FinMap.{get, find, from_entries, get-from_entries, get-retain_keys}
use Rattle.std.specs.FinSet.{contains}
use Rattle.mvd_dots.specs.Dot.{dot_cmp, DotValue}
use Rattle.mvd_keys.specs.Key.{key_cmp}
use Rattle.mvd_keys.specs.Writes.{Key, Write, Wrote, Deleted, put_of, writes_of, covered, siblings}
use Rattle.mvd_keys.proofs.StatesOfWrites.{get-siblings, put_at}
use Rattle.mvd_rows.specs.Marks.{spot_cmp, spots_total, spots_exact}
use Rattle.mvd_rows.specs.declared.marks.Spot.{Spot}
use Rattle.mvd_rows.specs.Visible.{visible, spot, spot_of_put}
use Rattle.mvd_rows.proofs.Grouped.{is_eq-then}

-- the first put under a key and a dot
find_put : (key : Key) (dot : DotValue) (W : List Write) → find spot_cmp (spot key dot) (filter_map spot_of_put W) ≡ put_at key W dot
find_put key dot [] = refl
find_put key dot (Wrote k d seen document ∷ W) =
    let ih = find_put key dot W in
    ap₂ (λ b o. cond b (Some document) o) (is_eq-then (key_cmp key k) (dot_cmp dot d)) ih
    ∙ elim (eq_by_cmp key_cmp key k) as (λ a. cond (a && eq_by_cmp dot_cmp dot d) (Some document) (put_at key W dot) ≡ find dot_cmp dot (filter_map put_of (cond a (Wrote k d seen document ∷ writes_of key W) (writes_of key W)))) [ true ↦ refl | false ↦ refl ]
find_put key dot (Deleted k seen ∷ W) =
    find_put key dot W
    ∙ elim (eq_by_cmp key_cmp key k) as (λ a. put_at key W dot ≡ find dot_cmp dot (filter_map put_of (cond a (Deleted k seen ∷ writes_of key W) (writes_of key W)))) [ true ↦ refl | false ↦ refl ]

-- what is visible at a spot is the sibling of its key under its dot
pub get-visible : (W : List Write) (key : Key) (dot : DotValue) → get (visible W) (spot key dot) ≡ get (siblings key W) dot
unfolding visible
get-visible W key dot =
    get-retain_keys (from_entries (filter_map spot_of_put W)) (λ s. not (contains (covered s.key W) s.dot)) (spot key dot)
    (λ x tie. ap (λ (s : Spot). not (contains (covered s.key W) s.dot)) (sym (spots_exact (spot key dot) x tie)))
    ∙ ap (λ o. cond (not (contains (covered key W) dot)) o None) (get-from_entries spots_total (filter_map spot_of_put W) (spot key dot) ∙ find_put key dot W)
    ∙ sym (get-siblings key W dot)
