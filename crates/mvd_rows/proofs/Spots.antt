-- When two spots are one.
use Rattle.std.proofs.Common.{◌≡◌, ◌&&◌, ap, ◌∙◌}
use Rattle.std.specs.Ordering.{eq_by_cmp}
use Rattle.mvd_dots.specs.Dot.{dot_cmp, DotValue}
use Rattle.mvd_keys.specs.Key.{key_cmp}
use Rattle.mvd_keys.specs.Writes.{Key}
use Rattle.mvd_keys.proofs.KeyOrder.{tied_itself_key}
use Rattle.mvd_rows.specs.Marks.{spot_cmp}
use Rattle.mvd_rows.specs.Visible.{spot}
use Rattle.mvd_rows.specs.declared.marks.Spot.{Spot}
use Rattle.mvd_rows.proofs.Grouped.{is_eq-then}

pub spots_tied : (a b : Spot) → eq_by_cmp spot_cmp a b ≡ (eq_by_cmp key_cmp a.key b.key && eq_by_cmp dot_cmp a.dot b.dot)
spots_tied a b = is_eq-then (key_cmp a.key b.key) (dot_cmp a.dot b.dot)

-- two spots of one key
pub of_one_key : (key : Key) (a b : DotValue) → eq_by_cmp spot_cmp (spot key a) (spot key b) ≡ eq_by_cmp dot_cmp a b
of_one_key key a b = spots_tied (spot key a) (spot key b) ∙ ap (λ x. x && eq_by_cmp dot_cmp a b) (tied_itself_key key)
