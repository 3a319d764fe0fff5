-- Counts of work that is done in steps.
use Rattle.std.proofs.Common.{◌≡◌, ℕ, ◌+◌, ◌*◌, ◌≤◌, ap, subst, sym, arith}
use Rattle.mvd_rows.specs.Counted.{Within}
use Rattle.mvd_rows.specs.declared.meters.Meter.{Meter}

pub within_then : (a b p q m n : ℕ) (x y z : Meter) → a + p ≤ m → b + q ≤ n → Within a b x y → Within p q y z → Within m n x z
within_then a b p q m n x y z updates looks first second = record {
  updates = both _ _ _ a p m updates first.updates second.updates;
  looks = both _ _ _ b q n looks first.looks second.looks;
  least_updates = least _ _ _ first.least_updates second.least_updates;
  least_looks = least _ _ _ first.least_looks second.least_looks;
}
  where
    both : (x y z a p m : ℕ) → a + p ≤ m → y ≤ x + a → z ≤ y + p → z ≤ x + m
    both x y z a p m h e f = omega arith

    least : (x y z : ℕ) → x ≤ y → y ≤ z → x ≤ z
    least x y z e f = omega arith

pub within_less : (a b m n : ℕ) (x y : Meter) → a ≤ m → b ≤ n → Within a b x y → Within m n x y
within_less a b m n x y updates looks is = record {
  updates = more _ _ a m updates is.updates;
  looks = more _ _ b n looks is.looks;
  least_updates = is.least_updates;
  least_looks = is.least_looks;
}
  where
    more : (x y a m : ℕ) → a ≤ m → y ≤ x + a → y ≤ x + m
    more x y a m h e = omega arith

-- what is given is as long as what was looked at
pub within_given : (looked given : ℕ) (x y : Meter) → given ≡ looked → Within 0 (looked + 2) x y → Within 0 (given + 2) x y
within_given looked given x y e is = subst (λ n. Within 0 (n + 2) x y) (sym e) is

pub within_next : (i u l : ℕ) (x y z : Meter) → Within (u * i) (l * i) x y → Within u l y z → Within (u * (i + 1)) (l * (i + 1)) x z
within_next i u l x y z first second = within_then (u * i) (l * i) u l _ _ x y z (next u i) (next l i) first second
  where
    next : (u i : ℕ) → u * i + u ≤ u * (i + 1)
    next u i = grind arith

-- so many of all are left, each of which costs so many updates and looks
pub record Spent (left all u l : ℕ) (x y : Meter) : Type 0 where
  pub updates : y.updates + left * u ≤ x.updates + all * u
  pub looks : y.looks + left * l ≤ x.looks + all * l
  pub least_updates : x.updates ≤ y.updates
  pub least_looks : x.looks ≤ y.looks

pub spent_starts : (all u l : ℕ) (x : Meter) → Spent all all u l x x
spent_starts all u l x = record { updates = same _; looks = same _; least_updates = same _; least_looks = same _ }
  where
    same : (n : ℕ) → n ≤ n
    same n = omega arith

pub spent_one : (left less all u l : ℕ) (x y z : Meter) → left ≡ 1 + less → Spent left all u l x y → Within u l y z → Spent less all u l x z
spent_one left less all u l x y z one spent costs = record {
  updates = step _ _ _ _ less u (ap (λ n. n * u) one) spent.updates costs.updates;
  looks = step _ _ _ _ less l (ap (λ n. n * l) one) spent.looks costs.looks;
  least_updates = least _ _ _ spent.least_updates costs.least_updates;
  least_looks = least _ _ _ spent.least_looks costs.least_looks;
}
  where
    more : (n each : ℕ) → (1 + n) * each ≡ each + n * each
    more n each = grind arith

    step : (left y z most less u : ℕ) → left ≡ (1 + less) * u → y + left ≤ most → z ≤ y + u → z + less * u ≤ most
    step left y z most less u e h g = let f = more less u in omega arith

    least : (x y z : ℕ) → x ≤ y → y ≤ z → x ≤ z
    least x y z e f = omega arith

pub spent_same : (left less all u l : ℕ) (x y : Meter) → left ≡ less → Spent left all u l x y → Spent less all u l x y
spent_same left less all u l x y e spent = subst (λ n. Spent n all u l x y) e spent

pub spent_ends : (left all u l : ℕ) (x y : Meter) → Spent left all u l x y → Within (all * u) (all * l) x y
spent_ends left all u l x y spent = record {
  updates = drop _ _ _ spent.updates;
  looks = drop _ _ _ spent.looks;
  least_updates = spent.least_updates;
  least_looks = spent.least_looks;
}
  where
    drop : (y left most : ℕ) → y + left ≤ most → y ≤ most
    drop y left most h = omega arith

-- some cost so many updates and looks each, and then some more
pub within_both : (a b u l v k : ℕ) (x y z : Meter) → v ≡ u → k ≡ l → Within (a * u) (a * l) x y → Within (b * v) (b * k) y z → Within ((a + b) * u) ((a + b) * l) x z
within_both a b u l v k x y z same_u same_l first second = within_then (a * u) (a * l) (b * v) (b * k) _ _ x y z (sums u v same_u) (sums l k same_l) first second
  where
    dist : (a b each : ℕ) → (a + b) * each ≡ a * each + b * each
    dist a b each = grind arith

    sums : (u v : ℕ) → v ≡ u → a * u + b * v ≤ (a + b) * u
    sums u v e = let f = ap (λ n. b * n) e in let g = dist a b u in omega arith

-- the same where the lists are as long as others
pub each_is : (i v j w : ℕ) (x y : Meter) → i ≡ j → v ≡ w → Within (i + 2 * v) (4 * v) x y → Within (j + 2 * w) (4 * w) x y
each_is i v j w x y e f h = within_less _ _ _ _ x y (sums i v j w e f) (four v w f) h
  where
    sums : (i v j w : ℕ) → i ≡ j → v ≡ w → i + 2 * v ≤ j + 2 * w
    sums i v j w e f = omega arith

    four : (v w : ℕ) → v ≡ w → 4 * v ≤ 4 * w
    four v w f = omega arith
