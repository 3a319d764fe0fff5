use Rattle.std.proofs.Common.{◌≡◌, ℕ, suc, ◌<◌, List, get_or, true}
use Rattle.std.specs.Ordering.{is_lt}
use Rattle.mvd_keys.specs.Key.{key_cmp}
use Rattle.mvd_tree.proofs.rises.Given as goal

abbrev pub invariant-loop-i : goal.invariant-loop-i
invariant-loop-i l = (k : ℕ) (d : List ℕ × List ℕ) → suc k < l.i → is_lt (key_cmp (get_or l.entries k d).0 (get_or l.entries (suc k) d).0) ≡ true
