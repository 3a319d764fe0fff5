-- A walk of the held keys that begin with a prefix, after a key if one is given.
use Rattle.std.specs.Prelude.{ℕ, Bool, List, [], ◌∷◌, length, nat_lt, Option, Some, None, if◌then◌else◌}
use Rattle.std.specs.Ordering.{is_lt}
use Rattle.std.specs.declared.ops.Bound.{Bound}
use Rattle.std.specs.declared.ops.Bound.TheVariants.{Included, Excluded, Unbounded}
use Rattle.mvd_keys.specs.Key.{key_cmp}
use Rattle.mvd_keys.specs.State.{State}
use Rattle.mvd_keys.specs.Writes.{Key}
use Rattle.mvd_rows.specs.Siblings.{begins_with, sibling_count}

-- whether it begins at the prefix itself: where that is a key, and the key that is given stands before it
abbrev pub is_at_prefix : List ℕ → Option Key → Bool
is_at_prefix prefix None = nat_lt 0 (length prefix)
is_at_prefix prefix (Some after) = is_lt (key_cmp after prefix)

-- the prefix as a key, if the walk begins there
abbrev pub first_of : List ℕ → Option Key → Option Key
first_of prefix after = if is_at_prefix prefix after then Some prefix else None

-- it begins at the first key, or else after the other
abbrev pub walk_start : Option Key → Option Key → Bound Key
walk_start (Some first) after = Included first
walk_start None (Some after) = Excluded after
walk_start None None = Unbounded

-- the keys with their numbers of siblings, until the first that does not begin with the prefix
abbrev pub while_begins : List ℕ → List (Key × State) → List (Key × ℕ)
while_begins prefix [] = []
while_begins prefix (e ∷ es) = if begins_with prefix e.0 then sibling_count e ∷ while_begins prefix es else []
