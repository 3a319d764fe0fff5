-- The keys with the numbers of their siblings, and pages of them.
use Rattle.std.specs.Prelude.{ℕ, Bool, true, ◌&&◌, List, map, filter, length, take, nat_le, Option, Some, None, bytes_eq}
use Rattle.std.specs.Ordering.{is_lt}
use Rattle.std.specs.FinMap.{FinMap, entries, len}
use Rattle.mvd_keys.specs.Key.{key_cmp}
use Rattle.mvd_keys.specs.State.{State}
use Rattle.mvd_keys.specs.Writes.{Key}
use Rattle.mvd_rows.specs.Answers.{page_of}

-- a key with the number of its siblings: 0 where it is deleted
abbrev pub sibling_count : Key × State → Key × ℕ
sibling_count e = (e.0, len e.1.siblings)

-- every held key, rising, with the number of its siblings
unfoldable pub sibling_counts : FinMap key_cmp State → List (Key × ℕ)
sibling_counts states = map sibling_count (entries states)

-- whether so many siblings are in conflict
abbrev pub is_conflict : ℕ → Bool
is_conflict count = nat_le 2 count

-- the keys in conflict, rising: those with two siblings or more
unfoldable pub conflicts_in : FinMap key_cmp State → List (Key × ℕ)
conflicts_in states = filter (λ e. is_conflict e.1) (sibling_counts states)

-- ---- pages

-- whether a key stands after another one, if one is given
abbrev pub is_after_key : Option Key → Key → Bool
is_after_key None key = true
is_after_key (Some at) key = is_lt (key_cmp at key)

-- whether the prefix stands at the head of the key
abbrev pub begins_with : List ℕ → Key → Bool
begins_with prefix key = bytes_eq prefix (take (length prefix) key)

-- the keys in conflict after a key
abbrev pub conflicts_answer : FinMap key_cmp State → Option Key → List (Key × ℕ) × Bool
conflicts_answer states after = page_of (filter (λ e. is_after_key after e.0) (conflicts_in states))

-- the keys that begin with the prefix, after a key
abbrev pub keys_answer : FinMap key_cmp State → List ℕ → Option Key → List (Key × ℕ) × Bool
keys_answer states prefix after =
    page_of (filter (λ e. begins_with prefix e.0 && is_after_key after e.0) (sibling_counts states))
