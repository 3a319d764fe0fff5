-- What is visible at a site: each sibling of each key.
use Rattle.std.specs.Prelude.{not, List, map, filter_map, flat_map, Option, Some, None}
use Rattle.std.specs.FinMap.{FinMap, entries, from_entries, retain_keys}
use Rattle.std.specs.FinSet.{contains}
use Rattle.mvd_dots.specs.Dot.{dot_cmp, DotValue}
use Rattle.mvd_keys.specs.Key.{key_cmp}
use Rattle.mvd_keys.specs.State.{Text, State}
use Rattle.mvd_keys.specs.Writes.{Key, Write, Wrote, Deleted, covered}
use Rattle.mvd_rows.specs.Marks.{spot_cmp}
use Rattle.mvd_rows.specs.declared.marks.Spot.{Spot}

abbrev pub Visible : Type 0
Visible = FinMap spot_cmp Text

abbrev pub spot : Key → DotValue → Spot
spot key dot = record { key = key; dot = dot }

abbrev pub spot_of_put : Write → Option (Spot × Text)
spot_of_put (Wrote key dot context document) = Some (spot key dot, document)
spot_of_put (Deleted key context) = None

-- the puts that no author of a write of their key had seen
unfoldable pub visible : List Write → Visible
visible writes =
    retain_keys (from_entries (filter_map spot_of_put writes)) (λ s. not (contains (covered s.key writes) s.dot))

abbrev pub siblings_at : Key → FinMap dot_cmp Text → List (Spot × Text)
siblings_at key siblings = map (λ e. (spot key e.0, e.1)) (entries siblings)

-- the siblings of each of the key states
unfoldable pub visible_in : FinMap key_cmp State → Visible
visible_in states = from_entries (flat_map (λ e. siblings_at e.0 e.1.siblings) (entries states))
