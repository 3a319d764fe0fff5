-- What one key's siblings make visible, as some of them go and others come.
use Rattle.std.specs.Prelude.{◌≡◌, ℕ, ◌+◌, ◌*◌, ◌≤◌, ◌^◌, Bool, false, not, List, [], ◌∷◌, filter, length, Option, Some, None, unwrap_or, bytes_eq}
use Rattle.std.specs.FinMap.{FinMap, get, find, insert, remove, len, entries}
use Rattle.mvd_dots.specs.Dot.{dot_cmp, DotValue}
use Rattle.mvd_keys.specs.Key.{key_cmp}
use Rattle.mvd_keys.specs.State.{Text, State, empty_state}
use Rattle.mvd_keys.specs.Writes.{Key}
use Rattle.mvd_rows.specs.Defs.{Definitions}
use Rattle.mvd_rows.specs.Visible.{Visible, spot}
use Rattle.mvd_rows.specs.declared.marks.Spot.{Spot}
use Rattle.mvd_rows.specs.declared.moves.Way.{Way}
use Rattle.mvd_rows.specs.declared.moves.Way.TheVariants.{Comes, Goes}

abbrev pub is_document : Text → Option Text → Bool
is_document document None = false
is_document document (Some other) = bytes_eq document other

-- whether the same document stands under the same dot
abbrev pub is_among : List (DotValue × Text) → DotValue × Text → Bool
is_among others e = is_document e.1 (find dot_cmp e.0 others)

-- those that are not among the others
abbrev pub not_among : List (DotValue × Text) → List (DotValue × Text) → List (DotValue × Text)
not_among others es = filter (λ e. not (is_among others e)) es

-- a sibling comes, or goes
abbrev pub moved : Way → Visible → Spot → Text → Visible
moved Comes visible spot document = insert visible spot document
moved Goes visible spot document = remove visible spot

-- what stands at its spot before it does
abbrev pub before : Way → Text → Option Text
before Comes document = None
before Goes document = Some document

-- these siblings of the key come, or go
abbrev pub moved_all : Way → Visible → Key → List (DotValue × Text) → Visible
moved_all way visible key [] = visible
moved_all way visible key (e ∷ es) = moved_all way (moved way visible (spot key e.0) e.1) key es

-- without these siblings of the key
abbrev pub taken_out : Visible → Key → List (DotValue × Text) → Visible
taken_out visible key es = moved_all Goes visible key es

-- with these siblings of the key
abbrev pub put_in : Visible → Key → List (DotValue × Text) → Visible
put_in visible key es = moved_all Comes visible key es

-- how many more are visible at most once so many came, or went
abbrev pub growth : Way → ℕ → ℕ
growth Comes n = n
growth Goes n = 0

-- the key's siblings are just these
pub record HasSiblings (visible : Visible) (key : Key) (es : List (DotValue × Text)) : Type 0 where
  pub at : (dot : DotValue) → get visible (spot key dot) ≡ find dot_cmp dot es

-- where one of these is not among the others, the key has under its dot what must stand there before it moves
pub record CanMove (way : Way) (visible : Visible) (key : Key) (others es : List (DotValue × Text)) : Type 0 where
  pub at : (dot : DotValue) (document : Text) → find dot_cmp dot es ≡ Some document
      → is_among others (dot, document) ≡ false → get visible (spot key dot) ≡ before way document

-- the state of a key, empty where the key is not held
abbrev pub state_in : FinMap key_cmp State → Key → State
state_in states key = unwrap_or (get states key) empty_state

-- no more keys and siblings than a site holds: far fewer than 2^40 siblings in all
pub record IsRoomy (states : FinMap key_cmp State) : Type 0 where
  pub keys : len states ≤ 2 ^ 20
  pub siblings : (key : Key) (state : State) → get states key ≡ Some state → len state.siblings ≤ 2 ^ 17

-- how many siblings stand in one of two states alone
abbrev pub differing : State → State → ℕ
differing old new =
    length (not_among (entries new.siblings) (entries old.siblings))
    + length (not_among (entries old.siblings) (entries new.siblings))

-- the updates that one sibling costs at most: one for each index, and two for each view
abbrev pub updates_each : Definitions → ℕ
updates_each defs = length defs.indexes + 2 * length defs.views

-- the looks that one sibling costs at most: four for each view
abbrev pub looks_each : Definitions → ℕ
looks_each defs = 4 * length defs.views
