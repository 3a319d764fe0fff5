-- What a page of an index holds.
use Rattle.std.specs.Prelude.{◌≡◌, ℕ, ℤ, Bool, List, [], ◌∷◌, if◌then◌else◌, length, take, nat_lt, Option, Some, None}
use Rattle.std.specs.Ordering.{is_gt, is_lt}
use Rattle.std.specs.declared.ops.Bound.{Bound}
use Rattle.std.specs.declared.ops.Bound.TheVariants.{Excluded, Unbounded}
use Rattle.mvd_rows.specs.Answers.{shown}
use Rattle.mvd_rows.specs.declared.views.Row.{Row}
use Rattle.mvd_dots.specs.Dot.{DotValue}
use Rattle.mvd_keys.specs.Writes.{Key}
use Rattle.mvd_docs.specs.Term.{term_cmp}
use Rattle.mvd_docs.specs.declared.term.Term.{Term}
use Rattle.mvd_keys.specs.declared.places.Place.{Place}
use Rattle.mvd_rows.specs.Marks.{mark_cmp}
use Rattle.mvd_rows.specs.declared.marks.Mark.{Mark}
use Rattle.mvd_rows.specs.declared.marks.Spot.{Spot}

-- the marks up to a term, of entries in order
abbrev pub up_to : Term → List (Mark × Unit {0}) → List Mark
up_to to [] = []
up_to to (e ∷ es) = if is_gt (term_cmp e.0.term to) then [] else e.0 ∷ up_to to es

-- the first thousand, and whether more are left
pub record IsPageOf {A : Type 0} (all : List A) (page : List A) (more : Bool) : Type 0 where
  pub first : page ≡ take 1000 all
  pub left : more ≡ nat_lt 1000 (length all)

-- ---- marks and places

abbrev pub place_with : Term → Option Spot → Option Place
place_with term None = None
place_with term (Some spot) = Some (record { term = term; key = spot.key; dot = spot.dot })

abbrev pub place_of_mark : Mark → Option Place
place_of_mark mark = place_with mark.term mark.spot

abbrev pub mark_of : Place → Mark
mark_of place = record { term = place.term; spot = Some (record { key = place.key; dot = place.dot }) }

-- whether a place stands after a mark
abbrev pub is_past : Mark → Place → Bool
is_past start place = is_lt (mark_cmp start (mark_of place))

-- ---- rows

-- where a walk begins, after a term or a key or of all
abbrev pub start_of : {K : Type 0} → Option K → Bound K
start_of None = Unbounded
start_of (Some at) = Excluded at

abbrev pub shown_entry : Term × Row → Term × ℕ × ℤ × Option (ℤ × ℤ)
shown_entry e = shown e.0 e.1

abbrev pub spot_at : Option (Key × DotValue) → Option Spot
spot_at None = None
spot_at (Some at) = Some (record { key = at.0; dot = at.1 })
