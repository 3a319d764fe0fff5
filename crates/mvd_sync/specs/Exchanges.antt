-- How keys are exchanged, one window after another.
use Rattle.std.specs.Prelude.{◌≡◌, ◌≤◌, ◌+◌, ℕ, Bool, true, false, not, List, ◌++◌, length, map}
use Rattle.std.specs.Prelude.{take, filter, filter_map, Option, is_some, option_map}
use Rattle.mvd_dots.specs.declared.refusals.Refusal.{Refusal}
use Rattle.mvd_keys.specs.Writes.{Key}
use Rattle.mvd_sync.specs.declared.cursor.Entry.{Entry}
use Rattle.mvd_sync.specs.declared.report.Left.{Left}
use Rattle.mvd_sync.specs.declared.report.Side.{Side}

-- ---- what waits, and what was done

-- the keys that wait, how many are exchanged at once, the counts so far, and the first of the keys that were refused
pub record Exchanging : Type 0 where
  pub number : Option ℕ
  pub waiting : List Entry
  pub most : ℕ
  pub keys : ℕ
  pub refused : ℕ
  pub older : ℕ
  pub first_refused : List Left

-- a key that was exchanged, or by which side it was refused, and how
pub record Done : Type 0 where
  pub key : Key
  pub is_old : Bool
  pub refused : Option (Side × Refusal)

-- the keys of the list
abbrev pub keys_done : List Done → List Key
keys_done ds = map (λ d. d.key) ds

-- the keys that both sides have joined
abbrev pub is_given : Option (Side × Refusal) → Bool
is_given refused = not (is_some refused)

abbrev pub given_keys : List Done → List Key
given_keys ds = keys_done (filter (λ d. is_given d.refused) ds)

-- those that were refused
abbrev pub left_as : Key → Side × Refusal → Left
left_as key refused = record { key = key; side = refused.0; refusal = refused.1 }

abbrev pub left_of : Done → Option Left
left_of d = option_map (left_as d.key) d.refused

abbrev pub left_keys : List Done → List Left
left_keys ds = filter_map left_of ds

-- ---- between two faithful sides

-- these are counted besides
pub record CountsDone (now : List Done) (before after : Exchanging) : Type 0 where
  pub number : after.number ≡ before.number
  pub waiting : after.waiting ≡ before.waiting
  pub most : after.most ≡ before.most
  pub keys : after.keys ≡ before.keys + length (given_keys now)
  pub refused : after.refused ≡ before.refused + length (left_keys now)
  pub first_refused : length before.first_refused ≤ 100
      → after.first_refused ≡ take 100 (before.first_refused ++ left_keys now)
  pub older : after.older ≡ before.older + length (filter (λ d. d.is_old) now)

-- ---- a step

-- each entry is held by one of the two
abbrev pub IsHeldByEither : Entry → Type 0
IsHeldByEither e = (e.mine ≡ false → e.theirs ≡ true)
