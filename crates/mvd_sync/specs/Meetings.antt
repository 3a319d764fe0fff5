-- The keys of a window: what each side is to take of them, and what became of it.
use Rattle.std.specs.Prelude.{◌≡◌, ℕ, Bool, true, false, cond, List, [], ◌∷◌, map, filter, Option, Some, None, is_some}
use Rattle.std.specs.Prelude.{option_map, unwrap_or, Result, Err, IfSome, ◌↔◌}
use Rattle.mvd_dots.specs.declared.refusals.Refusal.{Refusal}
use Rattle.mvd_dots.specs.declared.refusals.Refusal.TheVariants.{DotClash}
use Rattle.mvd_keys.specs.State.{IsValid, State, clashes, empty_state, join}
use Rattle.mvd_keys.specs.Writes.{Key}
use Rattle.mvd_sync.specs.Exchanges.{Done}
use Rattle.mvd_sync.specs.Olds.{HasUnseen}
use Rattle.mvd_sync.specs.declared.cursor.Entry.{Entry}
use Rattle.mvd_sync.specs.declared.meetings.Meeting.{Meeting}
use Rattle.mvd_sync.specs.declared.report.Side.{Side}
use Rattle.mvd_sync.specs.declared.report.Side.TheVariants.{Local as AtLocal, Peer as AtPeer}

-- ---- the keys that a side holds

abbrev pub is_held : Side → Entry → Bool
is_held AtLocal e = e.mine
is_held AtPeer e = e.theirs

abbrev pub held_keys : Side → List Entry → List Key
held_keys side es = map (λ e. e.key) (filter (is_held side) es)

-- ---- what is to be done

-- a side that has no state has the empty one
abbrev pub or_empty : Option State → State
or_empty s = unwrap_or s empty_state

-- each side takes the other's state, if it has one, but the peer none that it has; states that clash are refused at the
-- local side
pub data Trades (own other pull give : Option State) (refused : Option (Side × Refusal)) : Type 0 where
  clash : clashes (or_empty own) (or_empty other) ≡ true → pull ≡ None → give ≡ None
      → refused ≡ Some (AtLocal, DotClash) → Trades own other pull give refused
  meet : clashes (or_empty own) (or_empty other) ≡ false → pull ≡ other → give ≡ own → refused ≡ None
      → Trades own other pull give refused
  has : clashes (or_empty own) (or_empty other) ≡ false → pull ≡ other → give ≡ None
      → join (or_empty own) (or_empty other) ≡ or_empty other → refused ≡ None → Trades own other pull give refused

pub record IsPlan (key : Key) (is_old : Bool) (own other : Option State) (m : Meeting) : Type 0 where
  pub of_key : m.key ≡ key
  pub told_old : m.is_old ≡ is_old
  pub fresh : m.asked ≡ false
  pub meets : Trades own other m.pull m.give m.refused
  pub pull_valid : IfSome m.pull IsValid
  pub give_valid : IfSome m.give IsValid

-- the first of the answers, if one is wanted
abbrev pub first_if : {A : Type 0} → Bool → List A → Option A
first_if true (x ∷ xs) = Some x
first_if true [] = None
first_if false xs = None

abbrev pub rest_if : {A : Type 0} → Bool → List A → List A
rest_if true (x ∷ xs) = xs
rest_if true [] = []
rest_if false xs = xs

-- each entry with the states that the sides gave in their order, and its plan
abbrev pub ArePlans : Option ℕ → List Entry → List State → List State → List Meeting → Type 0
ArePlans number [] mine theirs [] = Unit {0}
ArePlans number (e ∷ es) mine theirs (m ∷ ms) =
    (IsPlan e.key m.is_old (first_if e.mine mine) (first_if e.theirs theirs) m)
    × ((m.is_old ≡ true) ↔ HasUnseen number (or_empty (first_if e.mine mine)) (or_empty (first_if e.theirs theirs)))
    × ArePlans number es (rest_if e.mine mine) (rest_if e.theirs theirs) ms
ArePlans number es mine theirs ms = ⊥

-- ---- what a side takes

-- what the side is to take, unless the key was refused
abbrev pub wanted : Side → Meeting → Option State
wanted AtLocal m = cond (is_some m.refused) None m.pull
wanted AtPeer m = cond (is_some m.refused) None m.give

abbrev pub pushed_pair : Side → Meeting → Option (Key × State)
pushed_pair side m = option_map (λ s. (m.key, s)) (wanted side m)

-- it was taken out
abbrev pub taken_from : Side → Meeting → Meeting
taken_from AtLocal m = record m { pull = None; asked = is_some (wanted AtLocal m) }
taken_from AtPeer m = record m { give = None; asked = is_some (wanted AtPeer m) }

-- ---- what it told

abbrev pub noted_refusal : Side → Option (Side × Refusal) → Option (Result (Unit {0}) Refusal) → Option (Side × Refusal)
noted_refusal side refused (Some (Err refusal)) = Some (side, refusal)
noted_refusal side refused told = refused

-- the answers are of the meetings that were asked, in their order
abbrev pub noted : Side → List Meeting → List (Result (Unit {0}) Refusal) → List Meeting
noted side [] told = []
noted side (m ∷ ms) told =
    record m { refused = noted_refusal side m.refused (first_if m.asked told) } ∷ noted side ms (rest_if m.asked told)

abbrev pub done_of : Meeting → Done
done_of m = record { key = m.key; is_old = m.is_old; refused = m.refused }
