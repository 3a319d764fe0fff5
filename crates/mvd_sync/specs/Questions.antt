-- Questions to a side, of which no more are made than are left.
use Rattle.std.specs.Prelude.{◌≡◌, ◌≢◌, ◌<◌, ◌≤◌, ◌+◌, ℕ, true, List, [], length, sum_by, take}
use Rattle.std.specs.Prelude.{Result, Ok, Err}
use Rattle.mvd_dots.specs.declared.refusals.Refusal.{Refusal}
use Rattle.mvd_keys.specs.State.{State}
use Rattle.mvd_keys.specs.Writes.{Key}
use Rattle.mvd_wire.specs.Codecs.{spell_state}
use Rattle.mvd_peer.specs.Sides.{is_of_key}

-- ---- what is left

-- as many as were wanted, or all that were left, are taken
pub record TakesBudget (left left' wanted taken : ℕ) : Type 0 where
  pub spent : left ≡ left' + taken
  pub most : taken ≤ wanted
  pub all : taken < wanted → left' ≡ 0

-- ---- answers

-- how many bytes the frame of a push has: its length in four, its kind, the key's length, the key and the state
abbrev pub push_bytes : Key × State → ℕ
push_bytes p = length p.0 + length (spell_state p.1) + 6

-- how many of these are sent at once: some, and if not one alone, so many that they have 1,048,576 bytes at most
pub record IsWindow (pairs : List (Key × State)) (count : ℕ) : Type 0 where
  pub within : count ≤ length pairs
  pub some : pairs ≢ [] → 1 ≤ count
  pub small : 1 < count → sum_by push_bytes (take count pairs) ≤ 1048576

-- a push was taken, or refused for its key alone
abbrev pub IsOfKey : Result (Unit {0}) Refusal → Type 0
IsOfKey (Ok done) = Unit {0}
IsOfKey (Err refusal) = is_of_key refusal ≡ true
