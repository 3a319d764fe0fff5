-- How long states are, and which are too long.
use Rattle.std.proofs.Common.{◌≡◌, ℕ, ◌<◌, ◌≤◌, ◌-◌, ◌^◌, true, false, min, nat_lt, length, le-ltb, lt-ltb, arith}
use Rattle.mvd_keys.specs.State.{State, empty_state}
use Rattle.mvd_keys.proofs.Lists.{IsValid-empty}
use Rattle.mvd_wire.specs.Codecs.{spell_state, state_limit}
use Rattle.mvd_wire.proofs.Spellings.{length_empty}
use Rattle.mvd_kept.specs.Answer.{is_too_large}
use Rattle.mvd_kept.specs.Held.{IsKept}

short_if : (limit n counted : ℕ) → limit < 2 ^ 64 - 1 → counted ≡ min n (2 ^ 64 - 1) → counted ≤ limit → nat_lt limit n ≡ false
short_if limit n counted low is small = le-ltb limit n (omega arith)

long_if : (limit n counted : ℕ) → counted ≡ min n (2 ^ 64 - 1) → limit < counted → nat_lt limit n ≡ true
long_if limit n counted is large = lt-ltb limit n (omega arith)

-- a state whose length, as it is counted, is within the limit
pub is_short : (s : State) (counted : ℕ) → counted ≡ min (length (spell_state s)) (2 ^ 64 - 1) → counted ≤ state_limit → is_too_large s ≡ false
is_short s counted is small = short_if state_limit (length (spell_state s)) counted (omega arith) is small

-- and one whose is not
pub is_long : (s : State) (counted : ℕ) → counted ≡ min (length (spell_state s)) (2 ^ 64 - 1) → state_limit < counted → is_too_large s ≡ true
is_long s counted is large = long_if state_limit (length (spell_state s)) counted is large

whole_if : (limit n counted : ℕ) → limit < 2 ^ 64 - 1 → counted ≡ min n (2 ^ 64 - 1) → nat_lt limit n ≡ false → counted ≡ n
whole_if limit n counted low is short = grind arith

-- a state that is not too long is counted whole
pub counted_whole : (s : State) (counted : ℕ) → counted ≡ min (length (spell_state s)) (2 ^ 64 - 1) → is_too_large s ≡ false → counted ≡ length (spell_state s)
counted_whole s counted is short = whole_if state_limit (length (spell_state s)) counted (omega arith) is short

pub kept_empty : IsKept empty_state
kept_empty = record { short = le-ltb state_limit (length (spell_state empty_state)) (omega (arith, length_empty)); valid = IsValid-empty }
