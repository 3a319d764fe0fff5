-- Numbers in words of 64 bits, a bit for each number.
use Rattle.std.specs.Prelude.{ℕ, ◌*◌, ◌/◌, ◌%◌, Bool, List, length, ◌==◌, slice_index}
use Rattle.std.specs.FinSet.{FinSet, from_list}
use Rattle.std.specs.Int.{bit_at}
use Rattle.std.specs.List.{filter, range_with_len}
use Rattle.std.specs.Ordering.{nat_cmp}

-- whether the bit of a number is set
abbrev pub is_set : List ℕ → ℕ → Bool
is_set words n = bit_at (slice_index words (n / 64)) (n % 64) == 1

-- the numbers whose bits are set
unfoldable pub numbers_in : List ℕ → FinSet nat_cmp
numbers_in words = from_list (filter (is_set words) (range_with_len 0 (64 * length words)))
