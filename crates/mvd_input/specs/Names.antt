-- Lists of names, as a command line has them.
use Rattle.std.specs.Prelude.{ℕ, ◌==◌, ◌&&◌, nat_le, nat_lt, Bool, List, length}
use Rattle.std.specs.List.{filter}

-- how many commas (44) there are
abbrev pub commas_of : List ℕ → ℕ
commas_of list = length (filter (λ byte. byte == 44) list)

-- 1..=16 texts with commas between them, in 1..=4,096 bytes
abbrev pub is_name_list : List ℕ → Bool
is_name_list list = nat_lt 0 (length list) && nat_le (length list) 4096 && nat_lt (commas_of list) 16
