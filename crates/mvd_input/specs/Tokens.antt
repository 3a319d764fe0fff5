-- A token.
use Rattle.std.specs.Prelude.{ℕ, Bool, ◌&&◌, nat_le, List, length}
use Rattle.std.specs.List.{list_all}
use Rattle.mvd_docs.specs.Name.{is_graphic}

-- 16 to 256 ASCII characters that are seen on paper
abbrev pub is_token : List ℕ → Bool
is_token line = nat_le 16 (length line) && nat_le (length line) 256 && list_all is_graphic line
