-- What keys may begin with, this repository's own: graphic ASCII characters (RFC 20).
use Rattle.std.specs.Prelude.{ℕ, List, length, Bool, ◌&&◌, nat_le, Result, Ok, Err, if◌then◌else◌}
use Rattle.std.specs.List.{list_all}
use Rattle.mvd_dots.specs.declared.refusals.Refusal.{Refusal}
use Rattle.mvd_dots.specs.declared.refusals.Refusal.TheVariants.{BadKey}
use Rattle.mvd_docs.specs.Name.{is_graphic}

-- at most 128 bytes, each an ASCII character that is seen on paper
abbrev pub is_prefix : List ℕ → Bool
is_prefix text = nat_le (length text) 128 && list_all is_graphic text

-- the prefix that a text is
abbrev pub prefix_of_text : List ℕ → Result (List ℕ) Refusal
prefix_of_text text = if is_prefix text then Ok text else Err BadKey
