-- Numbers and dots as texts: `SITE:COUNTER`.
use Rattle.std.specs.Prelude.{ℕ, ◌^◌, ◌&&◌, nat_lt, nat_le, if◌then◌else◌, List, length, Option, Some, None, Result, Ok, Err}
use Rattle.std.specs.Char.{is_ascii_digit}
use Rattle.std.specs.List.{list_all}
use Rattle.std.specs.Str.Parse.{digits_value}
use Rattle.mvd_dots.specs.Dot.{DotValue}
use Rattle.mvd_dots.specs.declared.refusals.Refusal.{Refusal}
use Rattle.mvd_dots.specs.declared.refusals.Refusal.TheVariants.{BadBody}
use Rattle.mvd_http.specs.Paths.{text_before, text_behind}

-- the number of at most 15 decimal digits
abbrev pub number_in : List ℕ → Option ℕ
number_in text =
    if list_all is_ascii_digit text && nat_lt 0 (length text)
    && nat_le (length text) 15 then Some (digits_value 10 text) else None

abbrev pub dot_of : Option ℕ → Option ℕ → Result DotValue Refusal
dot_of (Some site) (Some counter) =
    if nat_lt 0 site && nat_lt site (2 ^ 32) && nat_lt 0 counter && nat_lt counter (2 ^ 48)
    then Ok (record { site = site; counter = counter }) else Err BadBody
dot_of _ _ = Err BadBody

abbrev pub dot_in : List ℕ → Result DotValue Refusal
dot_in text = dot_of (number_in (text_before 58 text)) (number_in (text_behind 58 text))
