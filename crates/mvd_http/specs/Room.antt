-- The room that a text takes where it is put behind what a string holds.
use Rattle.std.specs.Prelude.{◌≡◌, ℕ, ◌+◌, ◌<◌, ◌≤◌, Result, Ok, Err, String, string_len}
use Rattle.std.specs.String.{string_capacity}
use Rattle.std.specs.declared.alloc.Global.{Global}

-- so many bytes came, and no room was given back; or there was no room for them
abbrev pub FillsRoom : {T E : Type 0} → Result T E → String Global → ℕ → String Global → Type 0
FillsRoom (Ok value) old count new =
    (string_len new ≡ string_len old + count) × (string_capacity old ≤ string_capacity new)
FillsRoom (Err error) old count new = string_capacity old < string_len old + count
