-- What a client shows to be let in, this repository's own: bytes that nothing reads but who compares them.
use Rattle.std.specs.Prelude.{ℕ, List, length, nat_le, Result, Ok, Err, if◌then◌else◌}
use Rattle.mvd_dots.specs.declared.refusals.Refusal.{Refusal}
use Rattle.mvd_dots.specs.declared.refusals.Refusal.TheVariants.{BadBody}

-- the token that some bytes are: at most 256
abbrev pub token_of_bytes : List ℕ → Result (List ℕ) Refusal
token_of_bytes bytes = if nat_le (length bytes) 256 then Ok bytes else Err BadBody
