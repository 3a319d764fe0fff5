-- The parts of a target (RFC 3986, path and query), and the options of a query, as texts.
use Rattle.std.specs.Prelude.{ℕ, ◌+◌, ◌-◌, ◌==◌, not, if◌then◌else◌, List, [], ◌∷◌, length, take, drop, Option, Some, None, Result, Err}
use Rattle.std.specs.List.{prefix_len, slice_split}
use Rattle.std.specs.Str.{bytes_eq, is_utf8}
use Rattle.percent_encoding.specs.Percent.{percent_decode}
use Rattle.mvd_dots.specs.declared.refusals.Refusal.{Refusal}

-- how many bytes stand before the first one that is this
abbrev pub position_of : ℕ → List ℕ → ℕ
position_of byte text = prefix_len (λ b. not (b == byte)) text

-- what stands before the first such byte, and behind it
unfoldable pub text_before : ℕ → List ℕ → List ℕ
text_before byte text = take (position_of byte text) text

unfoldable pub text_behind : ℕ → List ℕ → List ℕ
text_behind byte text = drop (position_of byte text + 1) text

-- what is left behind this front
unfoldable pub without : List ℕ → List ℕ → Option (List ℕ)
without front text = if bytes_eq (take (length front) text) front then Some (drop (length front) text) else None

-- what is left before this end
unfoldable pub without_end : List ℕ → List ℕ → Option (List ℕ)
without_end end text =
    if bytes_eq (drop (length text - length end) text) end then Some (take (length text - length end) text) else None

-- the text is UTF-8 and read so; else this is refused
unfoldable pub read_text : {T : Type 0} → (List ℕ → Result T Refusal) → Refusal → List ℕ → Result T Refusal
read_text read refusal text = if is_utf8 text then read text else Err refusal

-- the same of a part of a target, whose escapes are undone
abbrev pub read_part : {T : Type 0} → (List ℕ → Result T Refusal) → Refusal → List ℕ → Result T Refusal
read_part read refusal text = read_text read refusal (percent_decode text)

-- ---- the options of a query (application/x-www-form-urlencoded): `NAME=VALUE`, parted by `&` (38)

abbrev pub parameters_of : List ℕ → List (List ℕ)
parameters_of query = slice_split (λ b. b == 38) query

abbrev pub or_else : Option (List ℕ) → List ℕ → List ℕ
or_else (Some value) others = value
or_else None others = others

-- the value of the first of these options that has this name (with its `=`), or nothing
abbrev pub value_among : List ℕ → List (List ℕ) → List ℕ
value_among name [] = []
value_among name (option ∷ others) = or_else (without name option) (value_among name others)

unfoldable pub given : List ℕ → List ℕ → List ℕ
given name query = value_among name (parameters_of query)
