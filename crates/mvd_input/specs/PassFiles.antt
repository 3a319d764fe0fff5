-- A file with tokens, of 1 to 64 lines (a format of this repository's own).
use Rattle.std.specs.Prelude.{◌≡◌, ℕ, ◌+◌, nat_le, if◌then◌else◌, Bool, true, false, List, [], ◌∷◌, ◌++◌, length, Option, Some, None, Result, Ok, Err}
use Rattle.std.specs.List.{list_any}
use Rattle.std.specs.Str.{bytes_eq}
use Rattle.mvd_input.specs.Hexadecimal.{lines_of}
use Rattle.mvd_input.specs.Passes.{PassText, pass_of}
use Rattle.mvd_input.specs.declared.pass_files.PassFault.{PassFault}
use Rattle.mvd_input.specs.declared.pass_files.PassFault.TheVariants.{BadLine, SameToken, TooMany}

-- behind a line feed: where nothing follows the last one, that is no line
abbrev pub ended : List (List ℕ) → List (List ℕ)
ended [] = []
ended ([] ∷ []) = []
ended ((byte ∷ bytes) ∷ []) = (byte ∷ bytes) ∷ []
ended (line ∷ (next ∷ lines)) = line ∷ ended (next ∷ lines)

-- what follows a line, unless that is nothing
abbrev pub unless_empty : Option (List ℕ) → Option (List ℕ)
unless_empty None = None
unless_empty (Some []) = None
unless_empty (Some (byte ∷ bytes)) = Some (byte ∷ bytes)

-- the lines of a file: the first one, and what follows
abbrev pub file_lines : List (List ℕ) → List (List ℕ)
file_lines [] = []
file_lines (line ∷ lines) = line ∷ ended lines

-- ---- a line behind others

abbrev pub has_token : List PassText → List ℕ → Bool
has_token before token = list_any (λ pass. bytes_eq pass.token token) before

-- no token stands there twice
abbrev pub read_as : List PassText → Option PassText → Result PassText PassFault
read_as before None = Err (BadLine (length before + 1))
read_as before (Some pass) = if has_token before pass.token then Err (SameToken (length before + 1)) else Ok pass

abbrev pub read_line : List PassText → List ℕ → Result PassText PassFault
read_line before line = if nat_le 64 (length before) then Err TooMany else read_as before (pass_of line)

-- ---- all lines

abbrev pub and_then : {A B E : Type 0} → Result A E → (A → Result B E) → Result B E
and_then (Ok value) f = f value
and_then (Err fault) f = Err fault

abbrev pub read_behind : List PassText → List (List ℕ) → Result (List PassText) PassFault
read_behind before [] = Ok before
read_behind before (line ∷ lines) = and_then (read_line before line) (λ pass. read_behind (before ++ pass ∷ []) lines)

-- WHAT A FILE SAYS, line by line: the first line at fault decides
abbrev pub passes_of : List ℕ → Result (List PassText) PassFault
passes_of text = read_behind [] (file_lines (lines_of text))
