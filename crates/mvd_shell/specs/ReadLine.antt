-- How a line is taken from a reader, piece by piece.
use Rattle.std.specs.Prelude.{◌≡◌, ◌⊎◌, ◌<◌, ◌≤◌, ◌++◌, ◌==◌, ℕ, Bool, true, false, List, [], ◌∷◌, length, IfSome, Option, Result, Ok, Err}
use Rattle.std.specs.Io.KnownBytes.{Consumes, IsAtEnd}
use Rattle.std.specs.List.{list_any}
use Rattle.mvd_dots.specs.declared.refusals.Refusal.TheVariants.{FrameTooLong, Memory, ReadFailed}
use Rattle.mvd_input.specs.declared.fault.Fault.{Fault}
use Rattle.mvd_input.specs.declared.fault.Fault.TheVariants.{Stopped}
use Rattle.mvd_shell.specs.declared.line_reader.Piece.{Piece}
use Rattle.mvd_shell.specs.declared.line_reader.Piece.TheVariants.{End, Last, Part}

-- no line feed (10) is in the text
abbrev pub IsOneLine : List ℕ → Type 0
IsOneLine text = list_any (λ byte. byte == 10) text ≡ false

-- why a line is not read, of which so much came in: memory was refused, the reader failed, or it is too long
abbrev pub IsUnreadLine : Fault → List ℕ → Type 0
IsUnreadLine fault line =
    (fault ≡ Stopped Memory)
    ⊎ ((fault ≡ Stopped ReadFailed) ⊎ ((fault ≡ Stopped FrameTooLong) × (16777216 < length line)))

-- so much of a line came in, perhaps with the line feed behind it
abbrev pub CameIn : Option (List ℕ) → Option (List ℕ) → List ℕ → Type 0
CameIn input input' line = IsOneLine line × (Consumes input input' line ⊎ Consumes input input' (line ++ 10 ∷ []))

-- A line is read with the line feed behind it, or up to the end of the input; or it is not read
abbrev pub ReadsOneLine : Option (List ℕ) → Option (List ℕ) → List ℕ → Result Bool Fault → Type 0
ReadsOneLine input input' line (Ok true) =
    IsOneLine line × (length line ≤ 16777216) × Consumes input input' (line ++ 10 ∷ [])
ReadsOneLine input input' line (Ok false) =
    IsOneLine line × (length line ≤ 16777216) × Consumes input input' line × IfSome input (λ all. all ≡ line)
ReadsOneLine input input' line (Err fault) = (read : List ℕ) × CameIn input input' read × IsUnreadLine fault read

-- a part of a line came behind what stood there, and it is not too long
abbrev pub AppendsPart : List ℕ → List ℕ → List ℕ → Type 0
AppendsPart old new part = IsOneLine part × (new ≡ old ++ part) × (length new ≤ 16777216)

-- One piece more of a line, of which some stood there already: a part that is not empty, all up to the line feed, or no
-- more
abbrev pub ReadsPiece : Option (List ℕ) → Option (List ℕ) → List ℕ → List ℕ → Result Piece Fault → Type 0
ReadsPiece input input' old new (Ok Part) =
    (part : List ℕ) × AppendsPart old new part × Consumes input input' part × (0 < length part)
ReadsPiece input input' old new (Ok End) =
    (part : List ℕ) × AppendsPart old new part × Consumes input input' (part ++ 10 ∷ [])
ReadsPiece input input' old new (Ok Last) = (new ≡ old) × Consumes input input' [] × IsAtEnd input
ReadsPiece input input' old new (Err fault) =
    (part : List ℕ) × CameIn input input' part × IsUnreadLine fault (old ++ part)
