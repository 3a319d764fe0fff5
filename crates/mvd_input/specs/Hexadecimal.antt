-- What lines of hexadecimal digits spell.
use Rattle.std.specs.Prelude.{ℕ, List, [], ◌∷◌, ◌++◌, ◌≡◌, ◌≤◌, ◌<◌, ◌+◌, ◌⊎◌, ◌==◌, if◌then◌else◌, Option, Some, None, Ok, Err, length}
use Rattle.hex.specs.Hex.{decode_of}
use Rattle.hex.specs.declared.error.FromHexError.{FromHexError}
use Rattle.mvd_dots.specs.declared.refusals.Refusal.TheVariants.{Memory, FrameTooLong}
use Rattle.mvd_input.specs.declared.fault.Fault.{Fault}
use Rattle.mvd_input.specs.declared.fault.Fault.TheVariants.{Stopped, Line}

-- a byte, and the lines behind it in the first of which it stands
unfoldable pub onto_first : ℕ → List (List ℕ) → List (List ℕ)
onto_first byte [] = (byte ∷ []) ∷ []
onto_first byte (line ∷ lines) = (byte ∷ line) ∷ lines

-- the lines of a text, which its line feeds part
unfoldable pub lines_of : List ℕ → List (List ℕ)
lines_of [] = [] ∷ []
lines_of (byte ∷ bytes) = if byte == 10 then [] ∷ lines_of bytes else onto_first byte (lines_of bytes)

-- the lines of what follows a line, if anything does
unfoldable pub lines_after : Option (List ℕ) → List (List ℕ)
lines_after None = []
lines_after (Some text) = lines_of text

-- lines spell what their digits decode to, one line after the other
unfoldable pub Spell : List (List ℕ) → List ℕ → Type 0
Spell [] bytes = bytes ≡ []
Spell (line ∷ lines) bytes = (first : List ℕ) × (rest : List ℕ) × (decode_of line ≡ Ok first) × Spell lines rest
    × (bytes ≡ first ++ rest)

-- lines spell so few bytes that more may follow
abbrev pub SpellFew : List (List ℕ) → List ℕ → Type 0
SpellFew lines bytes = Spell lines bytes × (length bytes ≤ 32768)

abbrev pub IsNoHexadecimal : List ℕ → Type 0
IsNoHexadecimal line = (error : FromHexError) × (decode_of line ≡ Err error)

-- behind these bytes the line spells too many
abbrev pub SpellsTooMany : List ℕ → List ℕ → Type 0
SpellsTooMany line bytes = (more : List ℕ) × (decode_of line ≡ Ok more) × (32768 < length bytes + length more)

-- the first lines spell few bytes, and the next one, of this number, is at fault
abbrev pub FailsAt : List (List ℕ) → ℕ → (List ℕ → List ℕ → Type 0) → Type 0
FailsAt lines number IsAtFault = (before : List (List ℕ)) × (line : List ℕ) × (after : List (List ℕ)) × (bytes : List ℕ)
    × (lines ≡ before ++ line ∷ after) × (number ≡ length before + 1) × SpellFew before bytes × IsAtFault line bytes

-- a text of lines is no longer than it may be, and they spell these few bytes
abbrev pub AreJoined : List ℕ → List ℕ → Type 0
AreJoined text bytes = (length text ≤ 131072) × SpellFew (lines_of text) bytes

-- why a text of lines spells nothing: its first fault, or want of memory
abbrev pub HasFault : List ℕ → Fault → Type 0
HasFault text (Line number) = (length text ≤ 131072) × FailsAt (lines_of text) number (λ line _. IsNoHexadecimal line)
HasFault text (Stopped refusal) = (refusal ≡ Memory)
    ⊎ ((refusal ≡ FrameTooLong)
    × ((131072 < length text) ⊎ ((number : ℕ) × FailsAt (lines_of text) number SpellsTooMany)))
