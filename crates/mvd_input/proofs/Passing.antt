-- The lines of a file with tokens, one after the other.
use Rattle.std.proofs.Common.{◌≡◌, ℕ, ◌==◌, Bool, true, false, List, [], ◌∷◌, ◌++◌, map, Option, Some, None, Result, Ok, Err, refl, sym, ap, subst, ◌∙◌}
use Rattle.std.proofs.lemmas.List.{map-append}
use Rattle.mvd_input.specs.Hexadecimal.{lines_after, lines_of, onto_first}
use Rattle.mvd_input.specs.PassFiles.{and_then, ended, file_lines, passes_of, read_behind, read_line, unless_empty}
use Rattle.mvd_input.specs.Passes.{PassText, said_by}
use Rattle.mvd_input.specs.declared.pass_files.PassFault.{PassFault}
use Rattle.mvd_input.specs.declared.pass_lines.PassLine.{PassLine}

-- the lines that are left
abbrev pub lines_left : Option (List ℕ) → List (List ℕ)
lines_left None = []
lines_left (Some text) = file_lines (lines_of text)

-- of a text with these lines so much was read, and this is left
abbrev pub ReadsOn : List ℕ → Option (List ℕ) → List PassLine → Type 0
ReadsOn text rest passes = passes_of text ≡ read_behind (map said_by passes) (lines_left rest)

begun : (lines : List (List ℕ)) (byte : ℕ) → ended (onto_first byte lines) ≡ file_lines (onto_first byte lines)
unfolding onto_first
begun [] byte = refl
begun (line ∷ []) byte = refl
begun (line ∷ (next ∷ lines)) byte = refl

some_of : (lines : List (List ℕ)) (byte : ℕ) → (first : List ℕ) × (rest : List (List ℕ)) × (onto_first byte lines ≡ first ∷ rest)
unfolding onto_first
some_of [] byte = (byte ∷ [], [], refl)
some_of (line ∷ lines) byte = (byte ∷ line, lines, refl)

-- a text has a line
has_line_on : (b : Bool) (byte : ℕ) (bytes : List ℕ) → (byte == 10) ≡ b → (first : List ℕ) × (rest : List (List ℕ)) × (lines_of (byte ∷ bytes) ≡ first ∷ rest)
unfolding lines_of
has_line_on true byte bytes e = ([], lines_of bytes, rw e refl)
has_line_on false byte bytes e = let some = some_of (lines_of bytes) byte in (some.0, some.1, rw e some.2)

has_line : (text : List ℕ) → (first : List ℕ) × (rest : List (List ℕ)) × (lines_of text ≡ first ∷ rest)
unfolding lines_of
has_line [] = ([], [], refl)
has_line (byte ∷ bytes) = has_line_on (byte == 10) byte bytes refl

empty_first : (lines : List (List ℕ)) (first : List ℕ) (rest : List (List ℕ)) → lines ≡ first ∷ rest → ended ([] ∷ lines) ≡ [] ∷ ended lines
empty_first lines first rest e = rw e refl

-- where anything follows a line feed, that is a line
ended_on : (b : Bool) (byte : ℕ) (bytes : List ℕ) → (byte == 10) ≡ b → ended (lines_of (byte ∷ bytes)) ≡ file_lines (lines_of (byte ∷ bytes))
unfolding lines_of
ended_on true byte bytes e = let some = has_line bytes in rw e (empty_first (lines_of bytes) some.0 some.1 some.2)
ended_on false byte bytes e = rw e (begun (lines_of bytes) byte)

pub ended_left : (after : Option (List ℕ)) → ended (lines_after after) ≡ lines_left (unless_empty after)
unfolding lines_after lines_of
ended_left None = refl
ended_left (Some []) = refl
ended_left (Some (byte ∷ bytes)) = ended_on (byte == 10) byte bytes refl

-- one line more is read
pub reads_more : (text rest line : List ℕ) (after : Option (List ℕ)) (passes : List PassLine) (pass : PassLine) → ReadsOn text (Some rest) passes → lines_of rest ≡ line ∷ lines_after after → read_line (map said_by passes) line ≡ Ok (said_by pass) → ReadsOn text (unless_empty after) (passes ++ pass ∷ [])
reads_more text rest line after passes pass so_far cut is =
    let first : passes_of text ≡ read_behind (map said_by passes) (line ∷ ended (lines_after after)) = so_far ∙ ap (λ (ls : List (List ℕ)). read_behind (map said_by passes) (file_lines ls)) cut in
    let next : passes_of text ≡ read_behind (map said_by passes ++ said_by pass ∷ []) (ended (lines_after after)) = first ∙ ap (λ (r : Result PassText PassFault). and_then r (λ p. read_behind (map said_by passes ++ p ∷ []) (ended (lines_after after)))) is in
    rw (map-append, ← ended_left after) next

-- or the line is at fault
pub reads_none : (text rest line : List ℕ) (after : Option (List ℕ)) (passes : List PassLine) (fault : PassFault) → ReadsOn text (Some rest) passes → lines_of rest ≡ line ∷ lines_after after → read_line (map said_by passes) line ≡ Err fault → passes_of text ≡ Err fault
reads_none text rest line after passes fault so_far cut is =
    let first : passes_of text ≡ read_behind (map said_by passes) (line ∷ ended (lines_after after)) = so_far ∙ ap (λ (ls : List (List ℕ)). read_behind (map said_by passes) (file_lines ls)) cut in
    first ∙ ap (λ (r : Result PassText PassFault). and_then r (λ p. read_behind (map said_by passes ++ p ∷ []) (ended (lines_after after)))) is
