-- What a file of definitions defines, line by line.
use Rattle.std.specs.Prelude.{◌≡◌, ◌⊎◌, ◌&&◌, ◌+◌, ◌<◌, Bool, true, false, List, [], ◌∷◌, ◌++◌, ℕ, Result, Ok, Err, if◌then◌else◌, length}
use Rattle.std.specs.Str.{IsUtf8}
use Rattle.mvd_docs.specs.Name.{is_field, is_view_name}
use Rattle.mvd_dots.specs.declared.refusals.Refusal.{Refusal}
use Rattle.mvd_dots.specs.declared.refusals.Refusal.TheVariants.{BadDefs, FrameTooLong, Memory}
use Rattle.mvd_rows.specs.Defs.{Definitions, no_definitions, with_index, with_view}
use Rattle.mvd_input.specs.declared.command.Line.{Line}
use Rattle.mvd_input.specs.declared.command.Line.TheVariants.{Sites, Max, Index, View, At}
use Rattle.mvd_input.specs.declared.command.View.{View as ViewText}
use Rattle.mvd_input.specs.declared.fault.Fault.{Fault}
use Rattle.mvd_input.specs.declared.fault.Fault.TheVariants as fault
use Rattle.mvd_input.specs.Hexadecimal.{lines_of}
use Rattle.mvd_input.specs.Lines.{IsLine, said}

-- one more index, of a field
abbrev pub index_added : Definitions → List ℕ → Result Definitions Refusal
index_added defs field = if is_field field then with_index defs field else Err BadDefs

-- one more view
abbrev pub view_added : Definitions → ViewText → Result Definitions Refusal
view_added defs view =
    if is_view_name view.name.now && (is_field view.group.now && is_field view.sum.now)
    then with_view defs (record { name = view.name.now; group = view.group.now; sum = view.sum.now })
    else Err BadDefs

-- what is added is taken, or it may not be added and nothing changes
abbrev pub IsDefinitionTaken : Result Definitions Refusal → Bool → Definitions → Definitions → Type 0
IsDefinitionTaken added true old new = added ≡ Ok new
IsDefinitionTaken added false old new = (refusal : Refusal) × (added ≡ Err refusal) × (new ≡ old)

-- what a line adds: no other one may stand in the file
abbrev pub added : Line → Definitions → Result Definitions Refusal
added (Index field) defs = index_added defs field.now
added (View view) defs = view_added defs view
added (Sites _) defs = Err BadDefs
added (Max _) defs = Err BadDefs
added (At _ _) defs = Err BadDefs

-- a text in UTF-8 says nothing, and nothing changes, or it spells a line, which adds something
abbrev pub Defines : List ℕ → Definitions → Definitions → Type 0
Defines text old new = IsUtf8 text
    × (((said text ≡ []) × (new ≡ old)) ⊎ ((line : Line) × IsLine line (said text) × (added line old ≡ Ok new)))

abbrev pub DefinesNothing : List ℕ → Definitions → Type 0
DefinesNothing text old = (new : Definitions) → Defines text old new → ⊥

-- lines, one after the other
unfoldable pub DefineAll : List (List ℕ) → Definitions → Definitions → Type 0
DefineAll [] old new = new ≡ old
DefineAll (line ∷ lines) old new = (next : Definitions) × Defines line old next × DefineAll lines next new

-- the line of a number, counted from 1, is the first that may not stand
abbrev pub FailsFirstAt : List (List ℕ) → ℕ → Type 0
FailsFirstAt lines number = (before : List (List ℕ)) × (line : List ℕ) × (after : List (List ℕ)) × (defs : Definitions)
    × (lines ≡ before ++ line ∷ after) × (number ≡ length before + 1) × DefineAll before no_definitions defs
    × DefinesNothing line defs

-- why a file defines nothing: memory is refused, it is too long, or a line is at fault
abbrev pub HasDefsFault : List ℕ → Fault → Type 0
HasDefsFault text (fault.Stopped refusal) = (refusal ≡ Memory) ⊎ ((refusal ≡ FrameTooLong) × (65536 < length text))
HasDefsFault text (fault.Line number) = FailsFirstAt (lines_of text) number
