-- Lines that are typed: what each asks, and what is printed of it (docs/FORMATS.md, Script).
use Rattle.std.specs.Prelude.{◌≡◌, ◌≢◌, ◌⊎◌, ◌<◌, ◌≤◌, ◌+◌, ◌-◌, ◌^◌, ◌++◌, ℕ, Bool, List, [], ◌∷◌, codes, length, IfSome, OnOk, Option, Result, Ok, Err}
use Rattle.std.specs.Fmt.{decimal}
use Rattle.std.specs.Io.KnownBytes.{Appends, Consumes}
use Rattle.std.specs.List.{concat}
use Rattle.std.specs.Str.{IsUtf8}
use Rattle.mvd_dots.specs.declared.refusals.Refusal.{Refusal}
use Rattle.mvd_dots.specs.declared.refusals.Refusal.TheVariants.{FrameTooLong, Memory, ReadFailed, WriteFailed}
use Rattle.mvd_input.specs.declared.command.Typed.{Typed}
use Rattle.mvd_input.specs.declared.command.Typed.TheVariants as typed
use Rattle.mvd_input.specs.declared.fault.Fault.{Fault}
use Rattle.mvd_input.specs.declared.fault.Fault.TheVariants as of_fault
use Rattle.mvd_input.specs.Hexadecimal.{lines_of}
use Rattle.mvd_input.specs.Lines.{IsNotTyped, IsTyped, said}
use Rattle.mvd_wire.specs.Frames.{AppendsFront}
use Rattle.mvd_wire.specs.declared.reply.Reply.{Reply}
use Rattle.mvd_wire.specs.declared.request.Request.{Request}
use Rattle.mvd_shell.specs.declared.shell.TheConstants.{HELP}
use Rattle.mvd_shell.specs.ReadLine.{CameIn, ReadsOneLine}
use Rattle.mvd_shell.specs.Talk.{Prints_line}

-- ---- a line

-- the line of a number is no command
abbrev pub no_command_text : ℕ → List ℕ
no_command_text number = codes "line " ++ decimal number ++ codes ": not a command\n"

-- what a command prints: the lines that help, or what was asked and told
abbrev pub TellsTyped : {A : Type 0} → (A → A → Request → Reply → Type 0) → (A → ℕ) → Typed → A → A → List ℕ → Type 0
TellsTyped Answers lost typed.Help old new text = (new ≡ old) × (text ≡ HELP.now)
TellsTyped Answers lost (typed.Ask ask) old new text = Prints_line Answers lost old new ask text

-- a line's bytes are UTF-8, and say nothing or spell a command
abbrev pub TellsSaid : {A : Type 0} → (A → A → Request → Reply → Type 0) → (A → ℕ) → List ℕ → A → A → List ℕ → Type 0
TellsSaid Answers lost line old new text =
    IsUtf8 line
    × (((said line ≡ []) × (new ≡ old) × (text ≡ []))
    ⊎ ((asked : Typed) × IsTyped asked (said line) × TellsTyped Answers lost asked old new text))

-- a line's bytes are no UTF-8, or say something that spells no command
abbrev pub IsNoTyped : List ℕ → Type 0
IsNoTyped line = (IsUtf8 line → ⊥) ⊎ ((said line ≢ []) × IsNotTyped (said line))

-- what the line of a number asks and prints; one that is no command is told by its number
abbrev pub TellsLine : {A : Type 0} → (A → A → Request → Reply → Type 0) → (A → ℕ) → ℕ → List ℕ → A → A → List ℕ
    → Type 0
TellsLine Answers lost number line old new text =
    TellsSaid Answers lost line old new text ⊎ (IsNoTyped line × (new ≡ old) × (text ≡ no_command_text number))

-- ---- lines

-- A moment of a shell: who is asked, what is still to be read, and what was written, each as far as it is known
pub record At (A : Type 0) : Type 0 where
  pub asked : A
  pub input : Option (List ℕ)
  pub out : Option (List ℕ)

abbrev pub at : {A : Type 0} → A → Option (List ℕ) → Option (List ℕ) → At A
at asked input out = record { asked = asked; input = input; out = out }

-- lines from a number on, none of them too long, one after the other, with what each prints
unfoldable pub TellAllLines : {A : Type 0} → (A → A → Request → Reply → Type 0) → (A → ℕ) → ℕ → List (List ℕ) → A → A
    → List (List ℕ) → Type 0
TellAllLines Answers lost number [] old new texts = (new ≡ old) × (texts ≡ [])
TellAllLines Answers lost number (line ∷ lines) old new [] = ⊥
TellAllLines {A} Answers lost number (line ∷ lines) old new (text ∷ texts) =
    (between : A) × (length line ≤ 16777216) × TellsLine Answers lost number line old between text
    × TellAllLines Answers lost (number + 1) lines between new texts

-- lines from the first on were asked, and what they print was written
pub record ToldLines {A : Type 0} (Answers : A → A → Request → Reply → Type 0) (lost : A → ℕ) (lines : List (List ℕ))
    (old new : At A) : Type 0 where
  pub texts : List (List ℕ)
  pub told : TellAllLines Answers lost 1 lines old.asked new.asked texts
  pub written : Appends old.out new.out (concat texts)

-- ---- the end

-- nothing was done of a line, or it was answered
abbrev pub MayTellLine : {A : Type 0} → (A → A → Request → Reply → Type 0) → (A → ℕ) → ℕ → List ℕ → A → A → Type 0
MayTellLine Answers lost number line old new =
    (new ≡ old) ⊎ ((text : List ℕ) × TellsLine Answers lost number line old new text)

-- Why the line of a number was not told. Memory was refused, before it was answered or then; the reader failed; the
-- line is too long, or there are more lines than can be counted; or the writer failed, once it was answered, behind a
-- front of what is told
abbrev pub IsUntold : {A : Type 0} → (A → A → Request → Reply → Type 0) → (A → ℕ) → Refusal → ℕ → List ℕ → At A → At A
    → Type 0
IsUntold Answers lost Memory number line old new =
    MayTellLine Answers lost number line old.asked new.asked × (new.out ≡ old.out)
IsUntold Answers lost ReadFailed number line old new = (new.asked ≡ old.asked) × (new.out ≡ old.out)
IsUntold Answers lost FrameTooLong number line old new =
    (new.asked ≡ old.asked) × (new.out ≡ old.out) × ((16777216 < length line) ⊎ (number ≡ 2 ^ 64 - 1))
IsUntold Answers lost WriteFailed number line old new =
    (text : List ℕ) × TellsLine Answers lost number line old.asked new.asked text × AppendsFront old.out new.out text
IsUntold Answers lost _ number line old new = ⊥

-- The first lines were told, and the next one is not
pub record EndsAtLine {A : Type 0} (Answers : A → A → Request → Reply → Type 0) (lost : A → ℕ) (refusal : Refusal)
    (lines : List (List ℕ)) (old new : At A) : Type 0 where
  pub before : List (List ℕ)
  pub line : List ℕ
  pub after : List (List ℕ)
  pub parts : lines ≡ before ++ line ∷ after
  -- nothing was read behind it but its line feed
  pub last : (after ≡ []) ⊎ (after ≡ [] ∷ [])
  pub between : At A
  pub told : ToldLines Answers lost before old between
  pub untold : IsUntold Answers lost refusal (length before + 1) line between new

-- The lines of what was read: all are told, or all before the one at which it breaks
abbrev pub TellsLines : {A : Type 0} → (A → A → Request → Reply → Type 0) → (A → ℕ) → List (List ℕ) → At A → At A
    → Result (Unit {0}) Fault → Type 0
TellsLines Answers lost lines old new (Ok done) = ToldLines Answers lost lines old new
TellsLines Answers lost lines old new (Err (of_fault.Line number)) = ⊥
TellsLines Answers lost lines old new (Err (of_fault.Stopped refusal)) = EndsAtLine Answers lost refusal lines old new

-- The input is read to its end, or as far as the line at which it breaks; what is asked is answered one after the
-- other, and what is printed is the text of what each line asks and was told, in the order of the lines
pub record Shells {A : Type 0} (Answers : A → A → Request → Reply → Type 0) (lost : A → ℕ) (old new : At A)
    (result : Result (Unit {0}) Fault) : Type 0 where
  pub text : List ℕ
  pub read : Consumes old.input new.input text
  pub all : OnOk result (IfSome old.input (λ all. all ≡ text))
  pub lines : TellsLines Answers lost (lines_of text) old new result

-- ---- one line

-- A line is read, answered and told, and another may follow; or it is not told
abbrev pub ShellTakesLine : {A : Type 0} → (A → A → Request → Reply → Type 0) → (A → ℕ) → ℕ → At A → At A
    → Result Bool Fault → Type 0
ShellTakesLine Answers lost number old new (Ok goes_on) = (line : List ℕ) × (text : List ℕ)
    × ReadsOneLine old.input new.input line (Ok goes_on) × TellsLine Answers lost number line old.asked new.asked text
    × Appends old.out new.out text
ShellTakesLine Answers lost number old new (Err (of_fault.Line place)) = ⊥
ShellTakesLine Answers lost number old new (Err (of_fault.Stopped refusal)) =
    (line : List ℕ) × CameIn old.input new.input line × IsUntold Answers lost refusal number line old new
