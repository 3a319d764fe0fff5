-- A script: what each of its lines does to sites that know sets of writes, and what it prints (docs/FORMATS.md,
-- Script).
use Rattle.std.specs.Prelude.{◌≡◌, ◌⊎◌, ◌<◌, ◌≤◌, ◌+◌, ◌++◌, ℕ, List, [], ◌∷◌, length, Option, Some, None, Result, Ok, Err, MatchBool, if◌then◌else◌, unwrap_or, nat_lt}
use Rattle.std.specs.Io.KnownBytes.{Appends, Consumes, IsAtEnd}
use Rattle.std.specs.List.{concat}
use Rattle.std.specs.Str.{IsUtf8}
use Rattle.mvd_dots.specs.Answer.{IsAnswer}
use Rattle.mvd_dots.specs.declared.refusals.Refusal.{Refusal}
use Rattle.mvd_dots.specs.declared.refusals.Refusal.TheVariants.{BadKind, FrameTooLong, Memory, WriteFailed}
use Rattle.mvd_input.specs.declared.command.Command.{Command}
use Rattle.mvd_input.specs.declared.command.Command.TheVariants as command
use Rattle.mvd_input.specs.declared.command.Line.{Line}
use Rattle.mvd_input.specs.declared.command.Line.TheVariants as line
use Rattle.mvd_input.specs.declared.fault.Fault.{Fault}
use Rattle.mvd_input.specs.declared.fault.Fault.TheVariants as of_fault
use Rattle.mvd_input.specs.Definitions.{index_added, view_added}
use Rattle.mvd_input.specs.Ends.{ReadsNot}
use Rattle.mvd_input.specs.Hexadecimal.{lines_of}
use Rattle.mvd_input.specs.Lines.{IsLine, IsNoLine, said}
use Rattle.mvd_keys.specs.Key.{key_of_text}
use Rattle.mvd_keys.specs.Writes.{Key}
use Rattle.mvd_print.specs.Text.{none_such_text}
use Rattle.mvd_rows.specs.Defs.{Definitions, no_definitions}
use Rattle.mvd_wire.specs.declared.reply.Reply.{Reply}
use Rattle.mvd_wire.specs.declared.reply.Reply.TheVariants.{Refused}
use Rattle.mvd_wire.specs.declared.request.Request.{Request}
use Rattle.mvd_world.specs.declared.steps.Step.{Step}
use Rattle.mvd_world.specs.declared.steps.Step.TheVariants as step
use Rattle.mvd_world.specs.declared.steps.Outcome.{Outcome}
use Rattle.mvd_world.specs.declared.steps.Outcome.TheVariants.{Replied, Sent, Met, Failed, NoSuch}
use Rattle.mvd_world.specs.Machine.{Knowledge, MayStep, Setting, is_site, is_write, nothing_yet, setting_of}
use Rattle.mvd_shell.specs.Talk.{Talks, told_text}
use Rattle.mvd_script.specs.Outcomes.{outcome_text}

-- A script as far as it was read: nothing yet; its head, which is the number of sites, the most keys of a site where a
-- line said it, and the indexes and views; or sites, with what they know
pub data Stage : Type 0 where
  Blank : Stage
  Headed : ℕ → Option ℕ → Definitions → Stage
  Running : Setting → Knowledge → Stage

-- ---- a command

-- the step by which a site is asked
abbrev pub asked_step : ℕ → Request → Step
asked_step site request = if is_write request then step.Write site request else step.Ask site request

-- the reply that an outcome is
abbrev pub reply_in : Outcome → Reply
reply_in (Replied reply) = reply
reply_in (Sent number) = Refused BadKind
reply_in (Met report) = Refused BadKind
reply_in (Failed fault) = Refused BadKind
reply_in NoSuch = Refused BadKind

-- a site replies to a request
abbrev pub SiteReplies : Setting → ℕ → Knowledge → Knowledge → Request → Reply → Type 0
SiteReplies setting site before after request reply =
    (outcome : Outcome) × MayStep setting before (asked_step site request) outcome after × (reply ≡ reply_in outcome)

-- no site has a number of over 32 bits, and none has 0
abbrev pub site_in : ℕ → ℕ
site_in number = if nat_lt number 4294967296 then number else 0

-- a step is taken, and what it came to is told
abbrev pub TellsStep : Setting → Step → Knowledge → Knowledge → Result (List ℕ) Refusal → Type 0
TellsStep setting step before after told =
    (outcome : Outcome) × MayStep setting before step outcome after × IsAnswer told (outcome_text outcome)

-- the state of a key is sent, or its text is refused
abbrev pub TellsSend : Setting → ℕ → Result Key Refusal → Knowledge → Knowledge → Result (List ℕ) Refusal → Type 0
TellsSend setting site (Ok key) before after told = TellsStep setting (step.Send site key) before after told
TellsSend setting site (Err refusal) before after told = (after ≡ before) × (told ≡ Err refusal)

-- what a command tells of a site that there is
abbrev pub TellsCommand : Setting → ℕ → Command → Knowledge → Knowledge → Result (List ℕ) Refusal → Type 0
TellsCommand setting site (command.Ask ask) before after told = Talks (SiteReplies setting site) before after ask told
TellsCommand setting site (command.Send key) before after told =
    (read : Result Key Refusal) × IsAnswer read (key_of_text key.now) × TellsSend setting site read before after told
TellsCommand setting site (command.Receive message) before after told =
    TellsStep setting (step.Receive site message) before after told
TellsCommand setting site (command.Sync peer) before after told =
    TellsStep setting (step.Session site (site_in peer)) before after told

-- what a command prints: that there is no such site, or what is told
abbrev pub Says : Setting → ℕ → Command → Knowledge → Knowledge → List ℕ → Type 0
Says setting site command before after text = MatchBool (is_site setting site)
    ((told : Result (List ℕ) Refusal) × TellsCommand setting site command before after told × (text ≡ told_text told))
    ((after ≡ before) × (text ≡ none_such_text))

-- ---- a line

-- the command is run by the sites
abbrev pub Commands : Setting → ℕ → Command → Knowledge → Stage → List ℕ → Type 0
Commands setting number command before new text =
    (after : Knowledge) × Says setting (site_in number) command before after text × (new ≡ Running setting after)

-- one more index or view is defined in the head
abbrev pub DefinesMore : (Definitions → Result Definitions Refusal) → Stage → Stage → List ℕ → Type 0
DefinesMore added Blank new text = ⊥
DefinesMore added (Headed sites most defs) new text =
    (more : Definitions) × (added defs ≡ Ok more) × (new ≡ Headed sites most more) × (text ≡ [])
DefinesMore added (Running setting knowledge) new text = ⊥

-- A line that may stand here, what follows from it, and what it prints. First comes the number of sites, then once the
-- most keys of each and the indexes and views, then commands.
abbrev pub Plays : Line → Stage → Stage → List ℕ → Type 0
Plays (line.Sites count) Blank new text =
    (0 < count) × (count ≤ 16) × (new ≡ Headed count None no_definitions) × (text ≡ [])
Plays (line.Max count) (Headed sites None defs) new text =
    (0 < count) × (count ≤ 1000000) × (new ≡ Headed sites (Some count) defs) × (text ≡ [])
Plays (line.Index field) stage new text = DefinesMore (λ defs. index_added defs field.now) stage new text
Plays (line.View view) stage new text = DefinesMore (λ defs. view_added defs view) stage new text
Plays (line.At site command) (Headed sites most defs) new text =
    Commands (setting_of sites (unwrap_or most 1000000) defs) site command nothing_yet new text
Plays (line.At site command) (Running setting before) new text = Commands setting site command before new text
Plays line stage new text = ⊥

abbrev pub MayNotStand : Line → Stage → Type 0
MayNotStand line stage = (new : Stage) (text : List ℕ) → Plays line stage new text → ⊥

-- a line's bytes are UTF-8, and say nothing or spell a line that may stand here
abbrev pub ReadsLine : List ℕ → Stage → Stage → List ℕ → Type 0
ReadsLine bytes old new text =
    IsUtf8 bytes
    × (((said bytes ≡ []) × (new ≡ old) × (text ≡ []))
    ⊎ ((line : Line) × IsLine line (said bytes) × Plays line old new text))

-- a line's bytes are no UTF-8, or spell no line, or one that may not stand here
abbrev pub IsAtFault : List ℕ → Stage → Type 0
IsAtFault bytes stage =
    (IsUtf8 bytes → ⊥) ⊎ (IsNoLine (said bytes) ⊎ ((line : Line) × IsLine line (said bytes) × MayNotStand line stage))

-- ---- a script

-- an input is not read: it is too long, the reader failed, or memory was refused
abbrev pub IsNotRead : Option (List ℕ) → Option (List ℕ) → Fault → Type 0
IsNotRead input input' fault =
    ReadsNot fault
    × (fault ≡ of_fault.Stopped FrameTooLong
    → (front : List ℕ) × Consumes input input' front × (16777216 < length front))

-- lines, one after the other, with what each prints
unfoldable pub ReadAll : List (List ℕ) → Stage → Stage → List (List ℕ) → Type 0
ReadAll [] old new texts = (new ≡ old) × (texts ≡ [])
ReadAll (line ∷ lines) old new [] = ⊥
ReadAll (line ∷ lines) old new (text ∷ texts) =
    (between : Stage) × ReadsLine line old between text × ReadAll lines between new texts

-- Lines from the first on were run, and what they print was written
pub record Ran (lines : List (List ℕ)) (stage : Stage) (out out' : Option (List ℕ)) : Type 0 where
  pub texts : List (List ℕ)
  pub read : ReadAll lines Blank stage texts
  pub written : Appends out out' (concat texts)

-- the line of a number, counted from 1, is the first at fault
abbrev pub FailsAtLine : List (List ℕ) → ℕ → Option (List ℕ) → Option (List ℕ) → Type 0
FailsAtLine lines number out out' =
    (before : List (List ℕ)) × (line : List ℕ) × (after : List (List ℕ)) × (stage : Stage)
    × (lines ≡ before ++ line ∷ after) × (number ≡ length before + 1) × Ran before stage out out' × IsAtFault line stage

-- the first lines were run, then memory was refused
abbrev pub RunsShort : List (List ℕ) → Option (List ℕ) → Option (List ℕ) → Type 0
RunsShort lines out out' =
    (before : List (List ℕ)) × (after : List (List ℕ)) × (stage : Stage) × (lines ≡ before ++ after)
    × Ran before stage out out'

-- All lines were run, or those before the first at fault, and what they print was written; or memory was refused, or
-- the writer failed
abbrev pub RunsScript : List (List ℕ) → Option (List ℕ) → Option (List ℕ) → Result (Unit {0}) Fault → Type 0
RunsScript lines out out' (Ok done) = (stage : Stage) × Ran lines stage out out'
RunsScript lines out out' (Err (of_fault.Line number)) = FailsAtLine lines number out out'
RunsScript lines out out' (Err (of_fault.Stopped refusal)) =
    ((refusal ≡ Memory) × RunsShort lines out out') ⊎ (refusal ≡ WriteFailed)

-- The whole input is read, up to 16,777,216 bytes, and run as a script; or it is not, and nothing is written
abbrev pub Simulates : Option (List ℕ) → Option (List ℕ) → Option (List ℕ) → Option (List ℕ) → Result (Unit {0}) Fault
    → Type 0
Simulates input input' out out' result =
    ((text : List ℕ) × Consumes input input' text × IsAtEnd input' × (length text ≤ 16777216)
    × RunsScript (lines_of text) out out' result)
    ⊎ ((out' ≡ out) × ((fault : Fault) × (result ≡ Err fault) × IsNotRead input input' fault))
