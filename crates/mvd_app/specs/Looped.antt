-- What a connection within the process is asked, and what of it is printed.
use Rattle.std.specs.Prelude.{◌≡◌, ◌≢◌, ◌<◌, ◌⊎◌, ⊤, ◌++◌, ◌∷◌, [], ℕ, List, codes, length, Option, Some, Result, Ok, Err}
use Rattle.std.specs.Io.KnownBytes.{Appends, Consumes, IsAtEnd}
use Rattle.std.specs.List.{flat_map}
use Rattle.std.specs.Fmt.{decimal}
use Rattle.hex.specs.Hex.{encode_lower}
use Rattle.mvd_app.specs.Named.{StopsAtDefs}
use Rattle.mvd_app.specs.Stored.{IsConfigFor, site_without_keys}
use Rattle.mvd_app.specs.Tasks.{EndsAsTold}
use Rattle.mvd_dots.specs.Refusal.{name_of, number_of}
use Rattle.mvd_dots.specs.declared.refusals.Refusal.{Refusal}
use Rattle.mvd_dots.specs.declared.refusals.Refusal.TheVariants.{FrameTooLong, Memory, ReadFailed, WriteFailed}
use Rattle.mvd_hint.specs.declared.hint.Stop.{Stop}
use Rattle.mvd_input.specs.Hexadecimal.{AreJoined, FailsAt, HasFault, SpellsTooMany, lines_of}
use Rattle.mvd_input.specs.declared.fault.Fault.{Fault}
use Rattle.mvd_input.specs.declared.fault.Fault.TheVariants as of_fault
use Rattle.mvd_input.specs.declared.order.Setup.{Setup}
use Rattle.mvd_replica.specs.Replicas.{site_of}
use Rattle.mvd_replica.specs.Served.{Served, conversation_of}
use Rattle.mvd_replica.specs.declared.replica.Replica.{Replica}
use Rattle.mvd_replica.specs.declared.serving.Ended.{Ended}
use Rattle.mvd_replica.specs.declared.serving.Ended.TheVariants as ended
use Rattle.mvd_site.specs.Config.{ConfigValue}
use Rattle.mvd_wire.specs.Frames.{FrameValue, spell_frame}
use Rattle.sqlite.specs.Steps.{over_memory}
use Rattle.sqlite_trees.specs.declared.memory.MemStore.{MemStore}

-- ---- what is printed

-- a frame is a line of its bytes' hexadecimal digits
abbrev pub frame_line : FrameValue → List ℕ
frame_line frame = encode_lower (spell_frame frame) ++ codes "\n"

-- how the connection ended is a line
abbrev pub ended_line : Result Ended Refusal → List ℕ
ended_line (Ok ended.Bye) = codes "ended bye\n"
ended_line (Ok ended.End) = codes "ended end\n"
ended_line (Err refusal) =
    codes "ended " ++ ((decimal (number_of refusal) ++ 32 ∷ name_of refusal) ++ codes "\n")

-- bytes that are whole frames were printed as their lines
abbrev pub PrintsFrames : List ℕ → List ℕ → List ℕ → Type 0
PrintsFrames bytes old new =
    (frames : List FrameValue) × (bytes ≡ flat_map spell_frame frames) × (new ≡ old ++ flat_map frame_line frames)

-- so were the replies, and then how the connection ended
pub record PrintsReplies (bytes : List ℕ) (ended : Result Ended Refusal) (out out' : Option (List ℕ)) : Type 0 where
  pub frames : List FrameValue
  pub whole : bytes ≡ flat_map spell_frame frames
  pub printed : Appends out out' (flat_map frame_line frames ++ ended_line ended)

-- ---- the connection

-- A site without keys, stored in memory, was served a connection: this was there to read, this was written, and it
-- ended so
pub record ServesAlone (config : ConfigValue) (input out out' : Option (List ℕ)) (ended : Result Ended Refusal)
    : Type 0 where
  pub old : Replica MemStore over_memory
  pub is_new : site_of old ≡ site_without_keys config
  pub new : Replica MemStore over_memory
  pub left : Option (List ℕ)
  pub served : Served (conversation_of old input out) (conversation_of new left out') ended

-- ---- the whole command

-- all that there is to read was read
pub record ReadsToEnd (input input' : Option (List ℕ)) (text : List ℕ) : Type 0 where
  pub read : Consumes input input' text
  pub ends : IsAtEnd input'

-- The lines were read to their end, and spell bytes. A site without keys was sent them, and all that it replied is
-- printed, and how the connection ended
pub record LoopsTo (config : ConfigValue) (input input' out out' : Option (List ℕ)) : Type 0 where
  pub text : List ℕ
  pub reads : ReadsToEnd input input' text
  pub sent : List ℕ
  pub spelled : AreJoined text sent
  pub replies : List ℕ
  pub ended : Result Ended Refusal
  pub serves : ServesAlone config (Some sent) (Some []) (Some replies) ended
  pub none_lost : ended ≢ Err WriteFailed
  pub prints : PrintsReplies replies ended out out'

-- the lines are longer than they may be, or spell more bytes than they may
abbrev pub AreTooLong : Option (List ℕ) → Option (List ℕ) → Type 0
AreTooLong input input' =
    ((front : List ℕ) × Consumes input input' front × (131072 < length front))
    ⊎ ((text : List ℕ) × ReadsToEnd input input' text × ((number : ℕ) × FailsAt (lines_of text) number SpellsTooMany))

-- The lines spell nothing: one of them is at fault, or they are too long. Or they were not read, or memory was refused
abbrev pub FailsLines : Option (List ℕ) → Option (List ℕ) → Fault → Type 0
FailsLines input input' (of_fault.Line number) =
    (text : List ℕ) × ReadsToEnd input input' text × HasFault text (of_fault.Line number)
FailsLines input input' (of_fault.Stopped refusal) =
    (refusal ≡ Memory) ⊎ ((refusal ≡ ReadFailed) ⊎ ((refusal ≡ FrameTooLong) × AreTooLong input input'))

-- the lines were read to their end, and spell bytes
abbrev pub SpellsBytes : Option (List ℕ) → Option (List ℕ) → Type 0
SpellsBytes input input' = (text : List ℕ) × (sent : List ℕ) × ReadsToEnd input input' text × AreJoined text sent

-- it was stopped, and not by a line
abbrev pub IsStopped : Fault → Type 0
IsStopped (of_fault.Line number) = ⊥
IsStopped (of_fault.Stopped refusal) = ⊤

-- the same, and unless the writer failed, nothing is printed
abbrev pub StopsUntold : Option (List ℕ) → Option (List ℕ) → Fault → Type 0
StopsUntold out out' (of_fault.Line number) = ⊥
StopsUntold out out' (of_fault.Stopped refusal) = (refusal ≡ WriteFailed) ⊎ (out' ≡ out)

-- where the lines spell nothing, that is told, and nothing is printed; else what stopped it is of the connection, or of
-- the writer
abbrev pub Loops : ConfigValue → Option (List ℕ) → Option (List ℕ) → Option (List ℕ) → Option (List ℕ)
    → Result (Unit {0}) Fault → Type 0
Loops config input input' out out' (Ok done) = LoopsTo config input input' out out'
Loops config input input' out out' (Err fault) =
    (FailsLines input input' fault × (out' ≡ out)) ⊎ (SpellsBytes input input' × StopsUntold out out' fault)

-- the command ends with that; or its file of definitions stopped it, and nothing was read or printed
abbrev pub IsLooped : Setup → Option (List ℕ) → Option (List ℕ) → Option (List ℕ) → Option (List ℕ)
    → Result (Unit {0}) Stop → Type 0
IsLooped setup input input' out out' result =
    ((config : ConfigValue) × IsConfigFor setup config × (told : Result (Unit {0}) Fault)
    × Loops config input input' out out' told × EndsAsTold told result)
    ⊎ (((stop : Stop) × (result ≡ Err stop) × StopsAtDefs setup.defs stop) × (input' ≡ input) × (out' ≡ out))
