-- The lines of many writes: each is of the reply to its own write.
use Rattle.std.specs.Prelude.{◌≡◌, ◌≢◌, ◌≤◌, ◌⊎◌, ◌+◌, ◌<◌, ◌++◌, ℕ, List, length, Option, Some, None, string_bytes}
use Rattle.std.specs.List.{slice_get}
use Rattle.mvd_dots.specs.declared.refusals.Refusal.{Refusal}
use Rattle.mvd_dots.specs.declared.refusals.Refusal.TheVariants.{BadKind, Memory}
use Rattle.mvd_host.specs.AtHand.{AtHandValue, TakesFirst}
use Rattle.mvd_http.specs.Json.{line_text}
use Rattle.mvd_server.specs.Paths.{Path}
use Rattle.mvd_server.specs.declared.batch.Batch.{Batch}
use Rattle.mvd_wire.specs.declared.reply.Reply.{Reply}
use Rattle.mvd_wire.specs.declared.reply.Reply.TheVariants.{Refused}

-- what is at hand, and the lines of so many writes
pub record Lining : Type 0 where
  pub hand : AtHandValue
  pub told : ℕ
  pub lines : List ℕ

abbrev pub lining : AtHandValue → Batch → Lining
lining hand batch = record { hand = hand; told = batch.told; lines = string_bytes batch.lines }

-- The reply to a write. One that is refused at once is told so, and no reply is taken for it; each other is told the
-- first reply that is left, which is to this client
abbrev pub TellsNext : Option (Option Refusal) → ℕ → AtHandValue → Reply → AtHandValue → Type 0
TellsNext (Some (Some refusal)) n old told new = (told ≡ Refused refusal) × (new ≡ old)
TellsNext _ n old told new = TakesFirst old (Some (n, told)) new

-- there is a next write, and the line of the reply to it is put behind the others
pub record TellsWriteLine (refused : List (Option Refusal)) (n : ℕ) (old new : Lining) : Type 0 where
  pub within : old.told < length refused
  pub reply : Reply
  pub next : TellsNext (slice_get refused old.told) n old.hand reply new.hand
  pub told : new.told ≡ old.told + 1
  pub lines : new.lines ≡ old.lines ++ line_text reply

-- the lines of some are, one after the other
abbrev pub TellsSome : List (Option Refusal) → ℕ → Lining → Lining → Type 0
TellsSome refused n old new = Path (TellsWriteLine refused n) old new

abbrev pub TellsEachLine : ℕ → Batch → AtHandValue → Batch → AtHandValue → Type 0
TellsEachLine n batch hand batch' hand' = TellsSome batch.refused.items n (lining hand batch) (lining hand' batch')

-- nothing of the writes changes but which are told
abbrev pub IsOnlyTold : Batch → Batch → Type 0
IsOnlyTold old new = new ≡ record old { told = new.told; lines = new.lines }

-- each line is there that needs no reply: the next one is of a reply that is to come, or there is none
abbrev pub IsAtReply : Batch → Type 0
IsAtReply batch =
    (length batch.refused.items ≤ batch.told) ⊎ (slice_get batch.refused.items batch.told ≡ Some None)

-- each write whose line is new was refused at once
abbrev pub PassesRefused : Batch → Batch → Type 0
PassesRefused old new =
    (i : ℕ) → old.told ≤ i → i < new.told → slice_get old.refused.items i ≢ Some None

-- WHY A LINE CANNOT BE PUT DOWN: memory is refused; or there is a reply, and no write waits for one, since each whose
-- line is not there was refused at once
abbrev pub FailsLine : Option Reply → Batch → Refusal → Type 0
FailsLine None batch refusal = refusal ≡ Memory
FailsLine (Some reply) batch refusal =
    (refusal ≡ Memory)
    ⊎ ((refusal ≡ BadKind) × ((i : ℕ) → batch.told ≤ i → slice_get batch.refused.items i ≢ Some None))
