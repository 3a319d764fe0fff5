-- The replies that came, each in its turn.
use Rattle.std.specs.Prelude.{◌≡◌, ◌≤◌, ◌++◌, ℕ, List, Option, Some, None, length, take}
use Rattle.mvd_dots.specs.declared.refusals.Refusal.{Refusal}
use Rattle.mvd_remote.specs.LinkWindows.{AnswersTurn, IsOfKind}
use Rattle.mvd_remote.specs.Links.{ReadCause}
use Rattle.mvd_meet.specs.Posts.{NoneWhole}
use Rattle.mvd_meet.specs.declared.turns.Turn.{Turn}
use Rattle.mvd_meet.specs.declared.turns.Turn.TheVariants.{Waits, Told, Breaks}

-- what bytes hold for a request in its turn, whatever comes behind them: no whole frame; or its reply, in so many
-- bytes; or what is no reply to it
abbrev pub TurnsAt : ℕ → Option Refusal → List ℕ → Turn → Type 0
TurnsAt kind why bytes Waits = NoneWhole bytes
TurnsAt kind why bytes (Told reply size) =
    (size ≤ length bytes) × IsOfKind kind reply
    × ((more : List ℕ) → AnswersTurn kind why reply (Some (take size bytes ++ more)) (Some more))
TurnsAt kind why bytes (Breaks refusal size) =
    (size ≤ length bytes)
    × ((more : List ℕ) → ReadCause (Some (take size bytes ++ more)) (Some more) kind refusal)

-- why no more is read of a link: it refused before, or what is due will not come whole
abbrev pub EndsWith : Option Refusal → List ℕ → Refusal → Type 0
EndsWith (Some before) bytes refusal = refusal ≡ before
EndsWith None bytes refusal = (kind : ℕ) → ReadCause (Some bytes) (Some bytes) kind refusal
