-- The files that a command reads before it opens the file of its site: what it is stopped with where one is at fault.
use Rattle.std.specs.Prelude.{◌≡◌, ◌≢◌, ◌⊎◌, ⊤, ℕ, List, Option, Some, None}
use Rattle.std.specs.Borrow.{Bor}
use Rattle.mvd_dots.specs.declared.refusals.Refusal.TheVariants.{FrameTooLong, Memory, ReadFailed}
use Rattle.mvd_hint.specs.declared.hint.Hint.{Hint}
use Rattle.mvd_hint.specs.declared.hint.Hint.TheVariants as hints
use Rattle.mvd_hint.specs.declared.hint.Stop.{Stop}
use Rattle.mvd_input.specs.declared.fault.Fault.{Fault}
use Rattle.mvd_input.specs.declared.fault.Fault.TheVariants as of_fault
use Rattle.mvd_input.specs.declared.pass_files.PassFault.{PassFault}

-- why a file of definitions gives none: it cannot be read, is too long, or has a line that may not stand there; or
-- memory was refused
abbrev pub IsDefsFault : Fault → Type 0
IsDefsFault (of_fault.Line number) = ⊤
IsDefsFault (of_fault.Stopped refusal) = (refusal ≡ Memory) ⊎ ((refusal ≡ FrameTooLong) ⊎ (refusal ≡ ReadFailed))

-- the command is stopped with that, and the hint names the file
pub record TellsDefs (file : Bor (List ℕ)) (stop : Stop) : Type 0 where
  pub fault : IsDefsFault stop.fault
  pub line : (number : ℕ) → stop.fault ≡ of_fault.Line number → stop.hint ≡ Some (hints.BadDefs file)
  pub unread : stop.fault ≡ of_fault.Stopped ReadFailed → stop.hint ≡ Some (hints.NoDefs file)
  pub long : stop.fault ≡ of_fault.Stopped FrameTooLong → stop.hint ≡ Some hints.TooLong

-- why a file gives no tokens: it cannot be read, or what stands in it is none; it is too long; or memory was refused
abbrev pub IsTokenFault : Bor (List ℕ) → Fault → Option Hint → Type 0
IsTokenFault file (of_fault.Line number) hint = ⊥
IsTokenFault file (of_fault.Stopped refusal) hint = refusal ≢ Memory
    → ((refusal ≡ FrameTooLong) × (hint ≡ Some hints.TooLong))
    ⊎ ((refusal ≡ ReadFailed)
    × ((hint ≡ Some (hints.NoToken file)) ⊎ ((why : PassFault) × (hint ≡ Some (hints.BadToken file why)))))

-- a command is stopped by the file of definitions, or with a token, that it names
abbrev pub StopsAtDefs : Option (Bor (List ℕ)) → Stop → Type 0
StopsAtDefs None stop = ⊥
StopsAtDefs (Some file) stop = TellsDefs file stop

abbrev pub StopsAtToken : Option (Bor (List ℕ)) → Stop → Type 0
StopsAtToken None stop = ⊥
StopsAtToken (Some file) stop = IsTokenFault file stop.fault stop.hint
