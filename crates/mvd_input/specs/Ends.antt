-- How a script may end early.
use Rattle.std.specs.Prelude.{◌≡◌, ◌<◌, ◌⊎◌}
use Rattle.mvd_dots.specs.declared.refusals.Refusal.TheVariants.{Memory, FrameTooLong, ReadFailed, WriteFailed}
use Rattle.mvd_input.specs.declared.fault.Fault.{Fault}
use Rattle.mvd_input.specs.declared.fault.Fault.TheVariants.{Stopped, Line}

-- its input is too long, the reader or the writer failed, or memory was refused; else one of its lines, counted from 1,
-- is at fault
abbrev pub EndsEarly : Fault → Type 0
EndsEarly (Stopped refusal) = (refusal ≡ Memory)
    ⊎ ((refusal ≡ FrameTooLong) ⊎ ((refusal ≡ ReadFailed) ⊎ (refusal ≡ WriteFailed)))
EndsEarly (Line number) = 0 < number

-- why an input is not read: it is too long, the reader failed, or memory was refused
abbrev pub ReadsNot : Fault → Type 0
ReadsNot (Stopped refusal) = (refusal ≡ Memory) ⊎ ((refusal ≡ FrameTooLong) ⊎ (refusal ≡ ReadFailed))
ReadsNot (Line number) = ⊥
