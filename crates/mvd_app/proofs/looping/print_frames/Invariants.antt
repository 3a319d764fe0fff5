use Rattle.std.proofs.Common.{length}
use Rattle.std.specs.Prelude.{string_bytes}
use Rattle.mvd_app.proofs.Frames.{SoFar}
use Rattle.mvd_app.proofs.looping.print_frames.Given as goal

-- what was read so far is printed
abbrev pub invariant-loop-out : goal.invariant-loop-out
invariant-loop-out l = SoFar l.frames l.rest (string_bytes l.initial.out) (string_bytes l.out)

abbrev pub decreases-loop-out : goal.decreases-loop-out
decreases-loop-out l = length l.rest
