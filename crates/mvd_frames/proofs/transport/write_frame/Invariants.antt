use Rattle.std.proofs.Common.{◌≤◌, ◌-◌, length, take}
use Rattle.std.specs.Io.KnownBytes.{Appends}
use Rattle.mvd_frames.proofs.transport.write_frame.Given as goal

abbrev pub invariant-loop-at : goal.invariant-loop-at
invariant-loop-at g l = (l.at ≤ length l.frame) × Appends (g.W.Write.contents l.initial.writer) (g.W.Write.contents l.writer) (take l.at l.frame)

abbrev pub decreases-loop-at : goal.decreases-loop-at
decreases-loop-at g l = length l.frame - l.at
