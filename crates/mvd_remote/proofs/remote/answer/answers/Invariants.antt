use Rattle.mvd_remote.specs.LinkWindows.{IsToldBy}
use Rattle.mvd_remote.specs.Lines.{LeavesNothingOpen}
use Rattle.mvd_peer.specs.Windows.{ForEach}
use Rattle.mvd_remote.proofs.remote.answer.answers.Given as goal

-- what the first replies tell
abbrev pub invariant-loop-reply : goal.invariant-loop-reply
invariant-loop-reply g l = record {
  told : ForEach (IsToldBy g.A.Answer.as_reply) l.yielded l.told.items;
  settled : ForEach (LeavesNothingOpen g.A.Answer.gives_up) l.yielded l.told.items;
}
