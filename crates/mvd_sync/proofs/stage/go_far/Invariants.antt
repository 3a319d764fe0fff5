use Rattle.mvd_sync.specs.Machines.{HasRoomLeft, IsQuiet, StageWent}
use Rattle.mvd_sync.proofs.Machined.{size_at}
use Rattle.mvd_sync.proofs.stage.go_far.Given as goal

abbrev pub decreases-loop-alloc : goal.decreases-loop-alloc
decreases-loop-alloc l = size_at l.stage

abbrev pub invariant-loop-alloc : goal.invariant-loop-alloc
invariant-loop-alloc l = record {
  went : StageWent l.fn.exchange l.fn.stage l.exchange l.stage;
  room : IsQuiet l.stage → HasRoomLeft l.exchange l.stage;
}
