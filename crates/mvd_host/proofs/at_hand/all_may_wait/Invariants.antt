use Rattle.std.proofs.Common.{take}
use Rattle.mvd_host.specs.AtHand.{AllMayWait, asks_of}
use Rattle.mvd_host.proofs.at_hand.all_may_wait.Given as goal

abbrev pub invariant-loop-request : goal.invariant-loop-request
invariant-loop-request l = record { may : AllMayWait (asks_of l.client (take l.request-index l.requests)) }
