use Rattle.std.proofs.Common.{◌≡◌, ◌-◌, length}
use Rattle.mvd_host.specs.KeptAtHand.{left_of}
use Rattle.mvd_host.proofs.at_hand.Told.next.Given as goal

-- those that were gone over are not at hand
abbrev pub invariant-loop-at : goal.invariant-loop-at
invariant-loop-at l = record { left : left_of l.clients l.initial.self l.initial.at ≡ left_of l.clients l.self l.at }

abbrev pub decreases-loop-at : goal.decreases-loop-at
decreases-loop-at l = length l.clients - l.at
