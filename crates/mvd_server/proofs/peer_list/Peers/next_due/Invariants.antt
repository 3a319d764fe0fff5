use Rattle.std.specs.Prelude.{◌≡◌, ◌≤◌, ◌<◌, ℕ, IsSomeAnd, true}
use Rattle.std.proofs.Common.{get_or}
use Rattle.mvd_meet.specs.Times.{due_of}
use Rattle.mvd_server.specs.Peerings.{is_resting}
use Rattle.mvd_server.specs.declared.peering.Peering.{Peering}
use Rattle.mvd_server.proofs.peer_list.Peers.next_due.Given as goal

-- those that were looked at are looked after in time
abbrev pub invariant-loop-peering : goal.invariant-loop-peering
invariant-loop-peering l = (k : ℕ) (d : Peering) → k < l.peering-index → is_resting (get_or l.peering-items k d).link ≡ true
    → IsSomeAnd l.first (λ due. due ≤ due_of (get_or l.peering-items k d).schedule)
