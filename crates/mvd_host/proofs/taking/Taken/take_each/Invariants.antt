use Rattle.std.proofs.Common.{◌≡◌, ◌<◌, ℕ, false, slice_index}
use Rattle.mvd_host.specs.Hosts.{IfClient, client_in}
use Rattle.mvd_host.specs.Taking.{HasNoNext, IsNothingTaken, TakesFairly, held_in}
use Rattle.mvd_host.specs.Weights.{IsWeighed}
use Rattle.mvd_host.proofs.taking.Taken.take_each.Given as goal

-- frames of the clients so far were taken; where there were none, nothing comes next of them
abbrev pub invariant-loop-client : goal.invariant-loop-client
invariant-loop-client l = record {
  took : TakesFairly l.site.states l.refused (held_in l.initial.self) l.ready l.client-index l.initial.clients.entries l.clients.entries l.self;
  weighed : IsWeighed l.site.states l.self.requests.items l.weighed;
  idle : l.refused ≡ false → IsNothingTaken l.self → (i : ℕ) → i < l.client-index → IfClient (client_in l.clients.entries (slice_index l.ready i)) HasNoNext;
}
