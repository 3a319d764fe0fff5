use Rattle.std.proofs.Common.{◌≡◌, ◌+◌, length}
use Rattle.mvd_host.specs.Taking.{TakesRequests}
use Rattle.mvd_host.specs.Weights.{IsWeighed}
use Rattle.mvd_host.proofs.taking.Taken.take.Given as goal

-- so many requests were taken
abbrev pub invariant-loop-frame : goal.invariant-loop-frame
invariant-loop-frame l = record {
  took : TakesRequests l.client l.initial.connection l.connection l.initial.self l.self;
  weighed : IsWeighed l.site.states l.self.requests.items l.weighed;
  count : length l.self.clients.items ≡ length l.initial.self.clients.items + l._frame;
}
