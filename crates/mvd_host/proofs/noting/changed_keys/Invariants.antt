use Rattle.std.proofs.Common.{◌≡◌}
use Rattle.mvd_host.specs.Noting.{keys_to_change}
use Rattle.mvd_host.proofs.noting.changed_keys.Given as goal

-- those of the requests so far
abbrev pub invariant-loop-request : goal.invariant-loop-request
invariant-loop-request l = l.keys.items ≡ keys_to_change l.yielded
