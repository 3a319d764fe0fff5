use Rattle.std.proofs.Common.{◌≡◌, map, take}
use Rattle.mvd_keys.specs.State.{IsValid}
use Rattle.mvd_peer.specs.PushedStates.{Each}
use Rattle.mvd_replica.specs.Pushes.{push_of}
use Rattle.mvd_client.proofs.pushing.pushes_of.Given as goal

-- the requests so far
abbrev pub invariant-loop-key : goal.invariant-loop-key
invariant-loop-key l = record {
  pushes : l.requests.items ≡ map push_of (take l.key-index l.pairs);
  valid : Each (λ pair. IsValid pair.1) (take l.key-index l.pairs);
}
