use Rattle.std.proofs.Common.{◌≡◌, ◌-◌, ◌^◌, length, min, take}
use Rattle.std.specs.List.{sum_by}
use Rattle.mvd_keys.specs.State.{State}
use Rattle.mvd_wire.specs.Codecs.{spell_state}
use Rattle.mvd_sync.proofs.weights.weight.Given as goal

-- the bytes of the first states
abbrev pub invariant-loop-state : goal.invariant-loop-state
invariant-loop-state l = record { bytes : l.bytes ≡ min (sum_by (λ (s : State). length (spell_state s)) (take l.state-index l.states)) (2 ^ 64 - 1) }
