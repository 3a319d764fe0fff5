use Rattle.std.proofs.Common.{◌≡◌, ◌++◌, take}
use Rattle.std.specs.Int.{w64}
use Rattle.std.specs.List.{flat_map}
use Rattle.mvd_wire.specs.Codec.{number}
use Rattle.mvd_wire.proofs.writing.write_loose.Given as goal

abbrev pub invariant-loop-counter : goal.invariant-loop-counter
invariant-loop-counter l = l.out.items ≡ l.fn.out.items ++ flat_map (number w64).spell (take l.counter-index l.loose)
