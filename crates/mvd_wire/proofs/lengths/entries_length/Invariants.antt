use Rattle.std.proofs.Common.{◌≡◌, ◌-◌, ◌^◌, min, length, take}
use Rattle.std.specs.List.{flat_map}
use Rattle.mvd_wire.specs.Codecs.{spell_entry}
use Rattle.mvd_wire.proofs.lengths.entries_length.Given as goal

abbrev pub invariant-loop-entry : goal.invariant-loop-entry
invariant-loop-entry l = l.total ≡ min (length (flat_map spell_entry (take l.entry-index l.entries))) (2 ^ 64 - 1)
