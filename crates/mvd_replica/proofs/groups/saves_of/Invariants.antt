use Rattle.std.proofs.Common.{◌≡◌, take}
use Rattle.mvd_records.specs.Pairs.{saved_entries}
use Rattle.mvd_replica.specs.Groups.{held_in, pairs_in}
use Rattle.mvd_replica.proofs.Grouped.{held_told}
use Rattle.mvd_replica.proofs.groups.saves_of.Given as goal

-- what is to be stored so far
abbrev pub invariant-loop-prepared : goal.invariant-loop-prepared
invariant-loop-prepared l = record {
  saves : saved_entries l.saves.items ≡ pairs_in (take l.prepared-index l.group);
  held : held_told l.saves.items ≡ held_in (take l.prepared-index l.group);
}
