use Rattle.std.proofs.Common.{◌≡◌}
use Rattle.std.specs.List.{AllByRecursion}
use Rattle.mvd_records.specs.Pairs.{pair_entries}
use Rattle.mvd_site.specs.Held.{IsHeldState}
use Rattle.mvd_wire.specs.Codecs.{layout2}
use Rattle.mvd_replica.specs.Readable.{SpellsHeldState, spelled_entries}
use Rattle.mvd_replica.proofs.restoring.states_of.Given as goal

-- the states of the pairs so far
abbrev pub invariant-loop-key : goal.invariant-loop-key
invariant-loop-key l = record {
  spelled : spelled_entries l.states.items ≡ pair_entries l.yielded;
  held : AllByRecursion (λ e. IsHeldState e.1) l.states.items;
  stored : AllByRecursion (λ e. SpellsHeldState layout2 e.1) (pair_entries l.yielded);
}
