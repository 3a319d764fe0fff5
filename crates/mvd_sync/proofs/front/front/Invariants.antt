use Rattle.std.proofs.Common.{◌≡◌, ◌+◌, drop}
use Rattle.mvd_sync.specs.Fronts.{front}
use Rattle.mvd_sync.proofs.front.front.Given as goal

-- the keys before this one are met
abbrev pub invariant-loop-entry : goal.invariant-loop-entry
invariant-loop-entry l = record {
  count : l.count ≡ l.entry-index;
  is : front l.fn.entries l.fn.mine l.fn.theirs ≡ l.count + front (drop l.entry-index l.fn.entries) l.mine l.theirs;
}
