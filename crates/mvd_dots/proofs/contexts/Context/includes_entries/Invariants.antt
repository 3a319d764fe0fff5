use Rattle.std.proofs.Common.{◌≡◌, take}
use Rattle.std.specs.FinSet as set
use Rattle.mvd_dots.specs.Context.{set_of}
use Rattle.mvd_dots.proofs.contexts.Context.includes_entries.Given as goal

abbrev pub invariant-loop-entry : goal.invariant-loop-entry
invariant-loop-entry l = set.union l.self (set_of (take l.entry-index l.entries)) ≡ l.self
