use Rattle.std.proofs.Common.{ℕ, take}
use Rattle.mvd_dots.specs.Entry.{Among, HasCounter}
use Rattle.mvd_dots.proofs.entries.includes_all.Given as goal

abbrev pub invariant-loop-counter : goal.invariant-loop-counter
invariant-loop-counter l = (n : ℕ) → Among (take l.counter-index l.counters) n → HasCounter l.entry.base l.entry.loose n
