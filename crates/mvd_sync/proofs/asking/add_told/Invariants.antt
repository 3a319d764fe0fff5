use Rattle.std.proofs.Common.{◌≡◌, ◌++◌, All}
use Rattle.mvd_sync.specs.Questions.{IsOfKey}
use Rattle.mvd_sync.proofs.asking.add_told.Given as goal

-- the first answers were added
abbrev pub invariant-loop-answer : goal.invariant-loop-answer
invariant-loop-answer l = record {
  added : l.told.items ≡ l.fn.told.items ++ l.yielded;
  of_key : All IsOfKey l.yielded;
}
