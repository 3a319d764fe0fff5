use Rattle.std.proofs.Common.{◌↔◌, None, drop, option_copied}
use Rattle.mvd_sync.specs.Answers.{PageRises}
use Rattle.mvd_sync.proofs.cursor.rises.Given as goal

-- the page rises if what is left of it does
abbrev pub invariant-loop-key : goal.invariant-loop-key
invariant-loop-key l = PageRises (option_copied l.last) (drop l.key-index l.page) ↔ PageRises None l.page
