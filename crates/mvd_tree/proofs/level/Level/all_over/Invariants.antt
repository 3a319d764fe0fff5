use Rattle.std.proofs.Common.{◌≡◌, ◌*◌}
use Rattle.mvd_digest.specs.Counted.{Hashes}
use Rattle.mvd_tree.specs.Layout.{AreOver}
use Rattle.mvd_tree.proofs.level.Level.all_over.Given as goal

abbrev pub invariant-loop-n : goal.invariant-loop-n
invariant-loop-n l = (l.self ≡ l.fn.self) × AreOver l.fn.self l.n l.above.items × Hashes l.n (512 * l.n) l.fn.hashed l.hashed
