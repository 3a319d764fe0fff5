use Rattle.std.proofs.Common.{length}
use Rattle.mvd_docs.proofs.PlainTexts.{Bytes}
use Rattle.mvd_docs.proofs.plain.behind_bytes.Given as goal

abbrev pub invariant-loop-more : goal.invariant-loop-more
invariant-loop-more l = Bytes l.text l.rest

abbrev pub decreases-loop-more : goal.decreases-loop-more
decreases-loop-more l = length l.rest
