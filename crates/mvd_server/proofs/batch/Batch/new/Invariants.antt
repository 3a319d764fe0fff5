use Rattle.std.proofs.Common.{◌≡◌, ◌++◌, drop}
use Rattle.mvd_server.specs.Batches.{asked_in, refusals_of}
use Rattle.mvd_server.proofs.batch.Batch.new.Given as goal

abbrev pub invariant-loop-write : goal.invariant-loop-write
invariant-loop-write l =
    (l.requests.items ++ asked_in l.right (drop l.write-index l.writes) ≡ asked_in l.right l.writes)
    × (l.refused.items ++ refusals_of l.right (drop l.write-index l.writes) ≡ refusals_of l.right l.writes)
