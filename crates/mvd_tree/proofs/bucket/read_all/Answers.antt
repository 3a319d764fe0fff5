use Rattle.std.proofs.Common.{rules, ◌+◌, arith}
use Rattle.mvd_tree.specs.Midstates.{HasRead}
use Rattle.mvd_tree.proofs.Midstates.{one_more_read}
use Rattle.mvd_tree.proofs.bucket.read_all.Goals as goal

pub loop-index-preserved : goal.loop-index-preserved
loop-index-preserved c =
    let es = c.args.entries.now in
    let index = c.loop-index.index in
    let read : HasRead es (index + 1) c.update.new.self =
    one_more_read es index c.index-entries-index.result c.loop-index.hasher c.update.new.self c.loop-index-test.true c.loop-index.invariant.0 c.update.ensures.reads in
    (read, c.keep.ensures es c.loop-index.invariant.1 read (omega (arith, c.loop-index-test.true)), search rules)
