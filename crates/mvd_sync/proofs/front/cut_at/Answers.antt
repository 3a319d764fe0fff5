use Rattle.std.proofs.Common.{arith}
use Rattle.mvd_sync.proofs.Lacking.{front_short}
use Rattle.mvd_sync.proofs.front.cut_at.Goals as goal

pub returns-clause-some : goal.returns-clause-some
returns-clause-some c = record {
  mine = c.in-Some.mine.now;
  theirs = c.in-Some-whole.theirs.now;
  from_local = c.in-Some.ensures.some;
  from_peer = c.in-Some-whole.ensures.some;
  is = c.front-count.ensures;
  some = let n = c.if-count-eq0.false in omega (arith, n);
  less =
      let n = c.if-count-entries.false in
      let m = front_short c.args.entries.now c.in-Some.mine.now c.in-Some-whole.theirs.now in
      let e = c.front-count.ensures in
      omega (arith, n, m, e);
}
