use Rattle.std.proofs.Common.{ap, arith, length}
use Rattle.std.proofs.lemmas.List.{length-take}
use Rattle.mvd_sync.proofs.Stepping.{held_few}
use Rattle.mvd_sync.proofs.asked.gets_window.Goals as goal

pub returns-clause-bounded : goal.returns-clause-bounded
returns-clause-bounded c =
    let n = ap length c.truncate.ensures.items in
    let m = length-take c.most-count.result c.in_ok-keys.keys.items in
    let h = held_few c.args.side c.args.entries.now in
    let k = ap length c.in_ok-keys.ensures.held in
    let l = c.len.ensures in
    let o = c.in_ok-keys.keys.ok.0 in
    let e = c.most-count.ensures in
    let z = c.if-count-eq0.false in
    let f = c.requires.few in
    (omega (arith, n, m, h, k, l, o, e, z, f), omega (arith, n, m, h, k, l, o, e, z, f))
