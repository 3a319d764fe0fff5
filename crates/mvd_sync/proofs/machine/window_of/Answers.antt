use Rattle.std.proofs.Common.{ap, arith, length}
use Rattle.std.proofs.lemmas.List.{length-take}
use Rattle.mvd_sync.proofs.Stepping.{pages_few}
use Rattle.mvd_sync.proofs.machine.window_of.Goals as goal

pub nodes_window-requires : goal.nodes_window-requires
nodes_window-requires c =
    let n = ap length c.window.ensures in
    let m = length-take 64 c.in-Descends.descent.rest in
    record { few = omega (arith, n, m) }

pub pages_window-requires : goal.pages_window-requires
pages_window-requires c =
    let n = ap length c.pages.ensures in
    let m = pages_few c.args.side c.in-Walks.walk in
    record { few = omega (arith, n, m) }
