use Rattle.std.proofs.Common.{take}
use Rattle.mvd_peer.specs.SiteTells.{TellsNodes}
use Rattle.mvd_peer.proofs.reads.nodes_at.Given as goal

abbrev pub invariant-loop-path : goal.invariant-loop-path
invariant-loop-path l = TellsNodes l.site (take l.path-index l.paths) l.told.items
