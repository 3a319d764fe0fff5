use Rattle.std.proofs.Common.{take}
use Rattle.mvd_peer.specs.SiteTells.{TellsPages}
use Rattle.mvd_peer.proofs.reads.pages_at.Given as goal

abbrev pub invariant-loop-path : goal.invariant-loop-path
invariant-loop-path l = TellsPages l.site (take l.path-index l.asked) l.told.items
