use Rattle.std.proofs.Common.{◌≡◌, ◌++◌, take}
use Rattle.std.specs.List.{All, flat_map}
use Rattle.mvd_frames.proofs.spelled_lists.write_each.Given as goal

abbrev pub invariant-loop-item : goal.invariant-loop-item
invariant-loop-item g l = record {
  bytes : l.out.items ≡ l.fn.out.items ++ flat_map g.T.Spelled.kind.spell (take l.item-index l.items);
  fit : All g.T.Spelled.kind.Fits (take l.item-index l.items);
}
