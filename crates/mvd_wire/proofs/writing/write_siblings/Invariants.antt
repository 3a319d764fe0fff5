use Rattle.std.proofs.Common.{◌≡◌, ◌++◌, take}
use Rattle.std.specs.List.{flat_map}
use Rattle.mvd_keys.specs.State.{pairs_of}
use Rattle.mvd_wire.specs.Codecs.{spell_sibling}
use Rattle.mvd_wire.proofs.writing.write_siblings.Given as goal

abbrev pub invariant-loop-sibling : goal.invariant-loop-sibling
invariant-loop-sibling l = l.out.items ≡ l.fn.out.items ++ flat_map spell_sibling (pairs_of (take l.sibling-index l.siblings))
