use Rattle.std.proofs.Common.{◌≡◌, ◌-◌, ◌^◌, min, length, take}
use Rattle.std.specs.List.{All, flat_map}
use Rattle.mvd_keys.specs.State.{pairs_of}
use Rattle.mvd_wire.specs.Codecs.{document, spell_sibling}
use Rattle.mvd_wire.proofs.lengths.siblings_length.Given as goal

abbrev pub invariant-loop-sibling : goal.invariant-loop-sibling
invariant-loop-sibling l = record {
  length_so_far : l.total ≡ min (length (flat_map spell_sibling (pairs_of (take l.sibling-index l.siblings)))) (2 ^ 64 - 1);
  fit : All (λ s. document.Fits s.document) (take l.sibling-index l.siblings);
}
