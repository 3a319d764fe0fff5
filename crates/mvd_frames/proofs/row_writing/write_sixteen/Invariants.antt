use Rattle.std.proofs.Common.{◌≡◌, ◌++◌, length, take}
use Rattle.std.specs.List.{All, flat_map}
use Rattle.mvd_frames.proofs.row_writing.write_sixteen.Given as goal

abbrev pub invariant-loop-digest : goal.invariant-loop-digest
invariant-loop-digest l = record {
  bytes : l.out.items ≡ l.fn.out.items ++ flat_map (λ d. d) (take l.digest-index l.digests);
  long : All (λ d. length d ≡ 32) (take l.digest-index l.digests);
}
