use Rattle.std.proofs.Common.{◌≡◌, take}
use Rattle.std.specs.List.{AllByRecursion}
use Rattle.mvd_wire.specs.Codecs.{IsInForm}
use Rattle.mvd_digest.specs.Counted.{Hashes}
use Rattle.mvd_kept.specs.Costs.{all_bytes}
use Rattle.mvd_kept.specs.Held.{key_digests}
use Rattle.mvd_kept.proofs.opening.digests_of.Given as goal

-- the digests of the entries so far, each of which has a spelling, and what was hashed for them
abbrev pub invariant-loop-entry : goal.invariant-loop-entry
invariant-loop-entry l = record {
  digests : l.digests.items ≡ key_digests (take l.entry-index l.states);
  counts : Hashes l.entry-index (all_bytes (take l.entry-index l.states)) l.fn.hashed l.hashed;
  spelled : AllByRecursion (λ e. IsInForm e.1) (take l.entry-index l.states);
}
