use Rattle.std.proofs.Common.{◌≤◌, drop, length}
use Rattle.mvd_kept.specs.Installs.{HashesChanges, last_changes}
use Rattle.mvd_kept.specs.Lasts.{Gathers}
use Rattle.mvd_kept.proofs.installing.digests_of.Given as goal

-- the end of the group was gone over
abbrev pub invariant-going : goal.invariant-going
invariant-going l = record {
  within : l.left ≤ length l.group;
  gathers : Gathers l.lasts (drop l.left l.group);
  counts : HashesChanges (last_changes (drop l.left l.group)) l.fn.hashed l.hashed;
}

abbrev pub decreases-going : goal.decreases-going
decreases-going l = l.left
