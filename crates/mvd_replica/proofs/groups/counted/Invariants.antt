use Rattle.std.proofs.Common.{◌≡◌, take}
use Rattle.mvd_site.specs.Installs.{changes_in}
use Rattle.mvd_replica.proofs.groups.counted.Given as goal

-- no change so far
abbrev pub invariant-loop-prepared : goal.invariant-loop-prepared
invariant-loop-prepared l = changes_in (take l.prepared-index l.group) ≡ 0
