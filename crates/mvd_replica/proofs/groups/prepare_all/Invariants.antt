use Rattle.std.proofs.Common.{◌≡◌, ◌<◌, ◌≤◌, false, length, min, take, vec_capacity}
use Rattle.mvd_site.specs.Installs.{changes_in}
use Rattle.mvd_replica.specs.Adding.{CountsKeys}
use Rattle.mvd_replica.specs.Behind.{AreLast}
use Rattle.mvd_replica.specs.Groups.{IsBounded, StandTogether, state_bytes_in}
use Rattle.mvd_replica.proofs.groups.prepare_all.Given as goal

-- what the requests so far came to
abbrev pub invariant-loop-request : goal.invariant-loop-request
invariant-loop-request l = record {
  count : length l.group.items ≡ l.request-index;
  bytes : l.bytes ≡ state_bytes_in l.group.items;
  bounded : IsBounded l.group.items;
  changes : l.changes ≡ changes_in l.group.items;
  room : min (length l.requests) 1024 ≤ vec_capacity l.group;
  few : l.changes ≤ length l.group.items;
  keys : CountsKeys l.site l.group.items l.added;
  noted : l.request-index < length l.requests → AreLast l.group.items l.waiting;
  together : l.site.broken ≡ false → StandTogether l.site (take l.request-index l.requests) l.group.items;
}
