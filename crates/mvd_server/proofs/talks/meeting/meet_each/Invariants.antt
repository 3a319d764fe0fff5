use Rattle.std.proofs.Common.{◌≡◌, Some}
use Rattle.mvd_server.specs.Guarded.{AreSettled}
use Rattle.mvd_server.specs.Talking.{Deeds, Talking, with_host}
use Rattle.mvd_server.proofs.talks.meeting.meet_each.Given as goal

abbrev pub invariant-loop-number : goal.invariant-loop-number
invariant-loop-number l = record {
  deeds : (t : Talking) → t.passes ≡ Some l.passes → t.host ≡ l.initial.host → Deeds t (with_host t l.host);
  settled : AreSettled (Some l.passes) l.ready l.number-index l.host;
}
