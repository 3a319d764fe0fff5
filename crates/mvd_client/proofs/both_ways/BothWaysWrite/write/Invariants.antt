use Rattle.std.specs.Io.KnownBytes.{Keeps}
use Rattle.mvd_client.specs.Early.{still_to_read}
use Rattle.mvd_client.proofs.both_ways.BothWaysWrite.write.Given as goal

abbrev pub invariant-turns : goal.invariant-turns
invariant-turns g l = record {
  unread : Keeps (still_to_read g.S.Nonblocking.remaining l.initial.self) (still_to_read g.S.Nonblocking.remaining l.self);
  unsent : Keeps (g.S.Nonblocking.contents l.initial.self.stream) (g.S.Nonblocking.contents l.self.stream);
}
