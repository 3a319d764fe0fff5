use Rattle.std.specs.Io.KnownBytes.{Keeps}
use Rattle.mvd_client.proofs.both_ways.read_next.Given as goal

abbrev pub invariant-turns : goal.invariant-turns
invariant-turns g l = Keeps (g.S.Nonblocking.remaining l.initial.stream) (g.S.Nonblocking.remaining l.stream)
