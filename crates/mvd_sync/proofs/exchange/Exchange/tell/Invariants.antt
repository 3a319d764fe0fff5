use Rattle.std.proofs.Common.{◌+◌, ◌≤◌, map, length}
use Rattle.mvd_sync.specs.Exchanges.{CountsDone}
use Rattle.mvd_sync.specs.Meetings.{done_of}
use Rattle.mvd_sync.proofs.exchange.Exchange.tell.Given as goal

abbrev pub invariant-loop-meeting : goal.invariant-loop-meeting
invariant-loop-meeting l = record { adds : CountsDone (map done_of l.yielded) l.fn.self l.self; room : l.self.keys + l.self.refused ≤ l.fn.self.keys + l.fn.self.refused + length l.yielded }
