use Rattle.std.proofs.Common.{◌≡◌}
use Rattle.sqlite.specs.Held.{state}
use Rattle.mvd_records.specs.Records.{HoldsRecords, IsSound}
use Rattle.mvd_records.specs.Pairs.{pair_entries}
use Rattle.mvd_replica.proofs.Moving.{Moving}
use Rattle.mvd_replica.proofs.RestoredOrder.{Moved}
use Rattle.mvd_replica.proofs.restoring.migrate.Given as goal

abbrev pub invariant-loop-key : goal.invariant-loop-key
invariant-loop-key g l = record {
  before : IsSound (state g.S.Store l.records.conn) → IsSound (state g.S.Store l.fn.records.conn);
  kept : (version number : _) → IsSound (state g.S.Store l.records.conn) → HoldsRecords version number (state g.S.Store l.fn.records.conn).committed → HoldsRecords version number (state g.S.Store l.records.conn).committed;
  since : IsSound (state g.S.Store l.records.conn) → IsSound (state g.S.Store l.initial.records.conn);
  moving : (number : _) → IsSound (state g.S.Store l.records.conn) → HoldsRecords l.fn.records.version number (state g.S.Store l.fn.records.conn).committed → Moving (state g.S.Store l.fn.records.conn).committed (state g.S.Store l.records.conn).committed;
  moved : (number : _) → IsSound (state g.S.Store l.records.conn) → HoldsRecords l.fn.records.version number (state g.S.Store l.fn.records.conn).committed → Moved (state g.S.Store l.fn.records.conn).committed (state g.S.Store l.records.conn).committed (pair_entries l.yielded);
  version : l.records.version ≡ l.fn.records.version;
}
