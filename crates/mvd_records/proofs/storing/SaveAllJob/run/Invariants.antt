use Rattle.std.proofs.Common.{◌≡◌, Ok, take}
use Rattle.sqlite.specs.Held.{state}
use Rattle.mvd_records.specs.Jobs.{DoesInside, saving_all}
use Rattle.mvd_records.specs.Pairs.{saved_entries}
use Rattle.mvd_records.proofs.storing.SaveAllJob.run.Given as goal

-- what is set so far
abbrev pub invariant-loop-save : goal.invariant-loop-save
invariant-loop-save g l = record {
  same : l.tx.conn.ghost_name ≡ l.fn.tx.conn.ghost_name;
  done : DoesInside (saving_all (saved_entries (take l.save-index l.self.saves.now))) (state g.S.Store l.fn.tx.conn.now) (Ok tt) (state g.S.Store l.tx.conn.now);
}
