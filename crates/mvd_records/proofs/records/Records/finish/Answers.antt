use Rattle.std.proofs.Common.{Err, Ok, refl}
use Rattle.sqlite.specs.Held.{state}
use Rattle.mvd_records.proofs.Contracts.{finishes_moves}
use Rattle.mvd_records.proofs.records.Records.finish.Goals as goal

pub returns-in-Ok : goal.returns-in-Ok
returns-in-Ok g c = rw (← c.self.view_is) (finishes_moves _ _ (state g.S.Store c.self.inside.conn) (state g.S.Store c.in_transaction.new.conn) (Ok (tt {0})) refl c.in-Ok.ensures)

pub returns-in-Err : goal.returns-in-Err
returns-in-Err g c = rw (← c.self.view_is) (finishes_moves _ _ (state g.S.Store c.self.inside.conn) (state g.S.Store c.in_transaction.new.conn) (Err c.in-Err.refusal) refl c.in-Err.ensures)
