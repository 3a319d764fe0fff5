use Rattle.sqlite.specs.Held.{state}
use Rattle.mvd_records.proofs.Contracts.{moves_key}
use Rattle.mvd_records.proofs.records.Records.move_key.Goals as goal

pub returns : goal.returns
returns g c =
    rw (← c.self.view_is, ← c.text-key.ensures.same)
    (moves_key c.text-key.result.now c.args.bytes.now _ (state g.S.Store c.self.inside.conn) (state g.S.Store c.in_transaction.new.conn) c.in_transaction.result c.in_transaction.ensures)
