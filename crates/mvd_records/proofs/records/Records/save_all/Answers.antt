use Rattle.sqlite.specs.Held.{state}
use Rattle.mvd_records.specs.Pairs.{saved_entries}
use Rattle.mvd_records.specs.Records.{SavesStates}
use Rattle.mvd_records.proofs.Contracts.{saves_all, sets}
use Rattle.mvd_records.proofs.records.Records.save_all.Goals as goal

pub returns : goal.returns
returns g c =
    let pairs = saved_entries c.args.saves.now in
    rw (← c.self.view_is)
    (saves_all (λ a b. SavesStates a b pairs) pairs _ (state g.S.Store c.self.inside.conn) (state g.S.Store c.in_transaction.new.conn) c.in_transaction.result (sets pairs) c.in_transaction.ensures)
