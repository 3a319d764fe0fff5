use Rattle.std.proofs.Common.{◌∷◌, []}
use Rattle.sqlite.specs.Held.{state}
use Rattle.mvd_records.specs.Records.{SavesState}
use Rattle.mvd_records.proofs.Contracts.{saves_all, sets_one}
use Rattle.mvd_records.proofs.records.Records.save.Goals as goal

pub returns : goal.returns
returns g c =
    let key = c.args.save.now.key.now in
    let bytes = c.args.save.now.bytes.now in
    rw (← c.self.view_is)
    (saves_all (λ a b. SavesState a b key bytes) ((key, bytes) ∷ []) _ (state g.S.Store c.self.inside.conn) (state g.S.Store c.in_transaction.new.conn) c.in_transaction.result (sets_one key bytes) c.in_transaction.ensures)
