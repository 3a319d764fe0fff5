use Rattle.std.proofs.Common.{IsTrue}
use Rattle.sqlite.specs.Held.{state}
use Rattle.sqlite.specs.State.{HasCleanDisk}
use Rattle.mvd_records.specs.Jobs.{making_tables}
use Rattle.mvd_records.specs.Records.{StaysInside}
use Rattle.mvd_records.proofs.Inside.{early, stays_then}
use Rattle.mvd_records.proofs.Made.{all_made, all_sound}
use Rattle.mvd_records.proofs.Transacted.{went}
use Rattle.mvd_records.proofs.open.make_tables.Goals as goal

pub returns-in-Ok-execute-2-clause-done : goal.returns-in-Ok-execute-2-clause-done
returns-in-Ok-execute-2-clause-done g c =
    let first = c.in-Ok.field-0 in
    let second = c.in-Ok-execute.field-0 in
    let third = c.in-Ok-execute-2.field-0 in
    let both : StaysInside (state g.S.Store c.args.tx.now.conn.now) (state g.S.Store c.execute-2.new.tx.conn.now) = stays_then _ _ _ (λ clean on. (c.in-Ok.ensures.ran clean on).inside) c.execute.ensures.stays c.execute-2.ensures.stays in
    let on_two : HasCleanDisk (state g.S.Store c.execute-2.new.tx.conn.now) → IsTrue (state g.S.Store c.args.tx.now.conn.now).in_transaction → IsTrue (state g.S.Store c.execute-2.new.tx.conn.now).in_transaction
    = λ clean on. (c.in-Ok-execute.ensures.ran clean (c.in-Ok.ensures.ran (early _ _ c.execute-2.ensures.stays clean) on).inside).inside in
    went making_tables _ _ (stays_then _ _ _ on_two both c.execute-3.ensures.stays) tt
    (λ clean on. (c.in-Ok-execute-2.ensures.ran clean (on_two (early _ _ c.execute-3.ensures.stays clean) on)).inside)
    (λ clean on ours. (
    let mid = early _ _ c.execute-3.ensures.stays clean in
    let one = c.in-Ok.ensures.ran (early _ _ c.execute-2.ensures.stays mid) on in
    let two = c.in-Ok-execute.ensures.ran mid one.inside in
    let three = c.in-Ok-execute-2.ensures.ran clean two.inside in
    let all = all_made _ _ _ _ first second third ours one.did two.did three.did in
    (all.0, all.1, all_sound _ _ _ _ first second third ours one.did two.did three.did)))
