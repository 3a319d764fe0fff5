use Rattle.sqlite.specs.Held.{state}
use Rattle.mvd_records.proofs.Contracts.{IsFound, loads}
use Rattle.mvd_records.proofs.records.Records.load.Goals as goal

pub returns : goal.returns
returns g c =
    let found : IsFound (state g.S.Store c.self.inside.conn) (state g.S.Store c.is_open.new.conn) = record { same = λ clean. c.is_open.ensures.open clean c.if-not-is_open.false; nothing = c.is_open.ensures.survives } in
    rw (← c.self.view_is) (loads c.args.table _ _ _ _ c.load.result found c.load.ensures.reads c.load.ensures.entries c.load.ensures.rising c.load.ensures.whole c.load.ensures.damaged c.load.ensures.refusal c.load.ensures.open)
