use Rattle.std.proofs.Common.{◌∙◌, Err, Ok}
use Rattle.sqlite.specs.Held.{state}
use Rattle.mvd_records.specs.declared.loading.StateTable.TheVariants.{Version2}
use Rattle.mvd_records.proofs.Follows.{loads_damaged, loads_entries, loads_reads, loads_whole}
use Rattle.mvd_replica.proofs.Loading.{whenever, loaded_full, loaded_spelled, states_rise}
use Rattle.mvd_replica.proofs.RestoredOrder.{loaded_order, not_whole, read_order, too_many}
use Rattle.mvd_replica.proofs.restoring.load.Goals as goal

pub open-requires-clause-rising : goal.open-requires-clause-rising
open-requires-clause-rising g c = states_rise _ _ c.in-Ok-states_of.ensures.spelled c.in-Ok.ensures.rising

pub returns-clause-stays_open : goal.returns-clause-stays_open
returns-clause-stays_open g c clean = whenever c.open.result (c.in-Ok.ensures.stays_open clean)

pub returns-clause-spelled : goal.returns-clause-spelled
returns-clause-spelled g c version number sound holds =
    loaded_spelled c.args.config _ c.in-Ok-states_of.states.items c.open.result c.open.ensures.opened (c.in-Ok-states_of.ensures.spelled ∙ loads_entries Version2 _ _ (Ok c.in-Ok.pairs) c.in-Ok.ensures version number sound holds)

pub returns-clause-full : goal.returns-clause-full
returns-clause-full g c version number sound holds =
    too_many c.open.result c.args.config.max_keys _
    (read_order c.args.records.now.version (state g.S.Store c.args.records.now.conn).committed c.in-Ok.pairs.items c.requires (loads_whole Version2 _ _ (Ok c.in-Ok.pairs) c.in-Ok.ensures version number sound holds) (loads_entries Version2 _ _ (Ok c.in-Ok.pairs) c.in-Ok.ensures version number sound holds)
    c.in-Ok-states_of.ensures.stored)
    (loaded_full c.args.config _ c.in-Ok-states_of.states.items c.open.result c.open.ensures.opened (c.in-Ok-states_of.ensures.spelled ∙ loads_entries Version2 _ _ (Ok c.in-Ok.pairs) c.in-Ok.ensures version number sound holds))

pub returns-in-Err-clause-order : goal.returns-in-Err-clause-order
returns-in-Err-clause-order g c version number sound holds damaged =
    not_whole c.args.records.now.version (state g.S.Store c.args.records.now.conn).committed c.requires (loads_damaged Version2 _ _ (Err c.in-Err.refusal) c.in-Err.ensures version number sound holds damaged)

pub returns-in-Err-states_of-clause-order : goal.returns-in-Err-states_of-clause-order
returns-in-Err-states_of-clause-order g c version number sound holds damaged order =
    c.in-Err-states_of.ensures.damaged _ (loads_entries Version2 _ _ (Ok c.in-Ok.pairs) c.in-Ok.ensures version number sound holds) damaged order.new_stored

pub returns-clause-order : goal.returns-clause-order
returns-clause-order g c version number sound holds =
    loaded_order c.args.config c.in-Ok-states_of.states.items c.open.result _ _ c.open.ensures.opened
    (read_order c.args.records.now.version (state g.S.Store c.args.records.now.conn).committed c.in-Ok.pairs.items c.requires (loads_whole Version2 _ _ (Ok c.in-Ok.pairs) c.in-Ok.ensures version number sound holds) (loads_entries Version2 _ _ (Ok c.in-Ok.pairs) c.in-Ok.ensures version number sound holds)
    c.in-Ok-states_of.ensures.stored)

pub returns-in-Err-clause-unchanged : goal.returns-in-Err-clause-unchanged
returns-in-Err-clause-unchanged g c = (loads_reads Version2 _ _ (Err c.in-Err.refusal) c.in-Err.ensures).unchanged

pub returns-in-Err-states_of-clause-unchanged : goal.returns-in-Err-states_of-clause-unchanged
returns-in-Err-states_of-clause-unchanged g c = (loads_reads Version2 _ _ (Ok c.in-Ok.pairs) c.in-Ok.ensures).unchanged

pub returns-clause-unchanged : goal.returns-clause-unchanged
returns-clause-unchanged g c = (loads_reads Version2 _ _ (Ok c.in-Ok.pairs) c.in-Ok.ensures).unchanged
