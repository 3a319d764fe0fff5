use Rattle.std.proofs.Common.{◌≡◌, ℕ, IfOk, subst, sym, arith}
use Rattle.std.specs.FinMap.{entries}
use Rattle.sqlite.specs.Effect.{Database}
use Rattle.sqlite.specs.Held.{state}
use Rattle.sqlite.specs.State.{State}
use Rattle.mvd_records.specs.Pairs.{pair_entries}
use Rattle.mvd_records.specs.Records.{IsSound, HoldsRecords, AreKeys, states_at}
use Rattle.mvd_records.proofs.Checked.{reads_then, if_err, on_then}
use Rattle.mvd_records.proofs.loading.load.Given.{Over}
use Rattle.mvd_records.proofs.loading.load.Goals as goal

module _ (g : Over) (c : goal.After-read_table g) where
  abbrev old : State
  old = state g.S.Store c.args.conn.now

  abbrev mid : State
  mid = state g.S.Store c.check.new.conn

  abbrev new : State
  new = state g.S.Store c.read_table.new.conn

  same : (marked site : ℕ) → IsSound new → HoldsRecords marked site old.committed → mid.committed ≡ old.committed
  same marked site it holds = c.check.ensures.reads.unchanged marked site (c.read_table.ensures.reads.before it) holds

  held : (marked site : ℕ) → IsSound new → HoldsRecords marked site old.committed → HoldsRecords marked site mid.committed
  held marked site it holds = subst (HoldsRecords marked site) (sym (same marked site it holds)) holds

pub returns-clause-reads : goal.returns-clause-reads
returns-clause-reads g c =
    reads_then _ _ _ (λ clean. c.in-Ok.ensures.open (omega (arith, c.read_table.ensures.reads.survives.clean, clean))) c.check.ensures.reads c.read_table.ensures.reads

pub returns-clause-entries : goal.returns-clause-entries
returns-clause-entries g c marked site it holds =
    subst (λ (d : Database). IfOk c.read_table.result (λ pairs. pair_entries pairs.items ≡ entries (states_at c.args.table d))) (same g c marked site it holds) (c.read_table.ensures.entries marked site it (held g c marked site it holds))

pub returns-clause-whole : goal.returns-clause-whole
returns-clause-whole g c marked site it holds =
    let apart = c.in-Ok.ensures.apart marked site (c.read_table.ensures.reads.before it) holds in
    on_then c.read_table.result _ _ (λ keys. record { keys = subst (λ (d : Database). AreKeys (states_at c.args.table d)) (same g c marked site it holds) keys; tables = apart }) (c.read_table.ensures.keys marked site it (held g c marked site it holds))

pub returns-clause-damaged : goal.returns-clause-damaged
returns-clause-damaged g c marked site it holds =
    if_err c.read_table.result _ _ (λ e bad is whole. bad is (subst (λ (d : Database). AreKeys (states_at c.args.table d)) (sym (same g c marked site it holds)) whole.keys)) (c.read_table.ensures.damaged marked site it (held g c marked site it holds))

pub returns-in-Err-clause-damaged : goal.returns-in-Err-clause-damaged
returns-in-Err-clause-damaged g c marked site it holds is whole = c.in-Err.ensures.damaged marked site it holds is whole.tables
