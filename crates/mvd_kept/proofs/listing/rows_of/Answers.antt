use Rattle.std.proofs.Common.{arith, ◌+◌, ◌≡◌, take, ap, sym, ◌∙◌, subst, unwrap_or}
use Rattle.std.specs.FinMap.{empty, from_entries}
use Rattle.mvd_keys.specs.State.{empty_state}
use Rattle.mvd_keys.proofs.Parts.{holds}
use Rattle.mvd_rows.specs.Changes.{state_in}
use Rattle.mvd_rows.specs.Stands.{IsRowsOf}
use Rattle.mvd_kept.proofs.OpenCosted.{rows_next, rows_part}
use Rattle.mvd_kept.proofs.Opened.{each_at, fresh_at, next_at}
use Rattle.mvd_kept.proofs.Outcomes.{where_ok}
use Rattle.mvd_kept.proofs.Room.{few_siblings, roomy_entries}
use Rattle.mvd_kept.proofs.listing.rows_of.Goals as goal

pub change-requires : goal.change-requires
change-requires c =
    let es = c.args.states.now in
    let i = c.loop-entry.entry-index in
    let e = c.entry-item.result in
    let at : state_in (from_entries (take i es)) e.0 ≡ c.empty-empty.result =
    ap (λ o. unwrap_or o empty_state)
    (fresh_at es i e (holds _ c.requires.rising) c.loop-entry-test.true c.entry-item.is) ∙ sym
    c.empty-empty.ensures in
    record {
      room = (
        c.args.defs.now,
        from_entries (take i es),
        (
          c.loop-entry.invariant.rows,
          at,
          roomy_entries es i c.requires.held c.requires.few,
          few_siblings e.1 (each_at _ es i e c.requires.held c.loop-entry-test.true c.entry-item.is).short,
        ),
      );
    }

pub loop-entry-init : goal.loop-entry-init
loop-entry-init c =
    let same : c.args.defs.now ≡ c.in_ok-copy.field-0 = cc (c.in_ok-copy.ensures) in
    record {
      rows = subst (λ d. IsRowsOf c.in_ok-rows.rows d empty) (sym same) c.in_ok-rows.ensures.stands;
      counts
          = record {
            updates = omega arith;
            looks = omega arith;
            least_updates = omega arith;
            least_looks = omega arith;
          };
    }

pub loop-entry-preserved : goal.loop-entry-preserved
loop-entry-preserved c =
    let es = c.args.states.now in
    let i = c.loop-entry.entry-index in
    let e = c.entry-item.result in
    let at : state_in (from_entries (take i es)) e.0 ≡ c.empty-empty.result =
    ap (λ o. unwrap_or o empty_state)
    (fresh_at es i e (holds _ c.requires.rising) c.loop-entry-test.true c.entry-item.is) ∙ sym
    c.empty-empty.ensures in
    record {
      rows = subst (IsRowsOf c.change.new.self c.args.defs.now)
          (next_at es i e (holds _ c.requires.rising) c.loop-entry-test.true c.entry-item.is)
          (where_ok c.change.result _ c.change.ensures.stands c.if-is_err.ensures.value c.args.defs.now
          (from_entries (take i es)) c.loop-entry.invariant.rows at);
      counts = rows_next es i e c.empty-empty.result _ c.args.defs.now c.args.meter.now c.loop-entry.meter
          c.change.new.meter c.loop-entry-test.true c.entry-item.is c.empty-empty.ensures
          c.loop-entry.invariant.rows.defs c.loop-entry.invariant.counts c.change.ensures.looks;
    }

pub returns-then-is_err-clause-counts : goal.returns-then-is_err-clause-counts
returns-then-is_err-clause-counts c =
    let low = c.loop-entry-test.true in
    rows_part c.args.states.now (c.loop-entry.entry-index + 1) c.args.defs.now _ _ (omega (arith, low))
    (rows_next c.args.states.now c.loop-entry.entry-index c.entry-item.result c.empty-empty.result _ c.args.defs.now
    c.args.meter.now c.loop-entry.meter c.change.new.meter
    c.loop-entry-test.true c.entry-item.is c.empty-empty.ensures c.loop-entry.invariant.rows.defs
    c.loop-entry.invariant.counts c.change.ensures.looks)

pub returns-clause-counts : goal.returns-clause-counts
returns-clause-counts c =
    rows_part c.args.states.now c.loop-entry.entry-index c.args.defs.now _ _ c.loop-entry.auto.entry-index-end c.loop-entry.invariant.counts
