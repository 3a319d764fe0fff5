use Rattle.std.proofs.Common.{◌≡◌, [], List, map, true}
use Rattle.std.specs.List.{AllByRecursion}
use Rattle.sqlite.specs.Order.{Row}
use Rattle.sqlite.specs.State.{HasCleanDisk, IsUnchanged, Survives, CommitsShowing}
use Rattle.sqlite.specs.Held.{state}
use Rattle.sqlite.specs.Given.{HasGiven, IsPlain}
use Rattle.sqlite.specs.Listing.{understood}
use Rattle.mvd_keys.specs.Key.{is_key}
use Rattle.mvd_records.specs.Records.{IsSound}
use Rattle.mvd_records.specs.States.{shown_row_entry}
use Rattle.mvd_records.specs.Pairs.{pair_entries, pairs_rise}
use Rattle.mvd_records.proofs.loading.read_pairs.Given as goal

abbrev pub invariant-rows : goal.invariant-rows
invariant-rows g l =
    let old = state g.S.Store l.fn.conn in
    let now = state g.S.Store l.rows.conn.now in
    record {
      lender : l.rows.conn.ghost_name ≡ l.initial.rows.conn.ghost_name;
      before : IsSound now → IsSound old;
      survives : Survives old now (CommitsShowing l.sql [] old);
      given : IsPlain (understood old.now.schema l.sql) → HasCleanDisk now → (rows : List Row) × HasGiven g.S.Store l.sql [] l.rows.conn.now rows × IsUnchanged old now × (pair_entries l.pairs.items ≡ map shown_row_entry rows);
      form : AllByRecursion (λ e. is_key e.0 ≡ true) (pair_entries l.pairs.items);
      rising : pairs_rise (pair_entries l.pairs.items);
    }
