use Rattle.std.proofs.Common.{take, ◌+◌, ◌*◌}
use Rattle.std.specs.FinMap.{from_entries}
use Rattle.mvd_rows.specs.Changes.{looks_each, updates_each}
use Rattle.mvd_rows.specs.Counted.{Within}
use Rattle.mvd_rows.specs.Stands.{IsRowsOf}
use Rattle.mvd_kept.specs.Costs.{all_siblings}
use Rattle.mvd_kept.proofs.listing.rows_of.Given as goal

-- the rows are those of the entries so far, and each of their siblings cost so much
abbrev pub invariant-loop-entry : goal.invariant-loop-entry
invariant-loop-entry l = record {
  rows : IsRowsOf l.rows l.defs (from_entries (take l.entry-index l.states));
  counts : Within (all_siblings (take l.entry-index l.states) * updates_each l.defs + l.entry-index) (all_siblings (take l.entry-index l.states) * looks_each l.defs) l.fn.meter l.meter;
}
