use Rattle.std.proofs.Common.{◌≡◌, refl, List, ℕ, subst, ◌∙◌, sym, true}
use Rattle.std.specs.List.{AllByRecursion}
use Rattle.sqlite.specs.Held.{state}
use Rattle.sqlite.specs.Given.{IsPlain}
use Rattle.sqlite.specs.Listing.{understood}
use Rattle.mvd_keys.specs.Key.{is_key}
use Rattle.mvd_records.specs.Pairs.{pairs_rise}
use Rattle.mvd_records.specs.Records.{IsQuiescent, IsSound, HoldsRecords}
use Rattle.mvd_records.proofs.Texts.{load_text, load_plain}
use Rattle.mvd_records.proofs.Checked.{only_reads, reads_nothing, plain_at, if_both, if_err, on_ok}
use Rattle.mvd_records.proofs.Loaded.{loaded_table, keys_table, bad_table}
use Rattle.mvd_records.proofs.loading.read_table.Given.{Over}
use Rattle.mvd_records.proofs.loading.read_table.Goals as goal
use Rattle.mvd_records.proofs.loading.read_table.Goals.{in-Version1, in-Version2}

module _ (g : Over) (c : goal.After-read_pairs g) where
  settled : IsQuiescent (state g.S.Store c.args.conn.now)
  settled = c.is_settled.ensures.settled c.if-not-is_settled.false

  -- the text is that of the table
  text_is : c.match-table.sql.now ≡ load_text c.args.table
  text_is = elim c.match-table.branch [ in-Version1 w ↦ (rw (w.in-Version1.is, w.sql-is) refl) | in-Version2 w ↦ (rw (w.in-Version2.is, w.sql-is) refl) ]

  plain : (version site : ℕ) → IsSound (state g.S.Store c.read_pairs.new.conn) → HoldsRecords version site (state g.S.Store c.args.conn.now).committed → IsPlain (understood (state g.S.Store c.args.conn.now).now.schema (load_text c.args.table))
  plain version site it holds = plain_at (load_text c.args.table) version site _ (load_plain c.args.table) settled (c.read_pairs.ensures.before it).is_open holds

pub returns-clause-reads : goal.returns-clause-reads
returns-clause-reads g c =
    only_reads (load_text c.args.table) _ _ (load_plain c.args.table) (settled g c) c.read_pairs.ensures.before (rw (text_is g c) at c.read_pairs.ensures.kept) (rw (text_is g c) at c.read_pairs.ensures.survives)

pub returns-then-not-is_settled-clause-reads : goal.returns-then-not-is_settled-clause-reads
returns-then-not-is_settled-clause-reads g c = reads_nothing (state g.S.Store c.args.conn.now)

pub returns-clause-entries : goal.returns-clause-entries
returns-clause-entries g c version site it holds =
    if_both c.read_pairs.result _ _ _ (λ pairs shown up. shown.2 ∙ sym (loaded_table c.args.table version site _ (settled g c) holds _ shown.0 shown.1 (subst pairs_rise shown.2 up)))
    ((rw (text_is g c) at c.read_pairs.ensures.shown) it.clean (plain g c version site it holds)) c.read_pairs.ensures.rising

pub returns-clause-keys : goal.returns-clause-keys
returns-clause-keys g c version site it holds =
    on_ok c.read_pairs.result _ _ _ (λ pairs shown form. keys_table c.args.table version site _ (settled g c) holds _ shown.0 shown.1 (subst (AllByRecursion (λ (e : List ℕ × List ℕ). is_key e.0 ≡ true)) shown.2 form))
    ((rw (text_is g c) at c.read_pairs.ensures.shown) it.clean (plain g c version site it holds)) c.read_pairs.ensures.form

pub returns-clause-damaged : goal.returns-clause-damaged
returns-clause-damaged g c version site it holds =
    if_err c.read_pairs.result _ _ (λ e bad is. (let rows = bad is in bad_table c.args.table version site _ (settled g c) holds rows.0 (c.read_pairs.ensures.before it).is_open rows.1 rows.2))
    ((rw (text_is g c) at c.read_pairs.ensures.damaged) it.clean (plain g c version site it holds))
