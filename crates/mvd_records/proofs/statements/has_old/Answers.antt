use Rattle.sqlite.specs.Held.{state}
use Rattle.mvd_records.specs.Records.{IsQuiescent}
use Rattle.mvd_records.proofs.Texts.{any_old_text, any_old_plain}
use Rattle.mvd_records.proofs.Checked.{only_reads, reads_nothing, tells_old, if_ok}
use Rattle.mvd_records.proofs.statements.has_old.Given.{Over}
use Rattle.mvd_records.proofs.statements.has_old.Goals as goal

settled : (g : Over) (c : goal.After-shows_any g) → IsQuiescent (state g.S.Store c.args.conn.now)
settled g c = c.is_settled.ensures.settled c.if-not-is_settled.false

pub returns-clause-reads : goal.returns-clause-reads
returns-clause-reads g c = only_reads any_old_text _ _ any_old_plain (settled g c) c.shows_any.ensures.before c.shows_any.ensures.kept c.shows_any.ensures.survives

pub returns-then-not-is_settled-clause-reads : goal.returns-then-not-is_settled-clause-reads
returns-then-not-is_settled-clause-reads g c = reads_nothing (state g.S.Store c.args.conn.now)

pub returns-clause-any : goal.returns-clause-any
returns-clause-any g c version site it holds = if_ok c.shows_any.result _ _ (λ any shown. tells_old version site _ _ shown.0 any (settled g c) holds shown.1 shown.2) (c.shows_any.ensures.shown it.clean)
