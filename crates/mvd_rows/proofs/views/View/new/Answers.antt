use Rattle.mvd_rows.proofs.Nothing.{no_rows}
use Rattle.mvd_rows.proofs.views.View.new.Goals as goal

pub returns-clause-rows : goal.returns-clause-rows
returns-clause-rows c = no_rows _ c.new.ensures c.new-2.ensures
