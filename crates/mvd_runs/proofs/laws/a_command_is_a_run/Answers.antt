use Rattle.mvd_runs.proofs.Commands.{closed_run, left_run, stopped_run}
use Rattle.mvd_runs.proofs.laws.a_command_is_a_run.Goals as goal

pub returns-clause-closed : goal.returns-clause-closed
returns-clause-closed g c = λ i image config calls number opens works clean closes. closed_run i image config calls c.args.old.now c.args.new.now number opens works c.args.files.now (closes clean)

pub returns-clause-left : goal.returns-clause-left
returns-clause-left g c = λ i image after config calls number opens works clean closes may. left_run i image config calls c.args.old.now c.args.new.now number opens works c.args.files.now (closes clean) after may

pub returns-clause-stopped : goal.returns-clause-stopped
returns-clause-stopped g c = λ i image after config calls trees number opens works clean may holds. stopped_run i image config calls c.args.old.now c.args.new.now number opens works (λ was_clean. opens.rests was_clean) after trees clean may holds
