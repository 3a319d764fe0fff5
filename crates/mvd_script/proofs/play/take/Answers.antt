use Rattle.std.specs.Prelude.{string_bytes}
use Rattle.mvd_script.proofs.Playing.{took}
use Rattle.mvd_script.proofs.play.take.Goals as goal

pub returns : goal.returns
returns c = took c.args.step c.step-outcome.result c.args.member.now.world c.step-outcome.new.self (string_bytes c.args.out.now) (string_bytes c.print_outcome-told.new.out) c.print_outcome-told.result c.step-outcome.ensures.machine c.print_outcome-told.ensures
