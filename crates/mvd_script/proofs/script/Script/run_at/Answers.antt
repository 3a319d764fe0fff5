use Rattle.std.proofs.Common.{refl, Some}
use Rattle.std.specs.Prelude.{string_bytes}
use Rattle.mvd_script.proofs.Heads.{ran_at}
use Rattle.mvd_script.proofs.script.Script.run_at.Goals as goal

pub returns-in-Some-clause-said : goal.returns-in-Some-clause-said
returns-in-Some-clause-said c = ran_at c.run.result c.args.site c.args.command c.args.self.now (record c.args.self.now { world = Some c.run.new.member }) c.in-Some.member c.run.new.member (string_bytes c.run.new.out) c.in-Some.is refl c.run.ensures.said
