use Rattle.std.proofs.Common.{subst, Bool}
use Rattle.std.specs.Prelude.{string_bytes}
use Rattle.mvd_script.specs.Staged.{ScriptBegins}
use Rattle.mvd_script.proofs.Heads.{commanded}
use Rattle.mvd_script.proofs.script.Script.command.Goals as goal

pub returns-clause-taken : goal.returns-clause-taken
returns-clause-taken c = commanded c.args.site c.args.command c.args.self.now c.begin.new.self c.run_at.new.self (string_bytes c.run_at.new.out) (subst (λ (b : Bool). ScriptBegins c.args.self.now c.begin.new.self b) c.if-not-branch.false c.in_ok-begin.ensures.begins) c.in_ok-run_at.ensures.said
