use Rattle.std.proofs.Common.{arith}
use Rattle.std.proofs.lemmas.Grind.{common_steps}
use Rattle.mvd_app.proofs.Loops.{awaited_rest}
use Rattle.mvd_app.proofs.awaited.AwaitedRead.read.Goals as goal

pub returns-clause-bytes : goal.returns-clause-bytes
returns-clause-bytes g c = (awaited_rest _ _ _ c.in-Some.ensures.cases.0 c.in-Some.ensures.cases.1, λ zero some. grind (arith, common_steps))
