use Rattle.std.proofs.Common.{refl, Some, sym}
use Rattle.mvd_script.proofs.Heads.{are_there, begun, none_of}
use Rattle.mvd_script.proofs.script.Script.begin.Goals as goal

pub returns-clause-begins : goal.returns-clause-begins
returns-clause-begins c = (refl, begun c.args.self.now (record c.args.self.now { world = Some c.in_ok-member.member }) c.in-Some.head c.in_ok-member.member (none_of c.args.self.now.world (sym c.if-is_some.ensures)) c.in-Some.is c.in_ok-member.ensures.begun refl)

pub returns-then-is_some-clause-begins : goal.returns-then-is_some-clause-begins
returns-then-is_some-clause-begins c = (sym c.if-is_some.ensures, are_there c.args.self.now (sym c.if-is_some.ensures))
