use Rattle.std.proofs.Common.{refl}
use Rattle.mvd_script.proofs.Heads.{view_taken}
use Rattle.mvd_script.proofs.script.Script.set_view.Goals as goal

pub returns-clause-taken : goal.returns-clause-taken
returns-clause-taken c = view_taken c.args.view c.args.self.now _ c.in_ok-is_taken.is_taken (c.if-not-is_in_head.ensures.0 refl) refl refl c.in_ok-is_taken.ensures.taken
