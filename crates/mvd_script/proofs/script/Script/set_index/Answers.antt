use Rattle.std.proofs.Common.{refl}
use Rattle.mvd_script.proofs.Heads.{index_taken}
use Rattle.mvd_script.proofs.script.Script.set_index.Goals as goal

pub returns-clause-taken : goal.returns-clause-taken
returns-clause-taken c = index_taken c.args.field c.args.self.now _ c.in_ok-is_taken.is_taken (c.if-not-is_in_head.ensures.0 refl) refl refl c.in_ok-is_taken.ensures.taken
