use Rattle.std.proofs.Common.{refl, sym}
use Rattle.mvd_script.proofs.Heads.{none_of, sites_taken}
use Rattle.mvd_script.proofs.script.Script.set_sites.Goals as goal

pub returns : goal.returns
returns c = sites_taken c.args.self.now _ _ c.args.count (none_of c.args.self.now.head (sym c.if-is_some.ensures)) (none_of c.args.self.now.world (sym c.if-is_some-2.ensures)) (c.if-not-is_within.ensures.0 refl) refl refl refl refl refl
