use Rattle.std.proofs.Common.{refl, sym, subst, ℕ, ◌<◌, ◌≤◌}
use Rattle.mvd_script.proofs.Heads.{none_of, max_taken}
use Rattle.mvd_script.proofs.script.Script.set_max.Goals as goal

pub returns : goal.returns
returns c = max_taken c.args.self.now _ c.in-Some.head _ c.args.count c.in-Some.is (none_of c.in-Some.head.max_keys (sym c.if-is_some.ensures)) (none_of c.args.self.now.world (sym c.if-is_some-2.ensures)) (subst (λ (n : ℕ). (0 < c.args.count) × (c.args.count ≤ n)) c.from.ensures (c.if-not-is_within.ensures.0 refl)) refl refl refl refl refl
