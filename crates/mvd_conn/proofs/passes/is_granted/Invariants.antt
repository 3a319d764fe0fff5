use Rattle.std.specs.Prelude.{◌≡◌, drop}
use Rattle.mvd_conn.specs.Passes.{grants}
use Rattle.mvd_conn.proofs.passes.is_granted.Given as goal

-- none of those so far has the right
abbrev pub invariant-loop-pass : goal.invariant-loop-pass
invariant-loop-pass l = grants l.passes l.right ≡ grants (drop l.pass-index l.passes) l.right
