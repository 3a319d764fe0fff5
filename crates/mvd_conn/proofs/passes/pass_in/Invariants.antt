use Rattle.std.specs.Prelude.{◌≡◌, drop}
use Rattle.mvd_conn.specs.Passes.{pass_of_digest}
use Rattle.mvd_conn.proofs.passes.pass_in.Given as goal

-- none of those so far has the digest
abbrev pub invariant-loop-pass : goal.invariant-loop-pass
invariant-loop-pass l = pass_of_digest l.passes l.digest ≡ pass_of_digest (drop l.pass-index l.passes) l.digest
