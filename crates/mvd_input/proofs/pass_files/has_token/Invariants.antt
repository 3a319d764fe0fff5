use Rattle.std.specs.Prelude.{◌≡◌, drop, map}
use Rattle.mvd_input.specs.PassFiles.{has_token}
use Rattle.mvd_input.specs.Passes.{said_by}
use Rattle.mvd_input.proofs.pass_files.has_token.Given as goal

-- none of those so far has the token
abbrev pub invariant-loop-pass : goal.invariant-loop-pass
invariant-loop-pass l = has_token (map said_by l.before) l.token ≡ has_token (map said_by (drop l.pass-index l.before)) l.token
