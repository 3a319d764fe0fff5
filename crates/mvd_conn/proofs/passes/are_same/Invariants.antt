use Rattle.std.specs.Prelude.{◌≡◌, take}
use Rattle.std.specs.Str.{bytes_eq}
use Rattle.mvd_conn.proofs.passes.are_same.Given as goal

-- whether all bytes so far are the same
abbrev pub invariant-loop-i : goal.invariant-loop-i
invariant-loop-i l = l.same ≡ bytes_eq (take l.i l.first) (take l.i l.second)
