use Rattle.std.proofs.Common.{◌≡◌, map}
use Rattle.mvd_wire.specs.declared.request.Request.TheVariants.{Push}
use Rattle.mvd_meet.proofs.near.add_pushes.Given as goal

-- the first of them
abbrev pub invariant-loop-key : goal.invariant-loop-key
invariant-loop-key l = record { all : l.all.items ≡ map (λ key. Push key.0 key.1) l.yielded }
