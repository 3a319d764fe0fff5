use Rattle.std.proofs.Common.{◌≡◌, map}
use Rattle.mvd_wire.specs.declared.request.Request.TheVariants.{Get}
use Rattle.mvd_meet.proofs.near.add_gets.Given as goal

-- the first of them
abbrev pub invariant-loop-key : goal.invariant-loop-key
invariant-loop-key l = record { all : l.all.items ≡ map (λ key. Get key) l.yielded }
