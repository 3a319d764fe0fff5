use Rattle.std.proofs.Common.{◌≡◌, map}
use Rattle.mvd_wire.specs.declared.request.Request.TheVariants.{Node}
use Rattle.mvd_meet.proofs.near.add_nodes.Given as goal

-- the first of them
abbrev pub invariant-loop-path : goal.invariant-loop-path
invariant-loop-path l = record { all : l.all.items ≡ map (λ path. Node path) l.yielded }
