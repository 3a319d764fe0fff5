use Rattle.std.proofs.Common.{arith, refl}
use Rattle.mvd_sync.specs.Machines.{here, on}
use Rattle.mvd_sync.proofs.Machined.{alone_room, alone_smaller}
use Rattle.mvd_sync.proofs.stage.go_far.Goals as goal

pub loop-alloc-init : goal.loop-alloc-init
loop-alloc-init c = record { went = here c.args.exchange.now c.args.stage refl refl; room = c.requires.room }

pub loop-alloc-preserved : goal.loop-alloc-preserved
loop-alloc-preserved c =
    let quiet = c.is_quiet.ensures.0 c.loop-alloc-test.true in
    let goes = c.in_ok-next.ensures.goes in
    let before = c.loop-alloc.invariant.room quiet in
    let less = alone_room c.loop-alloc.exchange c.loop-alloc.stage c.go_on.new.exchange c.in_ok-next.next goes in
    record { went = on c.loop-alloc.exchange c.go_on.new.exchange c.loop-alloc.stage c.in_ok-next.next c.loop-alloc.invariant.went quiet goes; room = λ _. omega (arith, before, less) }

pub loop-alloc-smaller : goal.loop-alloc-smaller
loop-alloc-smaller c = alone_smaller c.loop-alloc.exchange c.loop-alloc.stage c.go_on.new.exchange c.in_ok-next.next c.in_ok-next.ensures.goes
