use Rattle.std.proofs.Common.{◌≡◌, ◌-◌, arith}
use Rattle.std.proofs.lemmas.Result.{err_from_is_err_and}
use Rattle.mvd_wire.specs.Codec.{read_each}
use Rattle.mvd_wire.specs.Rows.{item_of}
use Rattle.mvd_wire.proofs.Loops.{starts, goes_on, ends, is_done}
use Rattle.mvd_frames.proofs.spelled_lists.each_at.Goals as goal

pub loop-init : goal.loop-init
loop-init g c =
    let whole : c.args.count - 0 ≡ c.args.count = omega arith in
    rw (c.new-items.ensures.items, whole) (starts (read_each (item_of g.T.Spelled.kind) (λ s _. s) tt c.args.count c.args.bytes.now))

pub returns-in_err-push : goal.returns-in_err-push
returns-in_err-push g c =
    let p = err_from_is_err_and c.from_residual-in_err-push.result c.from_residual-in_err-push.ensures.1 in
    rw p.1 (λ other. absurd (other p.2))

pub returns-in_err-item : goal.returns-in_err-item
returns-in_err-item g c =
    let p = err_from_is_err_and c.from_residual.result c.from_residual.ensures.1 in
    rw (p.1, p.2) (ends (item_of g.T.Spelled.kind) (λ s _. s) c.in_err-item.field-0.0 c.loop.items.items tt c.args.count c.loop.counter c.loop.rest.now (read_each (item_of g.T.Spelled.kind) (λ s _. s) tt c.args.count c.args.bytes.now) c.loop-test.true c.in_err-item.ensures c.loop.invariant)

pub loop-preserved : goal.loop-preserved
loop-preserved g c =
    rw c.in_ok-push.ensures.items (goes_on (item_of g.T.Spelled.kind) (λ s _. s) c.loop.items.items tt c.args.count c.loop.counter c.loop.rest.now c.in_ok-item.item c.in_ok-item.after.now (read_each (item_of g.T.Spelled.kind) (λ s _. s) tt c.args.count c.args.bytes.now) c.loop-test.true c.in_ok-item.ensures c.loop.invariant)

pub returns : goal.returns
returns g c = rw c.new.ensures (is_done (item_of g.T.Spelled.kind) (λ s _. s) c.loop.items.items tt c.args.count c.loop.counter c.loop.rest.now (read_each (item_of g.T.Spelled.kind) (λ s _. s) tt c.args.count c.args.bytes.now) c.loop-test.false c.loop.invariant)
