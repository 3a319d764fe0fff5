use Rattle.std.proofs.Common.{◌≡◌, ◌+◌, ◌-◌, arith}
use Rattle.std.proofs.lemmas.Result.{err_from_is_err_and}
use Rattle.mvd_wire.specs.Codec.{read_each}
use Rattle.mvd_wire.specs.Codecs.{loose_from}
use Rattle.mvd_wire.proofs.Loops.{starts, goes_on, ends, is_done}
use Rattle.mvd_wire.proofs.context_bytes.each_loose_at.Goals as goal

pub loop-init : goal.loop-init
loop-init c =
    let whole : c.args.count - 0 ≡ c.args.count = omega arith in
    rw (c.new-loose.ensures.items, whole) (starts (read_each loose_from (λ _ n. n + 1) c.args.least c.args.count c.args.bytes.now))

pub returns-in_err-push : goal.returns-in_err-push
returns-in_err-push c =
    let p = err_from_is_err_and c.from_residual-in_err-push.result c.from_residual-in_err-push.ensures.1 in
    rw p.1 (λ other. absurd (other p.2))

pub returns-in_err-counter : goal.returns-in_err-counter
returns-in_err-counter c =
    let p = err_from_is_err_and c.from_residual.result c.from_residual.ensures.1 in
    rw (p.1, p.2) (ends loose_from (λ _ n. n + 1) c.in_err-counter.field-0.0 c.loop.loose.items c.loop.least c.args.count c.loop.counter c.loop.rest.now (read_each loose_from (λ _ n. n + 1) c.args.least c.args.count c.args.bytes.now) c.loop-test.true c.in_err-counter.ensures.read c.loop.invariant)

pub loop-preserved : goal.loop-preserved
loop-preserved c =
    rw c.in_ok-push.ensures.items (goes_on loose_from (λ _ n. n + 1) c.loop.loose.items c.loop.least c.args.count c.loop.counter c.loop.rest.now c.in_ok-counter.counter c.in_ok-counter.after.now (read_each loose_from (λ _ n. n + 1) c.args.least c.args.count c.args.bytes.now) c.loop-test.true c.in_ok-counter.ensures.read c.loop.invariant)

pub returns : goal.returns
returns c = is_done loose_from (λ _ n. n + 1) c.loop.loose.items c.loop.least c.args.count c.loop.counter c.loop.rest.now (read_each loose_from (λ _ n. n + 1) c.args.least c.args.count c.args.bytes.now) c.loop-test.false c.loop.invariant
