use Rattle.std.proofs.Common.{◌≡◌, ◌-◌, arith, ◌++◌, ◌∷◌, [], Some, None}
use Rattle.std.proofs.lemmas.Result.{err_from_is_err_and}
use Rattle.std.proofs.lemmas.List.{map_push}
use Rattle.mvd_keys.specs.State.{pair_of, pairs_of}
use Rattle.mvd_wire.specs.Codec.{read_each}
use Rattle.mvd_wire.specs.Codecs.{sibling, layout_of}
use Rattle.mvd_wire.proofs.Loops.{starts, goes_on, ends, is_done}
use Rattle.mvd_wire.proofs.state_bytes.each_sibling_at.Goals as goal

pub loop-init : goal.loop-init
loop-init c =
    let whole : c.args.count - 0 ≡ c.args.count = omega arith in
    rw (c.in_ok-siblings.ensures.items, whole) (starts (read_each (sibling (layout_of c.args.version) c.args.context.now) (λ _ s. Some s.0) None c.args.count c.args.bytes.now))

pub returns-in_err-push : goal.returns-in_err-push
returns-in_err-push c =
    let p = err_from_is_err_and c.from_residual-in_err-push.result c.from_residual-in_err-push.ensures.1 in
    rw p.1 (λ other. absurd (other p.2))

pub returns-in_err-sibling : goal.returns-in_err-sibling
returns-in_err-sibling c =
    let p = err_from_is_err_and c.from_residual-in_err-sibling.result c.from_residual-in_err-sibling.ensures.1 in
    rw (p.1, p.2) (ends (sibling (layout_of c.args.version) c.args.context.now) (λ _ s. Some s.0) c.in_err-sibling.field-0.0 (pairs_of c.loop.siblings.items) c.loop.previous c.args.count c.loop.counter c.loop.rest.now (read_each (sibling (layout_of c.args.version) c.args.context.now) (λ _ s. Some s.0) None c.args.count c.args.bytes.now) c.loop-test.true c.in_err-sibling.ensures c.loop.invariant)

pub loop-preserved : goal.loop-preserved
loop-preserved c =
    let s = c.in_ok-sibling.sibling in
    let e : pairs_of c.push.new.self.items ≡ pairs_of c.loop.siblings.items ++ pair_of s ∷ [] = rw c.in_ok-push.ensures.items (map_push _ c.loop.siblings.items s) in
    rw e (goes_on (sibling (layout_of c.args.version) c.args.context.now) (λ _ s. Some s.0) (pairs_of c.loop.siblings.items) c.loop.previous c.args.count c.loop.counter c.loop.rest.now (pair_of s) c.in_ok-sibling.after.now (read_each (sibling (layout_of c.args.version) c.args.context.now) (λ _ s. Some s.0) None c.args.count c.args.bytes.now) c.loop-test.true c.in_ok-sibling.ensures c.loop.invariant)

pub returns : goal.returns
returns c = is_done (sibling (layout_of c.args.version) c.args.context.now) (λ _ s. Some s.0) (pairs_of c.loop.siblings.items) c.loop.previous c.args.count c.loop.counter c.loop.rest.now (read_each (sibling (layout_of c.args.version) c.args.context.now) (λ _ s. Some s.0) None c.args.count c.args.bytes.now) c.loop-test.false c.loop.invariant
