use Rattle.std.proofs.Common.{◌≡◌, ℕ, List, Ok, take, arith, ap, ◌∙◌}
use Rattle.std.proofs.lemmas.Result.{err_from_is_err_and}
use Rattle.std.proofs.lemmas.List.{length-set, take_all, take_more_set}
use Rattle.mvd_wire.specs.Codec.{read_each}
use Rattle.mvd_wire.specs.Rows.{item_of, digest}
use Rattle.mvd_wire.proofs.Loops.{goes_on, ends, is_done}
use Rattle.mvd_frames.proofs.lists.sixteen_digests_at.Goals as goal

pub returns-in_err-digest : goal.returns-in_err-digest
returns-in_err-digest c =
    let p = err_from_is_err_and c.from_residual.result c.from_residual.ensures.1 in
    rw (p.1, p.2) (ends (item_of digest) (λ s _. s) c.in_err-digest.field-0.0 (take c.loop-i.i c.loop-i.digests) tt 16 c.loop-i.i c.loop-i.rest.now (read_each (item_of digest) (λ s _. s) tt 16 c.args.bytes.now) c.loop-i-test.true c.in_err-digest.ensures c.loop-i.invariant.so_far)

pub loop-i-preserved : goal.loop-i-preserved
loop-i-preserved c = record {
  sixteen = length-set c.loop-i.digests c.loop-i.i c.in_ok-digest.digest ∙ c.loop-i.invariant.sixteen;
  so_far = rw (take_more_set c.loop-i.digests c.loop-i.i c.in_ok-digest.digest (omega (arith, c.loop-i.invariant.sixteen, c.loop-i-test.true))) (goes_on (item_of digest) (λ s _. s) (take c.loop-i.i c.loop-i.digests) tt 16 c.loop-i.i c.loop-i.rest.now c.in_ok-digest.digest c.in_ok-digest.after.now (read_each (item_of digest) (λ s _. s) tt 16 c.args.bytes.now) c.loop-i-test.true c.in_ok-digest.ensures c.loop-i.invariant.so_far);
}

pub returns : goal.returns
returns c =
    let all : take c.loop-i.i c.loop-i.digests ≡ c.loop-i.digests = take_all c.loop-i.i c.loop-i.digests (omega (arith, c.loop-i.invariant.sixteen, c.loop-i-test.false)) in
    is_done (item_of digest) (λ s _. s) (take c.loop-i.i c.loop-i.digests) tt 16 c.loop-i.i c.loop-i.rest.now (read_each (item_of digest) (λ s _. s) tt 16 c.args.bytes.now) c.loop-i-test.false c.loop-i.invariant.so_far ∙ ap (λ (ds : List (List ℕ)). Ok (ds, c.loop-i.rest.now)) all
