use Rattle.std.proofs.Common.{◌&&◌, get_or, eqb, sym, ap, ◌∙◌, add-one, arith}
use Rattle.std.proofs.lemmas.List.{take_all}
use Rattle.mvd_conn.proofs.Guarded.{same_more}
use Rattle.mvd_conn.proofs.passes.are_same.Goals as goal

pub loop-i-preserved : goal.loop-i-preserved
loop-i-preserved c =
    let first = c.args.first.now in
    let second = c.args.second.now in
    let more = same_more first second c.loop-i.i (omega arith) (omega arith) in
    ap (λ same. same && eqb (get_or first c.loop-i.i 0) (get_or second c.loop-i.i 0)) c.loop-i.invariant ∙ rw add-one (sym more)

pub returns : goal.returns
returns c =
    let first = take_all c.loop-i.i c.args.first.now (omega arith) in
    let second = take_all c.loop-i.i c.args.second.now (omega arith) in
    rw (first, second) at c.loop-i.invariant
