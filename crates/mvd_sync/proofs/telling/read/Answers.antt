use Rattle.std.proofs.Common.{ap, arith, refl}
use Rattle.mvd_sync.specs.Tellings.{as_list, of_answer, of_number, of_questions}
use Rattle.mvd_sync.proofs.telling.read.Goals as goal

pub returns-then-len-share : goal.returns-then-len-share
returns-then-len-share g c =
    of_number c.in-Ok.answers.items (ap as_list c.in-Ok.is)
    (λ e. let m = c.len.ensures in let k = c.in-Ok.answers.ok.0 in let n = c.if-len-share.true in absurd (omega (arith, m, k, n, e))) refl

pub returns-in-Err-made_all : goal.returns-in-Err-made_all
returns-in-Err-made_all g c = of_answer c.in-Ok.answers.items (ap as_list c.in-Ok.is) c.in-Err-made_all.ensures.ended

pub returns-in-Err-are_all : goal.returns-in-Err-are_all
returns-in-Err-are_all g c = of_questions c.in-Ok.answers.items (ap as_list c.in-Ok.is) c.in-Err-are_all.ensures.few.1 c.in-Err-are_all.ensures.few.0

pub returns-in-Ok-are_all : goal.returns-in-Ok-are_all
returns-in-Ok-are_all g c =
    let m = c.len.ensures in
    let k = c.in-Ok.answers.ok.0 in
    let n = c.if-len-share.false in
    record {
      answers = c.in-Ok.answers.items;
      is = ap as_list c.in-Ok.is;
      counted = omega (arith, m, k, n);
      whole = c.in-Ok-are_all.ensures.all;
      each = c.in-Ok-made_all.ensures.made;
    }
