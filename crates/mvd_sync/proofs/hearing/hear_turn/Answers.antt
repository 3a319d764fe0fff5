use Rattle.std.proofs.Common.{◌∙◌, ap, arith, refl, subst, sym}
use Rattle.mvd_sync.specs.Machines.{of_answer, of_number, of_questions}
use Rattle.mvd_sync.specs.Questions.{IsWindow}
use Rattle.mvd_sync.specs.Tellings.{as_list}
use Rattle.mvd_sync.proofs.hearing.hear_turn.Goals as goal

pub returns-then-len-share-clause-ended : goal.returns-then-len-share-clause-ended
returns-then-len-share-clause-ended c =
    of_number c.in-Ok.answers.items (sym c.pushes_in.ensures ∙ ap as_list c.in-Ok.is)
    (λ e. let m = c.len.ensures in let k = c.in-Ok.answers.ok.0 in let n = c.if-len-share.true in absurd (omega (arith, m, k, n, e))) refl

pub returns-in-Err-hear-clause-ended : goal.returns-in-Err-hear-clause-ended
returns-in-Err-hear-clause-ended c = of_answer c.in-Ok.answers.items (sym c.pushes_in.ensures ∙ ap as_list c.in-Ok.is) c.in-Err-hear.ensures.other

pub returns-in-Err-are_all-clause-ended : goal.returns-in-Err-are_all-clause-ended
returns-in-Err-are_all-clause-ended c =
    of_questions c.in-Ok.answers.items (sym c.pushes_in.ensures ∙ ap as_list c.in-Ok.is) c.in-Err-are_all.ensures.few.1 c.in-Err-are_all.ensures.few.0

pub returns-clause-pushed : goal.returns-clause-pushed
returns-clause-pushed c =
    let m = c.len.ensures in
    let k = c.in-Ok.answers.ok.0 in
    let n = c.if-len-share.false in
    record {
      answers = c.in-Ok.answers.items;
      is = sym c.pushes_in.ensures ∙ ap as_list c.in-Ok.is;
      counted = omega (arith, m, k, n);
      whole = c.in-Ok-are_all.ensures.all;
      of_key = c.in-Ok-hear.ensures.of_key;
      after = c.hear.new.self;
      count = c.window-count.result;
      more = c.in-Ok-hear.ensures.told;
      same = c.in-Ok-hear.ensures.same;
      window = subst (λ ps. IsWindow ps c.window-count.result) c.rest.ensures c.window-count.ensures;
      goes = refl;
    }
