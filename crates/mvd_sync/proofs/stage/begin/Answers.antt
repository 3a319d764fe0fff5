use Rattle.std.proofs.Common.{refl, subst}
use Rattle.mvd_sync.specs.Questions.{IsWindow}
use Rattle.mvd_sync.proofs.stage.begin.Goals as goal

pub returns-clause-begins : goal.returns-clause-begins
returns-clause-begins c = record {
  turn = c.in_ok-turn.turn;
  count = c.window-count.result;
  begun = c.in_ok-turn.ensures.begins;
  window = subst (λ ps. IsWindow ps c.window-count.result) c.rest.ensures c.window-count.ensures;
  is = refl;
}
