use Rattle.std.proofs.Common.{◌∙◌, ap, subst, List, ◌∷◌, ◌++◌, []}
use Rattle.std.specs.Prelude.{Result}
use Rattle.mvd_dots.specs.declared.refusals.Refusal.{Refusal}
use Rattle.std.proofs.lemmas.List.{append_assoc}
use Rattle.std.proofs.lemmas.List.Elements.{All-push}
use Rattle.mvd_sync.specs.Questions.{IsOfKey}
use Rattle.mvd_sync.proofs.asking.add_told.Goals as goal

pub loop-answer-preserved : goal.loop-answer-preserved
loop-answer-preserved c = record {
  added =
      let is = c.in_ok-of_key.ensures.same.0 in
      c.in_ok-push.ensures.items ∙ ap (λ (t : Result (Unit {0}) Refusal). c.loop-answer.told.items ++ t ∷ []) is ∙ ap (λ (us : List (Result (Unit {0}) Refusal)). us ++ c.in-Some.answer ∷ []) c.loop-answer.invariant.added ∙ append_assoc c.args.told.now.items c.loop-answer.yielded (c.in-Some.answer ∷ []);
  of_key = All-push IsOfKey c.loop-answer.yielded c.in-Some.answer c.loop-answer.invariant.of_key (subst IsOfKey c.in_ok-of_key.ensures.same.0 c.in_ok-of_key.ensures.same.1);
}
