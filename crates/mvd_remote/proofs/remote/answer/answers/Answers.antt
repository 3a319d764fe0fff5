use Rattle.std.proofs.Common.{◌∷◌, ◌++◌, [], List, sym, subst}
use Rattle.std.specs.Prelude.{Result}
use Rattle.mvd_dots.specs.declared.refusals.Refusal.{Refusal}
use Rattle.mvd_remote.specs.LinkWindows.{IsToldBy}
use Rattle.mvd_remote.specs.Lines.{LeavesNothingOpen}
use Rattle.mvd_peer.specs.Windows.{ForEach}
use Rattle.mvd_peer.proofs.OneByOne.{for_each_more}
use Rattle.mvd_remote.proofs.remote.answer.answers.Goals as goal

pub loop-reply-preserved : goal.loop-reply-preserved
loop-reply-preserved g c = record {
  told = subst (λ (us : List (Result g.row.A.Denot Refusal)). ForEach (IsToldBy g.A.Answer.as_reply) (c.loop-reply.yielded ++ c.in-Some.reply ∷ []) us) (sym c.in_ok-push.ensures.items)
      (for_each_more (IsToldBy g.A.Answer.as_reply) c.loop-reply.yielded c.loop-reply.told.items c.in-Some.reply c.in_ok-answer_of.field-0 c.loop-reply.invariant.told c.in_ok-answer_of.ensures.told);
  settled = subst (λ (us : List (Result g.row.A.Denot Refusal)). ForEach (LeavesNothingOpen g.A.Answer.gives_up) (c.loop-reply.yielded ++ c.in-Some.reply ∷ []) us) (sym c.in_ok-push.ensures.items)
      (for_each_more (LeavesNothingOpen g.A.Answer.gives_up) c.loop-reply.yielded c.loop-reply.told.items c.in-Some.reply c.in_ok-answer_of.field-0 c.loop-reply.invariant.settled c.in_ok-answer_of.ensures.settled);
}
