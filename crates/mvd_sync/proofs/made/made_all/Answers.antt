use Rattle.std.proofs.Common.{◌≡◌, ◌∷◌, ◌++◌, [], List, sym, subst}
use Rattle.std.specs.Prelude.{Result, Ok}
use Rattle.mvd_dots.specs.declared.refusals.Refusal.{Refusal}
use Rattle.mvd_sync.specs.Made.{PassesFault}
use Rattle.mvd_peer.specs.Windows.{ForEach}
use Rattle.mvd_peer.proofs.OneByOne.{for_each_more}
use Rattle.mvd_sync.proofs.made.made_all.Goals as goal

pub loop-answer-preserved : goal.loop-answer-preserved
loop-answer-preserved g c =
    let M = PassesFault g.B.Made.is_of in
    let was : c.in-Some.answer ≡ Ok c.in_ok-answer.field-0 = c.in_ok-answer.was in
    subst (λ (us : List g.row.B.Denot). ForEach M (c.loop-answer.yielded ++ c.in-Some.answer ∷ []) us)
    (sym c.in_ok-push.ensures.items)
    (for_each_more M c.loop-answer.yielded c.loop-answer.all.items c.in-Some.answer c.in_ok-made.field-0
    c.loop-answer.invariant
    (subst (λ (a : Result g.row.A.Denot Refusal). M a c.in_ok-made.field-0) (sym was) c.in_ok-made.ensures.made))
