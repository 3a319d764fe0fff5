use Rattle.std.proofs.Common.{◌≡◌, ◌∙◌, ◌∷◌, ◌++◌, [], List, ap, refl, subst, sym}
use Rattle.mvd_wire.specs.declared.request.Request.{Request}
use Rattle.mvd_host.specs.AtHand.{AllMayWait, asks_of}
use Rattle.mvd_host.specs.Fronts.{waiting_in}
use Rattle.mvd_host.specs.KeptAtHand.{left_of}
use Rattle.mvd_host.specs.declared.front.Asking.{Asking}
use Rattle.mvd_host.proofs.Fronts.{asked_then, may_append, waiting_more}
use Rattle.mvd_host.proofs.at_hand.AtHand.ask.Goals as goal

-- the request stands behind what waits
more : (c : goal.After-push_reserved-2) → waiting_in c.push_reserved-2.new.self.items ≡ waiting_in c.self.inside.asking.items ++ asks_of c.args.client (c.args.request ∷ [])
more c =
    let one : Asking = record { client = c.args.client; requests = c.from.result } in
    waiting_more c.self.inside.asking.items c.push_reserved-2.new.self.items c.args.client (c.args.request ∷ []) one
    (c.push_reserved-2.ensures.items ∙ ap (λ (l : List Asking). l ++ one ∷ []) c.reserve.ensures.items) refl
    (c.from.ensures.0 ∙ c.push_reserved.ensures.items ∙ ap (λ (l : List Request). l ++ c.args.request ∷ []) c.in_ok-requests.ensures.items)

pub invariant_of-self-2 : goal.invariant_of-self-2
invariant_of-self-2 c =
    subst AllMayWait (sym (more c)) (may_append (waiting_in c.self.inside.asking.items) (asks_of c.args.client (c.args.request ∷ [])) c.self.invariant (c.may_wait.ensures.0 c.if-not-may_wait.false, tt))

pub returns-clause-ok : goal.returns-clause-ok
returns-clause-ok c =
    let old = c.self.inside in (
      c.may_wait.ensures.0 c.if-not-may_wait.false,
      asked_then old.done.items (waiting_in old.asking.items) (waiting_in c.push_reserved-2.new.self.items) old.taken.items (left_of old.answered.items old.told old.next) c.args.self.now c.args.client (c.args.request ∷ []) c.self.view_is (more c),
    )
