use Rattle.std.proofs.Common.{◌≡◌, ◌∙◌, ◌∷◌, ◌++◌, [], List, Vec, Global, ap, refl, subst, sym}
use Rattle.mvd_wire.specs.declared.request.Request.{Request}
use Rattle.mvd_host.specs.AtHand.{AllMayWait, asks_of}
use Rattle.mvd_host.specs.Fronts.{waiting_in}
use Rattle.mvd_host.specs.KeptAtHand.{left_of}
use Rattle.mvd_host.specs.declared.front.Asking.{Asking}
use Rattle.mvd_host.proofs.Fronts.{asked_then, may_append, waiting_more}
use Rattle.mvd_host.proofs.at_hand.AtHand.ask_all.Goals as goal

-- the requests stand behind what waits
more : (c : goal.After-push_reserved) → waiting_in c.push_reserved.new.self.items ≡ waiting_in c.self.inside.asking.items ++ asks_of c.args.client c.args.requests.now.items
more c =
    let one : Asking = record { client = c.args.client; requests = c.from.result } in
    waiting_more c.self.inside.asking.items c.push_reserved.new.self.items c.args.client c.args.requests.now.items one
    (c.push_reserved.ensures.items ∙ ap (λ (l : List Asking). l ++ one ∷ []) c.reserve.ensures.items) refl
    (c.from.ensures.0 ∙ ap (λ (v : Vec Request Global). v.items) c.replace-asked.ensures.value)

may : (c : goal.After-push_reserved) → AllMayWait (asks_of c.args.client c.args.requests.now.items)
may c = subst (λ (l : List Request). AllMayWait (asks_of c.args.client l)) c.deref.ensures.value (c.all_may_wait.ensures.all c.if-not-all_may_wait.false)

pub invariant_of-self-2 : goal.invariant_of-self-2
invariant_of-self-2 c =
    subst AllMayWait (sym (more c)) (may_append (waiting_in c.self.inside.asking.items) (asks_of c.args.client c.args.requests.now.items) c.self.invariant (may c))

pub returns-clause-ok : goal.returns-clause-ok
returns-clause-ok c =
    let old = c.self.inside in (
      may c,
      ap (λ (v : Vec Request Global). v.items) c.replace-asked.ensures.after ∙ c.new.ensures.items,
      asked_then old.done.items (waiting_in old.asking.items) (waiting_in c.push_reserved.new.self.items) old.taken.items (left_of old.answered.items old.told old.next) c.args.self.now c.args.client c.args.requests.now.items c.self.view_is (more c),
    )
