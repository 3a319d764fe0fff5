use Rattle.std.proofs.Common.{◌≡◌, ◌∙◌, ◌++◌, map, ap, refl, sym, subst, inl, inr, false}
use Rattle.mvd_peer.specs.Windows.{EachAnswer, EachTold, Pushes}
use Rattle.mvd_peer.proofs.OneByOne.{at_err}
use Rattle.mvd_replica.specs.Pushes.{told_of}
use Rattle.mvd_replica.specs.Batch.{AnswersAll}
use Rattle.mvd_replica.specs.Replicas.{site_of, store_of, stored_of}
use Rattle.mvd_replica.specs.Sides.{ReplicaRefuses}
use Rattle.mvd_replica.specs.declared.replica.Replica.{Replica}
use Rattle.mvd_replica.proofs.Commits.{answers_all}
use Rattle.mvd_replica.proofs.Pushed.{answered_each, answered_told}
use Rattle.mvd_replica.proofs.PushedLive.{answered_live}
use Rattle.mvd_peer.specs.Telling.{TellsEach, TellsPush}
use Rattle.mvd_client.proofs.PushTurns.{window_turns}
use Rattle.mvd_client.specs.Pushing.{FollowsTurns, turns_self}
use Rattle.mvd_client.proofs.pushing.push_all.Goals as goal

pub returns-in_err-told-clause-ended : goal.returns-in_err-told-clause-ended
returns-in_err-told-clause-ended g c = at_err _ _ _ c.from_residual.ensures (λ e is. inl (is, refl))

pub returns-in_err-told-clause-turns : goal.returns-in_err-told-clause-turns
returns-in_err-told-clause-turns g c = turns_self c.args.replica.now

pub returns-in_err-requests-clause-ended : goal.returns-in_err-requests-clause-ended
returns-in_err-requests-clause-ended g c = at_err _ _ _ c.from_residual-in_err-requests.ensures (λ e is. inl (is ∙ c.in_err-requests.ensures.memory, refl))

pub returns-in_err-requests-clause-turns : goal.returns-in_err-requests-clause-turns
returns-in_err-requests-clause-turns g c = turns_self c.args.replica.now

pub returns-in_err-replies-clause-ended : goal.returns-in_err-replies-clause-ended
returns-in_err-replies-clause-ended g c =
    at_err _ _ _ c.from_residual-in_err-replies.ensures (λ e is. inl (is ∙ c.in_err-replies.ensures.memory.0, c.in_err-replies.ensures.memory.1))

pub returns-in_err-replies-clause-turns : goal.returns-in_err-replies-clause-turns
returns-in_err-replies-clause-turns g c =
    subst (λ (r : Replica _ _). FollowsTurns c.args.replica.now r) (sym c.in_err-replies.ensures.memory.1) (turns_self c.args.replica.now)

pub returns-then-is_broken-clause-ended : goal.returns-then-is_broken-clause-ended
returns-then-is_broken-clause-ended g c = inr (refl, sym c.is_broken.ensures ∙ c.if-is_broken.true)

pub returns-then-is_broken-clause-turns : goal.returns-then-is_broken-clause-turns
returns-then-is_broken-clause-turns g c =
    window_turns c.args.replica.now c.answer_all.new.self c.args.pairs.now c.deref.result.now c.in_ok-replies.replies.items
    (c.deref.ensures.value ∙ c.in_ok-requests.ensures.pushes) (answers_all _ _ _ _ c.in_ok-replies.ensures.answers) c.stands.ensures.held c.in_ok-requests.ensures.valid

pub returns-clause-turns : goal.returns-clause-turns
returns-clause-turns g c =
    window_turns c.args.replica.now c.answer_all.new.self c.args.pairs.now c.deref.result.now c.in_ok-replies.replies.items
    (c.deref.ensures.value ∙ c.in_ok-requests.ensures.pushes) (answers_all _ _ _ _ c.in_ok-replies.ensures.answers) c.stands.ensures.held c.in_ok-requests.ensures.valid

pub returns-clause-told : goal.returns-clause-told
returns-clause-told g c =
    let old = c.args.replica.now in
    let new = c.answer_all.new.self in
    let whole : (site_of new).broken ≡ false = sym c.is_broken.ensures ∙ c.if-is_broken.false in
    let asked = c.deref.ensures.value ∙ c.in_ok-requests.ensures.pushes in
    let all = answers_all _ _ _ _ c.in_ok-replies.ensures.answers in
    let told = answered_told c.args.pairs.now c.deref.result.now c.in_ok-replies.replies.items (site_of old) (site_of new) (store_of old) (store_of new) asked all c.stands.ensures.held c.in_ok-requests.ensures.valid whole in
    let each = answered_each c.args.pairs.now c.deref.result.now c.in_ok-replies.replies.items (site_of old) (site_of new) (store_of old) (store_of new) asked all c.stands.ensures.held c.in_ok-requests.ensures.valid in
    let items : c.add_told.new.told.items ≡ map told_of c.in_ok-replies.replies.items = c.add_told.ensures.told ∙ ap (λ l. l ++ map told_of c.in_ok-replies.replies.items) c.in_ok-told.ensures.items in
    record {
      whole = whole;
      alike = (c.in_ok-replies.replies.items, items, subst (λ qs. AnswersAll qs c.in_ok-replies.replies.items (stored_of old) (stored_of new)) asked all);
      each = subst (EachAnswer (λ _ _. Unit {0}) c.args.pairs.now) (sym items) each;
      told = subst (EachTold (Unit {0}) (ReplicaRefuses (site_of new))) (sym items) told.1;
      pushes = λ was. ((whole, c.stands-2.ensures.held), subst (λ ts. Pushes (site_of old).config.max_keys (site_of old).states c.args.pairs.now ts (site_of new).states) (sym items) told.0);
      live = λ was.
          let tells = answered_live c.args.pairs.now c.deref.result.now c.in_ok-replies.replies.items (site_of old) (site_of new) (store_of old) (store_of new) asked all c.stands.ensures.held c.stands-2.ensures.held c.in_ok-requests.ensures.valid whole in
          ((whole, c.stands-2.ensures.held), tells.0, subst (λ ts. TellsEach (TellsPush (site_of old).config.max_keys) c.args.pairs.now ts (site_of old).states tells.0 (site_of new).states) (sym items) tells.1);
    }
