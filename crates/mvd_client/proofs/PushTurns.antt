-- Pushes to a stored site are turns, and it follows as a side of a session does.
use Rattle.std.proofs.Common.{ℕ, ◌≡◌, ◌≢◌, ◌∙◌, List, [], ◌∷◌, map, Result, ap, refl, sym, subst, inl, inr, arith, false, true, true≢false}
use Rattle.mvd_dots.specs.declared.refusals.Refusal.{Refusal}
use Rattle.mvd_dots.specs.declared.refusals.Refusal.TheVariants.{Broken}
use Rattle.mvd_keys.specs.State.{IsValid, State}
use Rattle.mvd_keys.specs.Writes.{Key}
use Rattle.mvd_wire.specs.declared.reply.Reply.{Reply}
use Rattle.mvd_wire.specs.declared.request.Request.{Request}
use Rattle.mvd_site.specs.Held.{AreHeld}
use Rattle.mvd_peer.specs.PushedStates.{Each}
use Rattle.mvd_peer.specs.Sides.{is_of_question, is_site_refusal, tells_broken}
use Rattle.mvd_peer.specs.Windows.{Asked, EachAnswer, EachTold, Ends, PushesFirst, for_pushes, manner}
use Rattle.mvd_replica.specs.Batch.{AnswersAll}
use Rattle.mvd_replica.specs.Pushes.{push_of}
use Rattle.mvd_replica.specs.Replicas.{site_of, store_of, stored_of}
use Rattle.mvd_replica.specs.Sides.{IsTrueSite, SideFollows}
use Rattle.mvd_replica.specs.declared.replica.Replica.{Replica}
use Rattle.mvd_replica.proofs.Pushed.{answered_follow}
use Rattle.mvd_runs.proofs.Pushing.{side_append, side_none, side_window}
use Rattle.mvd_runs.specs.Sessions.{SideTakes}
use Rattle.mvd_client.specs.Pushing.{EndsPushes, FollowsTurns, TakesThrough}
use Rattle.mvd_client.proofs.Seen.{each_told}
use Rattle.mvd_client.specs.Refusals.{StoredRefuses}
use Rattle.sqlite_trees.specs.declared.store.Store.{Ghosts}

-- one call
one_step : {S : Type 0} {g : Ghosts S} (old new : Replica S g) → SideFollows (stored_of old) (stored_of new) → SideTakes (stored_of old) (stored_of new) → FollowsTurns old new
one_step old new follows takes = record { follows = follows; moments = new ∷ []; takes = (takes, refl) }

-- a window of them, whatever they were told
pub window_turns : {S : Type 0} {g : Ghosts S} (old new : Replica S g) (pairs : List (Key × State)) (requests : List Request) (replies : List Reply) → requests ≡ map push_of pairs → AnswersAll requests replies (stored_of old) (stored_of new)
    → AreHeld (site_of old).states → Each (λ (p : Key × State). IsValid p.1) pairs → FollowsTurns old new
window_turns old new pairs requests replies asked it held valid = one_step old new
    (answered_follow pairs requests replies (site_of old) (site_of new) (store_of old) (store_of new) asked it held valid)
    (side_window pairs replies (site_of old) (site_of new) (store_of old) (store_of new) valid (subst (λ qs. AnswersAll qs replies (stored_of old) (stored_of new)) asked it))

-- calls one after the other are turns
through_takes : {S : Type 0} {g : Ghosts S} (mids : List (Replica S g)) (old new : Replica S g) → TakesThrough old mids new → SideTakes (stored_of old) (stored_of new)
through_takes {S} {g} [] old new same = subst (λ (r : Replica S g). SideTakes (stored_of old) (stored_of r)) (sym same) (side_none (site_of old) (store_of old))
through_takes (mid ∷ mids) old new (takes, later) = side_append (site_of old) (site_of mid) (site_of new) (store_of old) (store_of mid) (store_of new) takes (through_takes mids mid new later)

pub takes_turns : {S : Type 0} {g : Ghosts S} (old new : Replica S g) → FollowsTurns old new → SideTakes (stored_of old) (stored_of new)
takes_turns old new it = through_takes it.moments old new it.takes

-- ---- a window, as a side of a session tells it

module _ {S T : Type 0} {g : Ghosts S} (old new : T) (inner : T → Replica S g) (noted : T → List (Refusal × Unit {0})) (follows : T → T → Type 0) (all : follows old new) (self : follows new new) (pairs : List (Key × State)) where
  abbrev Refuses : T → Refusal → Type 0
  Refuses side refusal = StoredRefuses (site_of (inner side)) (noted side) refusal

  abbrev Answers : T → Type 0
  Answers side = (site_of (inner side)).broken ≡ false

  pub window_asked : (told : List (Result (Unit {0}) Refusal)) → Answers new → EachAnswer (λ _ _. Unit {0}) pairs told → EachTold (Unit {0}) (StoredRefuses (site_of (inner new)) (noted new)) told → Asked (manner (λ _. follows) Refuses Answers) for_pushes pairs told old new
  window_asked told whole each are = record {
    count = all;
    may = each;
    right = λ never. absurd never;
    told = each_told (Unit {0}) _ (StoredRefuses (site_of (inner new)) (noted new)) _ (λ _. (new, (0, all), whole, (0, self))) (λ r refuses. (new, (0, all), refuses, (0, self))) told are;
    not_of_question = λ never. absurd never;
  }

  broken_refuses : (refusal : Refusal) → refusal ≡ Broken → (site_of (inner new)).broken ≡ true → Refuses new refusal
  broken_refuses refusal is broken = (inl (subst (λ r. is_site_refusal r ≡ true) (sym is) refl, broken ∙ sym (ap tells_broken is)), inr (inr is))

  pub ended_by : (most : ℕ) (refusal : Refusal) → EndsPushes (inner old) (inner new) refusal → Ends (λ _. follows) Refuses most old new refusal
  ended_by most refusal (inl (is, same)) = record { count = (0, omega arith, all); cause = inr is }
  ended_by most refusal (inr (is, broken)) = record { count = (0, omega arith, all); cause = inl (new, (0, all), broken_refuses refusal is broken, (0, self)) }

  pub apart_by : (refusal : Refusal) → EndsPushes (inner old) (inner new) refusal → is_of_question refusal ≡ false
  apart_by refusal (inl (is, same)) = ap is_of_question is
  apart_by refusal (inr (is, broken)) = ap is_of_question is

  pub true_by : IsTrueSite (site_of (inner old)) → (refusal : Refusal) → EndsPushes (inner old) (inner new) refusal → refusal ≢ Broken → IsTrueSite (site_of (inner new))
  true_by was refusal (inl (is, same)) other = subst (λ (r : Replica S g). IsTrueSite (site_of r)) (sym same) was
  true_by was refusal (inr (is, broken)) other = absurd (other is)

  -- none of them was pushed, unless the site is broken
  pub first_by : (refusal : Refusal) → EndsPushes (inner old) (inner new) refusal → PushesFirst (IsTrueSite (site_of (inner new))) (site_of (inner old)).config.max_keys (site_of (inner old)).states pairs (site_of (inner new)).states
  first_by refusal (inl (is, same)) = (0, [], (site_of (inner old)).states, refl, λ _. ap (λ (r : Replica S g). (site_of r).states) same)
  first_by refusal (inr (is, broken)) = (0, [], (site_of (inner old)).states, refl, λ still. absurd (true≢false (sym broken ∙ still.0)))
