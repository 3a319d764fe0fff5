-- What is done to a replica is turns.
use Rattle.std.proofs.Common.{◌≡◌, ◌∙◌, Bool, true, false, List, [], ◌∷◌, ◌++◌, Result, Ok, refl, sym, ap, subst, inl, inr, true≢false, ⊎_elim}
use Rattle.std.specs.List.{AllByRecursion}
use Rattle.mvd_dots.specs.declared.refusals.Refusal.{Refusal}
use Rattle.mvd_dots.specs.declared.refusals.Refusal.TheVariants.{Broken, Memory, Store}
use Rattle.mvd_keys.specs.Writes.{Write}
use Rattle.mvd_wire.specs.declared.request.Request.{Request}
use Rattle.mvd_wire.specs.declared.reply.Reply.{Reply}
use Rattle.mvd_wire.specs.declared.reply.Reply.TheVariants.{Refused}
use Rattle.mvd_site.specs.Config.{ConfigValue}
use Rattle.mvd_site.specs.Known.{IsValidRequest}
use Rattle.mvd_site.specs.Sites.{SiteValue}
use Rattle.mvd_site.proofs.Pushes.{refusal_is}
use Rattle.mvd_peer.specs.Sides.{SiteFollows}
use Rattle.sqlite.specs.State.{State}
use Rattle.sqlite_trees.specs.declared.store.Store.{Ghosts}
use Rattle.mvd_model.proofs.Refusals.{IsUndone, answer_none}
use Rattle.mvd_replica.specs.declared.replica.Replica.{Replica}
use Rattle.mvd_replica.specs.ReplicaCalls.{ReplicaAnswers}
use Rattle.mvd_replica.specs.Replicas.{site_of, store_of, stored_of}
use Rattle.mvd_replica.specs.Restored.{HasWrites}
use Rattle.mvd_replica.specs.Turns.{IsToldElse, MayReplyStored, RepliesOne, Turn}
use Rattle.mvd_replica.proofs.Batched.{TakesTurns-none}
use Rattle.mvd_replica.proofs.Batching.{HasChoice-turn}
use Rattle.mvd_replica.proofs.Positions.{TakesTurns, TurnsFollow, stored_site}
use Rattle.mvd_replica.proofs.Replying.{HasChoice-append, Replies-append, Replies-one, StandsOn-append, StandsOn-one}
use Rattle.mvd_runs.specs.Calls.{CallsFollow, all_turns}
use Rattle.mvd_runs.specs.Events.{AreTurns}
use Rattle.mvd_runs.specs.Files.{IsValidTurn, WorksBy}
use Rattle.mvd_runs.proofs.Calling.{both, calls_append, calls_none, calls_one, turns_append, turns_one}
use Rattle.mvd_runs.proofs.Pushing.{lost_one}

abbrev pub Works : List (List Turn) → SiteValue → SiteValue → State → State → Type 0
Works calls old new before after = WorksBy calls (stored_site old before) (stored_site new after)

-- calls that took these turns
pub works_calls : (calls : List (List Turn)) (old new : SiteValue) (before after : State) → AllByRecursion IsValidTurn (all_turns calls) → TakesTurns (all_turns calls) old new before after →
    CallsFollow calls (stored_site old before) (stored_site new after) → Works calls old new before after
works_calls calls old new before after valid takes follows = record {
  site = record { replies = takes.replies; stands = takes.stands; config = takes.config; choice = takes.choice };
  valid = valid;
  told = takes.told;
  follows = follows;
}

-- a call, by what is said of its turns
pub works_one : (turns : List Turn) (old new : SiteValue) (before after : State) → AllByRecursion IsValidTurn turns → AreTurns turns old new → (new.broken ≡ false → AllByRecursion IsToldElse turns) → TurnsFollow turns old new before after →
    Works (turns ∷ []) old new before after
works_one turns old new before after valid are told follows = record {
  site = subst (λ (ts : List Turn). AreTurns ts old new) (sym (turns_one turns)) are;
  valid = subst (AllByRecursion IsValidTurn) (sym (turns_one turns)) valid;
  told = λ whole. subst (AllByRecursion IsToldElse) (sym (turns_one turns)) (told whole);
  follows = calls_one turns (stored_site old before) (stored_site new after) follows;
}

pub works_turns : (turns : List Turn) (old new : SiteValue) (before after : State) → AllByRecursion IsValidTurn turns → TakesTurns turns old new before after → Works (turns ∷ []) old new before after
works_turns turns old new before after valid takes =
    works_one turns old new before after valid (record { replies = takes.replies; stands = takes.stands; config = takes.config; choice = takes.choice }) takes.told takes.follows

pub works_none : (site : SiteValue) (s : State) → Works [] site site s s
works_none site s = works_calls [] site site s s tt (TakesTurns-none site s) (calls_none (stored_site site s))

-- ---- one after the other

whole_before : (mid new : SiteValue) (is : Bool) → mid.broken ≡ is → SiteFollows mid new → new.broken ≡ false → mid.broken ≡ false
whole_before mid new false is follows whole = is
whole_before mid new true is follows whole = absurd (true≢false (sym is ∙ sym (ap (λ (s : SiteValue). s.broken) (follows.1 is)) ∙ whole))

pub works_append : (first second : List (List Turn)) (old mid new : SiteValue) (before between after : State) → Works first old mid before between → Works second mid new between after → Works (first ++ second) old new before after
works_append first second old mid new before between after one other = record {
  site = subst (λ (ts : List Turn). AreTurns ts old new) (sym (turns_append first second)) (record {
    replies = Replies-append old mid new (all_turns first) (all_turns second) one.site.config one.site.replies other.site.replies;
    stands = StandsOn-append old mid new (all_turns first) (all_turns second) one.site.stands other.site.stands;
    config = other.site.config ∙ one.site.config;
    choice = HasChoice-append (all_turns first) (all_turns second) one.site.choice other.site.choice;
  });
  valid = subst (AllByRecursion IsValidTurn) (sym (turns_append first second)) (both IsValidTurn (all_turns first) (all_turns second) one.valid other.valid);
  told = λ whole. subst (AllByRecursion IsToldElse) (sym (turns_append first second))
      (both IsToldElse (all_turns first) (all_turns second) (one.told (whole_before mid new mid.broken refl other.follows.site whole)) (other.told whole));
  follows = calls_append first second (stored_site old before) (stored_site mid between) (stored_site new after) one.follows other.follows one.told;
}

-- ---- a request that was asked

broken_told : (c : ConfigValue) (known : List Write) (was is : Bool) (request : Request) (reply : Reply) → MayReplyStored c known was request reply is → was ≡ false → is ≡ true → reply ≡ Refused Broken
broken_told c known false true request reply (inl may) whole broken = may.0
broken_told c known false true request reply (inr store) whole broken = absurd (true≢false store.still)
broken_told c known false false request reply may whole broken = cc
broken_told c known true is request reply may whole broken = cc

whole_told : (c : ConfigValue) (known : List Write) (was is : Bool) (request : Request) (reply : Reply) → MayReplyStored c known was request reply is → is ≡ false → reply ≡ Refused Broken → ⊥
whole_told c known false false request reply (inl may) whole told = ⊎_elim
    (λ answers. answer_none c known request (subst IsUndone (sym told ∙ answers) tt))
    (λ memory. let is : Broken ≡ Memory = refusal_is Broken Memory (sym told ∙ memory) in absurd cc)
    may
whole_told c known false false request reply (inr store) whole told = let is : Broken ≡ Store = refusal_is Broken Store (sym told ∙ store.told) in absurd cc
whole_told c known true false request reply (inl may) whole told = absurd may
whole_told c known true false request reply (inr store) whole told = absurd (true≢false store.whole)
whole_told c known was true request reply may whole told = absurd (true≢false whole)

module _ {S : Type 0} {g : Ghosts S} (old new : Replica S g) (request : Request) (reply : Reply) (valid : IsValidRequest request) (writes : HasWrites (site_of old)) (it : ReplicaAnswers old new request reply) where
  abbrev turn : Turn
  turn = record { asked = Ok request; reply = reply }

  may : MayReplyStored (site_of old).config writes.0 (site_of old).broken request reply (site_of new).broken
  may = it.replies.replies writes.0 (λ _. writes.1)

  one : RepliesOne (site_of old) (site_of new) turn
  one = record {
    replies = λ known stands. inl (it.replies.replies known stands);
    stands = λ known added stands adds. it.replies.stands known added stands adds;
    keeps = λ known added stands adds. it.keeps known added stands adds;
  }

  follows_one : TurnsFollow (turn ∷ []) (site_of old) (site_of new) (store_of old) (store_of new)
  follows_one = record {
    config = it.follows.site.0;
    still = it.follows.site.1;
    sound = it.follows.store.sound;
    holds = it.follows.store.holds;
    stays = it.follows.store.stays;
    stored = λ sound holds whole broken.
        lost_one request reply (site_of new) (store_of new).committed (broken_told (site_of old).config writes.0 (site_of old).broken (site_of new).broken request reply may whole broken)
        (it.follows.store.stored sound holds whole broken);
    clean = it.follows.store.clean;
    shut = it.follows.store.shut;
    leaves = it.leaves;
  }

  the_request : (other : Request) → ◌≡◌ {A = Result Request Refusal} (Ok request) (Ok other) → other ≡ request
  the_request other e = cc

  pub works_asked : WorksBy ((turn ∷ []) ∷ []) (stored_of old) (stored_of new)
  works_asked = record {
    site = record {
      replies = Replies-one (site_of old) (site_of new) turn one;
      stands = StandsOn-one (site_of old) (site_of new) turn one;
      config = it.follows.site.0;
      choice = HasChoice-turn (Ok request) reply it.choice;
    };
    valid = ((λ other is. subst IsValidRequest (sym (the_request other is)) valid), tt);
    told = λ whole. ((λ other is. whole_told (site_of old).config writes.0 (site_of old).broken (site_of new).broken request reply may whole is.1), tt);
    follows = calls_one (turn ∷ []) (stored_of old) (stored_of new) follows_one;
  }

  -- and there are writes that the site then stands for
  pub writes_then : HasWrites (site_of new)
  writes_then = (writes.0 ++ it.choice.0, it.keeps writes.0 it.choice.0 writes.1 it.choice.1)
