-- A replica as a side of a session.
use Rattle.std.proofs.Common.{◌≡◌, ◌∙◌, Bool, true, false, Result, Ok, Err, refl, sym, ap, inl, inr, true≢false, if◌then◌else◌}
use Rattle.std.specs.Result.{IfErr, MatchResult}
use Rattle.mvd_dots.specs.declared.refusals.Refusal.{Refusal}
use Rattle.mvd_dots.specs.declared.refusals.Refusal.TheVariants.{Broken, DotClash, StateTooLarge, Store}
use Rattle.mvd_keys.specs.State.{State, clashes, join}
use Rattle.mvd_keys.specs.Writes.{Key}
use Rattle.mvd_wire.specs.declared.request.Request.{Request}
use Rattle.mvd_wire.specs.declared.request.Request.TheVariants.{Push}
use Rattle.mvd_wire.specs.declared.reply.Reply.{Reply}
use Rattle.mvd_wire.specs.declared.reply.Reply.TheVariants.{Done, Refused}
use Rattle.mvd_site.specs.Config.{ConfigValue}
use Rattle.mvd_site.specs.FromStates.{Broke, answer_from, push_reply, within}
use Rattle.mvd_site.specs.Held.{States, state_at}
use Rattle.mvd_site.specs.Prepared.{is_refusal}
use Rattle.mvd_site.specs.Sites.{SiteValue}
use Rattle.mvd_site.specs.Answer.{is_too_large}
use Rattle.mvd_site.proofs.Answered.{limited_cases}
use Rattle.mvd_site.proofs.Pushes.{PushFacts, push_facts, refusal_is}
use Rattle.mvd_peer.specs.Sides.{SiteRefuses}
use Rattle.mvd_peer.proofs.SiteSides.{push_refuses as site_push_refuses}
use Rattle.sqlite.specs.State.{State as Shown}
use Rattle.mvd_site.specs.Installs.{broken_site}
use Rattle.mvd_replica.specs.Sides.{AnswersFromStored, ReplicaRefuses, StoreRefusedFrom}
use Rattle.mvd_replica.proofs.Positions.{ReplicaFollows}

-- ---- one request, from the states

-- ---- a push

-- an answer to a push that refuses nothing
plain_done : (large clash : Bool) (rest : Reply) → (is_refusal rest ≡ false → rest ≡ Done) → is_refusal (if large then Refused StateTooLarge else if clash then Refused DotClash else rest) ≡ false →
    (if large then Refused StateTooLarge else if clash then Refused DotClash else rest) ≡ Done
plain_done true clash rest is plain = absurd (true≢false plain)
plain_done false true rest is plain = absurd (true≢false plain)
plain_done false false rest is plain = is plain

done_by : (config : ConfigValue) (m : States) (key : Key) (pushed : State) → is_refusal (answer_from config m (Push key pushed)) ≡ false → answer_from config m (Push key pushed) ≡ Done
done_by config m key pushed plain =
    plain_done (is_too_large pushed) (clashes (state_at m key) pushed) (within config m key (join (state_at m key) pushed) Done)
    (limited_cases (λ r. is_refusal r ≡ false → r ≡ Done) config _ _ (join (state_at m key) pushed) Done (λ e. absurd (true≢false e)) (λ e. absurd (true≢false e)) (λ e. refl)) plain

-- the reply to a push, as its result
pub pushed_reply : (old new : SiteValue) (key : Key) (pushed : State) (reply : Reply) (result : Result (Unit {0}) Refusal) → old.broken ≡ false → AnswersFromStored old new (Push key pushed) reply →
    MatchResult result (λ _. is_refusal reply ≡ false) (λ refusal. reply ≡ Refused refusal) → reply ≡ push_reply result
pushed_reply old new key pushed reply (Err refusal) whole answers is = is
pushed_reply old new key pushed reply (Ok done) whole (inr store) plain = absurd (true≢false (ap is_refusal (sym store.told) ∙ plain))
pushed_reply old new key pushed reply (Ok done) whole (inl from) plain = elim (from whole) [
  | inl answered ↦ answered.answers ∙ done_by old.config old.states key pushed (ap is_refusal (sym answered.answers) ∙ plain)
  | inr (inl memory) ↦ absurd (true≢false (ap is_refusal (sym memory.0) ∙ plain))
  | inr (inr broke) ↦ absurd (true≢false (ap is_refusal (sym broke.0) ∙ plain))
]

store_facts : (old new : SiteValue) (key : Key) (pushed : State) (result : Result (Unit {0}) Refusal) → StoreRefusedFrom old new (Push key pushed) (push_reply result) → PushFacts old new key pushed result
store_facts old new key pushed (Ok done) store = let bad : Done ≡ Refused Store = store.told in absurd cc
store_facts old new key pushed (Err refusal) store = let is : refusal ≡ Store = refusal_is refusal Store store.told in record {
  joined = tt;
  agreed = tt;
  clash = λ clash. absurd (let bad : DotClash ≡ Store = sym clash ∙ is in cc);
  unchanged = λ _. store.site;
  told = λ broken. absurd (let bad : Broken ≡ Store = sym broken ∙ is in cc);
}

pub stored_facts : (old new : SiteValue) (key : Key) (pushed : State) (result : Result (Unit {0}) Refusal) → old.broken ≡ false → AnswersFromStored old new (Push key pushed) (push_reply result) → PushFacts old new key pushed result
stored_facts old new key pushed result whole (inl from) = push_facts old new key pushed result whole from
stored_facts old new key pushed result whole (inr store) = store_facts old new key pushed result store

-- ---- what a replica refuses

is_inl : {X : Type 0} (site : SiteValue) (r : Result X Refusal) → IfErr r (SiteRefuses site) → IfErr r (ReplicaRefuses site)
is_inl site (Ok done) refuses = tt
is_inl site (Err refusal) refuses = inl refuses

module _ (old new : SiteValue) (key : Key) (s : State) where
  by_store : (r : Result (Unit {0}) Refusal) → StoreRefusedFrom old new (Push key s) (push_reply r) → IfErr r (ReplicaRefuses new)
  by_store (Ok done) store = tt
  by_store (Err refusal) store = inr (refusal_is refusal Store store.told, ap (λ (v : SiteValue). v.broken) store.site ∙ store.whole)

  pub push_refuses : (r : Result (Unit {0}) Refusal) → AnswersFromStored old new (Push key s) (push_reply r) → IfErr r (λ refusal. refusal ≡ Broken → new ≡ broken_site old) → (old.broken ≡ true → r ≡ Err Broken) →
      IfErr r (ReplicaRefuses new)
  push_refuses r (inl from) told stays = is_inl new r (site_push_refuses old new key s r from told stays)
  push_refuses r (inr store) told stays = by_store r store

-- ---- the records

-- a site that one request breaks
pub broke_by : (old new : SiteValue) (request : Request) (reply : Reply) → old.broken ≡ false → new.broken ≡ true → AnswersFromStored old new request reply → Broke old new request
broke_by old new request reply whole broken (inr store) = absurd (true≢false (sym broken ∙ ap (λ (s : SiteValue). s.broken) store.site ∙ whole))
broke_by old new request reply whole broken (inl from) = elim (from whole) [
  | inl answered ↦ absurd (true≢false (sym broken ∙ ap (λ (s : SiteValue). s.broken) answered.site))
  | inr (inl memory) ↦ absurd (true≢false (sym broken ∙ ap (λ (s : SiteValue). s.broken) memory.1 ∙ whole))
  | inr (inr broke) ↦ broke.1
]

-- the same of any requests of which it holds where the site broke
pub follows_where : (asks wider : Request → Type 0) (old new : SiteValue) (before after : Shown) → (old.broken ≡ false → new.broken ≡ true → (request : Request) → asks request → wider request) →
    ReplicaFollows asks old new before after → ReplicaFollows wider old new before after
follows_where asks wider old new before after widens it = record {
  site = it.site;
  store = record {
    sound = it.store.sound;
    holds = it.store.holds;
    stays = it.store.stays;
    stored = λ sound holds whole broken.
        let was = it.store.stored sound holds whole broken in
        record { request = was.request; asked = widens whole broken was.request was.asked; changes = was.changes; holds = was.holds };
    clean = it.store.clean;
    shut = it.store.shut;
  };
}

pub follows_wider : (asks wider : Request → Type 0) (old new : SiteValue) (before after : Shown) → ((request : Request) → asks request → wider request) → ReplicaFollows asks old new before after → ReplicaFollows wider old new before after
follows_wider asks wider old new before after widens it = follows_where asks wider old new before after (λ _ _. widens) it
