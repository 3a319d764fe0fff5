-- Many pushes to a replica at once: what the turns do to its states, what they tell, and its records.
use Rattle.std.proofs.Common.{arith, ◌≡◌, ◌∙◌, ◌&&◌, ◌==◌, Bool, true, false, cond, length, List, [], ◌∷◌, ◌++◌, map, Some, None, Result, Ok, Err, refl, sym, ap, subst, inl, inr, true≢false, if◌then◌else◌}
use Rattle.std.specs.Prelude.{unwrap_or}
use Rattle.std.specs.List.{AllByRecursion}
use Rattle.std.proofs.lemmas.List.{length-map}
use Rattle.std.specs.Result.{IfErr, MatchResult, OnOk}
use Rattle.std.specs.FinMap.{get, insert, remove, len, get-remove, same_map}
use Rattle.std.specs.Ordering.{nat_cmp, eq_by_cmp}
use Rattle.std.specs.Cmp.{Equal-is}
use Rattle.std.specs.Cmp.Lexicographic.{slice_cmp, nat_list_cmp_total}
use Rattle.mvd_dots.specs.declared.refusals.Refusal.{Refusal}
use Rattle.mvd_dots.specs.declared.refusals.Refusal.TheVariants.{Store}
use Rattle.mvd_keys.specs.State.{IsValid, State, clashes, empty_state, join}
use Rattle.mvd_keys.specs.Writes.{Key, is_empty}
use Rattle.mvd_keys.proofs.Lists.{IsValid-empty, IsValid-join, join-empty, state_of_empty}
use Rattle.mvd_tree.proofs.Under.{keys_same}
use Rattle.mvd_wire.specs.declared.request.Request.{Request}
use Rattle.mvd_wire.specs.declared.request.Request.TheVariants.{Push}
use Rattle.mvd_wire.specs.declared.reply.Reply.{Reply}
use Rattle.mvd_wire.specs.declared.reply.Reply.TheVariants.{Refused}
use Rattle.mvd_kept.proofs.HeldMaps.{held_inserted}
use Rattle.mvd_site.specs.FromStates.{push_reply, with_state}
use Rattle.mvd_site.specs.Held.{AreHeld, States, state_at}
use Rattle.mvd_site.specs.Prepared.{is_refusal}
use Rattle.mvd_site.specs.Sites.{SiteValue}
use Rattle.mvd_site.proofs.Pushes.{PushFacts, refusal_is}
use Rattle.mvd_peer.specs.PushedStates.{ComesByPushes, Each, is_nothing, put_state, pushed}
use Rattle.mvd_peer.specs.Windows.{CannotTake, EachAnswer, EachTold, Pushes}
use Rattle.mvd_peer.proofs.JoinLaws.{nothing_empty}
use Rattle.mvd_peer.proofs.ManyPushes.{one_push, pushes-append}
use Rattle.mvd_peer.proofs.Pushes.{more_pushes, no_pushes}
use Rattle.mvd_peer.proofs.SiteSides.{is_broken, push_cause}
use Rattle.mvd_replica.specs.Batch.{AnswersOneFrom, AreAmongTurns, HoldsLost, TakesAllFrom, TakesFrom}
use Rattle.mvd_replica.specs.Pushes.{push_of, told_of}
use Rattle.mvd_replica.specs.Sides.{AnswersFromStored, ArePushes, HoldsPushed, IsPush, ReplicaRefuses}
use Rattle.mvd_replica.specs.Whole.{leaves_wider}
use Rattle.mvd_replica.specs.Turns.{AreUndoneIn, Turn}
use Rattle.mvd_replica.proofs.Positions.{AnswersAll, SideFollows, TurnsFollow}
use Rattle.mvd_replica.proofs.Batching.{stays_from, stored_from, whole_all}
use Rattle.mvd_replica.proofs.Sides.{push_refuses, pushed_reply, stored_facts}
use Rattle.sqlite.specs.Effect.{Database}
use Rattle.sqlite.specs.State.{State as Shown}

-- ---- states that have been seen

-- each state that is held has seen a dot, and its siblings' dots
pub record AreSeen (m : States) : Type 0 where
  pub seen : (key : Key) (s : State) → get m key ≡ Some s → is_empty s.context ≡ false
  pub valid : (key : Key) (s : State) → get m key ≡ Some s → IsValid s

pub held_seen : (m : States) → AreHeld m → AreSeen m
held_seen m held = record { seen = λ key s found. (held.held key s found).seen; valid = held.valid }

valid_at : (m : States) → AreSeen m → (key : Key) → IsValid (state_at m key)
valid_at m seen key =
    elim (get m key) as (λ o. get m key ≡ o → IsValid (unwrap_or o empty_state)) [
      | None ↦ λ _. IsValid-empty
      | Some s ↦ λ e. seen.valid key s e
    ] refl

not_held : (m : States) (key : Key) → AreSeen m → is_empty (state_at m key).context ≡ true → get m key ≡ None
not_held m key seen none =
    elim (get m key) as (λ o. get m key ≡ o → is_empty (unwrap_or o empty_state).context ≡ true → o ≡ None) [
      | None ↦ λ _ _. refl
      | Some s ↦ λ e n. absurd (true≢false (sym n ∙ seen.seen key s e))
    ] refl none

removed_same : (m : States) (key : Key) → get m key ≡ None → m ≡ remove m key
removed_same m key none = same_map nat_list_cmp_total keys_same _ _ (λ q. sym (get-remove nat_list_cmp_total m key q
    ∙ elim (eq_by_cmp (slice_cmp nat_cmp) q key) as (λ b. eq_by_cmp (slice_cmp nat_cmp) q key ≡ b → cond b None (get m q) ≡ get m q) [
      | true ↦ λ tie. sym (ap (get m) (keys_same q key ((Equal-is _).0 tie)) ∙ none)
      | false ↦ λ _. refl
    ] refl))

not_nothing : (s : State) → is_empty s.context ≡ false → is_nothing s ≡ false
not_nothing s e = ap (λ b. (len s.siblings == 0) && b) e ∙ elim (len s.siblings == 0) as (λ b. (b && false) ≡ false) [ true ↦ refl | false ↦ refl ]

-- what a site puts in is what was pushed
put_pushed : (m : States) (key : Key) (s : State) → AreSeen m → IsValid s → with_state m key (join (state_at m key) s) ≡ pushed m key s
unfolding pushed put_state
put_pushed m key s seen valid =
    let mine = valid_at m seen key in
    let new = join (state_at m key) s in
    elim (is_empty new.context) as (λ b. is_empty new.context ≡ b → (if b then m else insert m key new) ≡ cond (is_nothing new) (remove m key) (insert m key new)) [
      | true ↦ λ none.
          let nothing : is_nothing new ≡ true = ap is_nothing (state_of_empty new none (IsValid-join (state_at m key) s mine valid)) ∙ nothing_empty in
          let was : is_empty (state_at m key).context ≡ true = ap (λ (t : State). is_empty t.context) (sym (join-empty (state_at m key) s mine valid none)) ∙ none in
          removed_same m key (not_held m key seen was) ∙ sym (ap (λ b. cond b (remove m key) (insert m key new)) nothing)
      | false ↦ λ is. sym (ap (λ b. cond b (remove m key) (insert m key new)) (not_nothing new is))
    ] refl

seen_put : (m : States) (key : Key) (s : State) → AreSeen m → IsValid s → AreSeen (with_state m key (join (state_at m key) s))
seen_put m key s seen valid =
    let new = join (state_at m key) s in
    elim (is_empty new.context) as (λ b. is_empty new.context ≡ b → AreSeen (if b then m else insert m key new)) [
      | true ↦ λ _. seen
      | false ↦ λ is. record {
        seen = held_inserted (λ (x : State). is_empty x.context ≡ false) m key new seen.seen is;
        valid = held_inserted IsValid m key new seen.valid (IsValid-join (state_at m key) s (valid_at m seen key) valid);
      }
    ] refl

-- ---- one push

-- why a stored site refuses a push
pub cause_stored : (old new : SiteValue) (key : Key) (s : State) → old.broken ≡ false → (r : Result (Unit {0}) Refusal) → AnswersFromStored old new (Push key s) (push_reply r) → IfErr r (CannotTake old.config.max_keys old.states key s)
cause_stored old new key s whole r (inl from) = push_cause old new key s whole r from
cause_stored old new key s whole (Ok done) (inr store) = tt
cause_stored old new key s whole (Err refusal) (inr store) = subst (CannotTake old.config.max_keys old.states key s) (sym (refusal_is refusal Store store.told)) tt

told_matches : (reply : Reply) → MatchResult (told_of reply) (λ _. is_refusal reply ≡ false) (λ refusal. reply ≡ Refused refusal)
told_matches (Refused refusal) = refl
told_matches reply = refl

abbrev Told : Type 0
Told = Result (Unit {0}) Refusal

-- what one turn is told, and the states after it
pub record Pushes1 (old new : SiteValue) (p : Key × State) (r : Told) : Type 0 where
  pub ok : OnOk r (new.states ≡ pushed old.states p.0 p.1)
  pub apart : OnOk r (clashes (state_at old.states p.0) p.1 ≡ false)
  pub same : IfErr r (λ _. new.states ≡ old.states)
  pub cause : IfErr r (CannotTake old.config.max_keys old.states p.0 p.1)
  pub refuses : IfErr r (ReplicaRefuses new)
  pub config : new.config ≡ old.config
  pub seen : AreSeen new.states

module _ (old new : SiteValue) (p : Key × State) (seen : AreSeen old.states) (valid : IsValid p.1) where
  by_facts : old.broken ≡ false → (r : Told) → AnswersFromStored old new (Push p.0 p.1) (push_reply r) → PushFacts old new p.0 p.1 r → Pushes1 old new p r
  by_facts whole (Ok done) answers facts =
      let put : new.states ≡ with_state old.states p.0 (join (state_at old.states p.0) p.1) = ap (λ (v : SiteValue). v.states) facts.joined in
      record {
        ok = put ∙ put_pushed old.states p.0 p.1 seen valid;
        apart = facts.agreed;
        same = tt;
        cause = tt;
        refuses = tt;
        config = ap (λ (v : SiteValue). v.config) facts.joined;
        seen = subst AreSeen (sym put) (seen_put old.states p.0 p.1 seen valid);
      }
  by_facts whole (Err refusal) answers facts =
      let still : (new.config ≡ old.config) × (new.states ≡ old.states) = elim (is_broken refusal) [
        | inl is ↦ (ap (λ (v : SiteValue). v.config) (facts.told is), ap (λ (v : SiteValue). v.states) (facts.told is))
        | inr other ↦ (ap (λ (v : SiteValue). v.config) (facts.unchanged other), ap (λ (v : SiteValue). v.states) (facts.unchanged other))
      ] in
      record {
        ok = tt;
        apart = tt;
        same = still.1;
        cause = cause_stored old new p.0 p.1 whole (Err refusal) answers;
        refuses = push_refuses old new p.0 p.1 (Err refusal) answers facts.told (λ broken. absurd (true≢false (sym broken ∙ whole)));
        config = still.0;
        seen = subst AreSeen (sym still.1) seen;
      }

  pub one_turn : old.broken ≡ false → (reply : Reply) → AnswersOneFrom old new (push_of p) reply → Pushes1 old new p (told_of reply)
  one_turn whole reply one =
      let told : reply ≡ push_reply (told_of reply) = pushed_reply old new p.0 p.1 reply (told_of reply) whole (stored_from one) (told_matches reply) in
      let answers : AnswersFromStored old new (Push p.0 p.1) (push_reply (told_of reply)) = subst (AnswersFromStored old new (Push p.0 p.1)) told (stored_from one) in
      by_facts whole (told_of reply) answers (stored_facts old new p.0 p.1 (told_of reply) whole answers)

  come_by : (r : Told) → Pushes1 old new p r → ComesByPushes (λ _ _. Unit {0}) old.states new.states
  come_by (Ok done) it = record { pushes = p ∷ []; given = (tt, tt); valid = (valid, tt); is = it.ok }
  come_by (Err refusal) it = no_pushes _ _ _ it.same

  pub one_comes : (was : Bool) → old.broken ≡ was → (reply : Reply) → AnswersOneFrom old new (push_of p) reply → ComesByPushes (λ _ _. Unit {0}) old.states new.states × AreSeen new.states
  one_comes true was reply one =
      let same : new.states ≡ old.states = ap (λ (v : SiteValue). v.states) (stays_from one was).1 in
      (no_pushes _ _ _ same, subst AreSeen (sym same) seen)
  one_comes false was reply one = let it = one_turn was reply one in (come_by (told_of reply) it, it.seen)

-- ---- all of them

-- the turns ask just these pushes
abbrev pub AskPushes : List (Key × State) → List Turn → Type 0
AskPushes pairs turns = map (λ (t : Turn). t.asked) turns ≡ map (λ (p : Key × State). Ok (push_of p)) pairs

pub asks_first : (p : Key × State) (pairs : List (Key × State)) (turn : Turn) (turns : List Turn) → AskPushes (p ∷ pairs) (turn ∷ turns) → (turn.asked ≡ Ok (push_of p)) × AskPushes pairs turns
asks_first p pairs turn turns e =
    let is : turn.asked ∷ map (λ (t : Turn). t.asked) turns ≡ Ok (push_of p) ∷ map (λ (p : Key × State). Ok (push_of p)) pairs = e in
    (cc, cc)

pub none_asked : (turn : Turn) (turns : List Turn) → AskPushes [] (turn ∷ turns) → ⊥
none_asked turn turns e = absurd (cc)

pub no_turn : (p : Key × State) (pairs : List (Key × State)) → AskPushes (p ∷ pairs) [] → ⊥
no_turn p pairs e = absurd (cc)

pub first_takes : (old mid : SiteValue) (p : Key × State) (turn : Turn) → turn.asked ≡ Ok (push_of p) → TakesFrom old mid turn.asked turn.reply → AnswersOneFrom old mid (push_of p) turn.reply
first_takes old mid p turn asked takes = subst (λ a. TakesFrom old mid a turn.reply) asked takes

pub all_come : (pairs : List (Key × State)) (turns : List Turn) (old new : SiteValue) → AskPushes pairs turns → TakesAllFrom old new turns → AreSeen old.states → Each (λ p. IsValid p.1) pairs → ComesByPushes (λ _ _. Unit {0}) old.states new.states
all_come [] [] old new asked all seen valid = no_pushes _ _ _ (ap (λ (v : SiteValue). v.states) all)
all_come [] (turn ∷ turns) old new asked all seen valid = absurd (none_asked turn turns asked)
all_come (p ∷ pairs) [] old new asked all seen valid = absurd (no_turn p pairs asked)
all_come (p ∷ pairs) (turn ∷ turns) old new asked all seen valid =
    let asks = asks_first p pairs turn turns asked in
    let step = one_comes old all.0 p seen valid.0 old.broken refl turn.reply (first_takes old all.0 p turn asks.0 all.1) in
    more_pushes _ _ _ _ step.0 (all_come pairs turns all.0 new asks.1 all.2 step.1 valid.1)

abbrev pub told_by : List Turn → List Told
told_by turns = map told_of (map (λ (t : Turn). t.reply) turns)

refuses_as : (mid new : SiteValue) (refusal : Refusal) → mid.broken ≡ new.broken → ReplicaRefuses mid refusal → ReplicaRefuses new refusal
refuses_as mid new refusal same (inl site) = inl (site.0, sym same ∙ site.1)
refuses_as mid new refusal same (inr store) = inr (store.0, sym same ∙ store.1)

told_first : (mid new : SiteValue) (r : Told) → mid.broken ≡ new.broken → IfErr r (ReplicaRefuses mid) → (ts : List Told) → EachTold (Unit {0}) (ReplicaRefuses new) ts → EachTold (Unit {0}) (ReplicaRefuses new) (r ∷ ts)
told_first mid new (Ok done) same refuses ts later = (tt, later)
told_first mid new (Err refusal) same refuses ts later = (refuses_as mid new refusal same refuses, later)

-- where the site is not broken after them
pub all_told : (pairs : List (Key × State)) (turns : List Turn) (old new : SiteValue) → AskPushes pairs turns → TakesAllFrom old new turns → AreSeen old.states → Each (λ p. IsValid p.1) pairs → new.broken ≡ false
    → Pushes old.config.max_keys old.states pairs (told_by turns) new.states × EachTold (Unit {0}) (ReplicaRefuses new) (told_by turns)
all_told [] [] old new asked all seen valid whole = (ap (λ (v : SiteValue). v.states) all, tt)
all_told [] (turn ∷ turns) old new asked all seen valid whole = absurd (none_asked turn turns asked)
all_told (p ∷ pairs) [] old new asked all seen valid whole = absurd (no_turn p pairs asked)
all_told (p ∷ pairs) (turn ∷ turns) old new asked all seen valid whole =
    let mid = all.0 in
    let asks = asks_first p pairs turn turns asked in
    let after : mid.broken ≡ false = whole_all turns mid new all.2 whole in
    let was : old.broken ≡ false = whole_all (turn ∷ turns) old new all whole in
    let it = one_turn old mid p seen valid.0 was turn.reply (first_takes old mid p turn asks.0 all.1) in
    let later = all_told pairs turns mid new asks.1 all.2 it.seen valid.1 whole in
    let most = old.config.max_keys in (
      pushes-append most old.states mid.states new.states (p ∷ []) (told_of turn.reply ∷ []) pairs (told_by turns) (one_push most old.states mid.states p (told_of turn.reply) it.ok it.apart it.same it.cause)
          (subst (λ n. Pushes n mid.states pairs (told_by turns) new.states) (ap (λ c. c.max_keys) it.config) later.0),
      told_first mid new (told_of turn.reply) (after ∙ sym whole) it.refuses (told_by turns) later.1,
    )

-- nothing is said of an answer
pub each_told : {Q A : Type 0} (qs : List Q) (ts : List (Result A Refusal)) → length ts ≡ length qs → EachAnswer (λ _ _. Unit {0}) qs ts
each_told [] [] e = tt
each_told [] (t ∷ ts) e = absurd (cc)
each_told (q ∷ qs) [] e = absurd (cc)
each_told (q ∷ qs) (Ok a ∷ ts) e = (tt, each_told qs ts (omega (arith, e)))
each_told (q ∷ qs) (Err r ∷ ts) e = each_told qs ts (omega (arith, e))

-- ---- the records

-- whatever the turn asked was a push
abbrev pub AsksPush : Turn → Type 0
AsksPush turn = (request : Request) → turn.asked ≡ Ok request → IsPush request

the_push : (p : Key × State) (asked : Result Request Refusal) (request : Request) → asked ≡ Ok (push_of p) → asked ≡ Ok request → request ≡ push_of p
the_push p asked request e is = let same : ◌≡◌ {A = Result Request Refusal} (Ok request) (Ok (push_of p)) = sym is ∙ e in cc

pub all_ask : (pairs : List (Key × State)) (turns : List Turn) → AskPushes pairs turns → AllByRecursion AsksPush turns
all_ask [] [] asked = tt
all_ask [] (turn ∷ turns) asked = absurd (none_asked turn turns asked)
all_ask (p ∷ pairs) [] asked = tt
all_ask (p ∷ pairs) (turn ∷ turns) asked =
    let asks = asks_first p pairs turn turns asked in
    (λ request is. (p.0, p.1, the_push p turn.asked request asks.0 is), all_ask pairs turns asks.1)

all_later : (before : List Turn) (turn : Turn) (later : List Turn) → AllByRecursion AsksPush (before ++ turn ∷ later) → AsksPush turn × AllByRecursion AsksPush later
all_later [] turn later all = all
all_later (t ∷ before) turn later all = all_later before turn later all.1

among_pushes : (requests : List Request) (turns : List Turn) → AreAmongTurns requests turns → AllByRecursion AsksPush turns → AllByRecursion IsPush requests
among_pushes [] turns among all = tt
among_pushes (request ∷ requests) [] among all = absurd among
among_pushes (request ∷ requests) (turn ∷ turns) (inl here) all = (all.0 request here.0.0, among_pushes requests turns here.1 all.1)
among_pushes (request ∷ requests) (turn ∷ turns) (inr later) all = among_pushes (request ∷ requests) turns later all.1

pushes_lost : (turns : List Turn) (site : SiteValue) (db : Database) → AllByRecursion AsksPush turns → HoldsLost turns site db → HoldsPushed site db
pushes_lost turns site db all it =
    let lost = it.lost in
    let parts = all_later lost.before lost.broke lost.later (subst (AllByRecursion AsksPush) lost.all all) in
    record {
      request = lost.request;
      changes = lost.changes;
      rest = lost.rest;
      are_pushes = (parts.0 lost.request lost.asked.0, among_pushes lost.rest lost.later lost.among parts.1);
      holds = it.holds;
    }

undone_pushes : (turns : List Turn) (requests : List Request) → AllByRecursion AsksPush turns → AreUndoneIn turns requests → ArePushes requests
undone_pushes turns [] all undone = tt
undone_pushes [] (request ∷ requests) all undone = absurd undone
undone_pushes (turn ∷ turns) (request ∷ requests) all (inl here) = (all.0 request here.0.0, undone_pushes turns requests all.1 here.1)
undone_pushes (turn ∷ turns) (request ∷ requests) all (inr later) = undone_pushes turns (request ∷ requests) all.1 later

pub follows_pushes : (turns : List Turn) (old new : SiteValue) (before after : Shown) → AllByRecursion AsksPush turns → TurnsFollow turns old new before after → ComesByPushes (λ _ _. Unit {0}) old.states new.states → SideFollows old new before after
follows_pushes turns old new before after all follows comes = record {
  site = (follows.config, follows.still);
  store = record {
    sound = follows.sound;
    holds = follows.holds;
    stays = follows.stays;
    stored = λ sound holds whole broken. pushes_lost turns new after.committed all (follows.stored sound holds whole broken);
    clean = follows.clean;
    shut = follows.shut;
  };
  comes = comes;
  leaves = leaves_wider (AreUndoneIn turns) ArePushes _ _ (λ requests. undone_pushes turns requests all) follows.leaves;
}

-- ---- what is answered at once

abbrev as_asked : Request → Result Request Refusal
as_asked request = Ok request

pub ok_pushes : (pairs : List (Key × State)) → map as_asked (map push_of pairs) ≡ map (λ (p : Key × State). as_asked (push_of p)) pairs
ok_pushes [] = refl
ok_pushes (p ∷ pairs) = ap (λ l. as_asked (push_of p) ∷ l) (ok_pushes pairs)

module _ (pairs : List (Key × State)) (requests : List Request) (replies : List Reply) (old new : SiteValue) (before after : Shown) (same : requests ≡ map push_of pairs) (it : AnswersAll requests replies old new before after)
    (held : AreHeld old.states) (valid : Each (λ p. IsValid p.1) pairs) where
  pub asks : AskPushes pairs it.turns
  asks = it.asked ∙ ap (map as_asked) same ∙ ok_pushes pairs

  pub answered_follow : SideFollows old new before after
  answered_follow = follows_pushes it.turns old new before after (all_ask pairs it.turns asks) it.takes.follows (all_come pairs it.turns old new asks it.states (held_seen old.states held) valid)

  pub answered_told : new.broken ≡ false → Pushes old.config.max_keys old.states pairs (map told_of replies) new.states × EachTold (Unit {0}) (ReplicaRefuses new) (map told_of replies)
  answered_told whole =
      subst (λ rs. Pushes old.config.max_keys old.states pairs (map told_of rs) new.states × EachTold (Unit {0}) (ReplicaRefuses new) (map told_of rs)) it.told
      (all_told pairs it.turns old new asks it.states (held_seen old.states held) valid whole)

  pub answered_each : EachAnswer (λ _ _. Unit {0}) pairs (map told_of replies)
  answered_each =
      let asked = ap length it.asked in
      let told = ap length it.told in
      let one = length-map it.turns (λ (t : Turn). t.asked) in
      let other = length-map it.turns (λ (t : Turn). t.reply) in
      let by_ok = length-map requests as_asked in
      let by = ap length same ∙ length-map pairs push_of in
      each_told pairs (map told_of replies) (length-map replies told_of ∙ sym told ∙ other ∙ sym one ∙ asked ∙ by_ok ∙ by)
