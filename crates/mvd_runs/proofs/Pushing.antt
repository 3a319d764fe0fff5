-- A push is a turn, and so is each of a window; and so a session is turns.
use Rattle.std.proofs.Common.{◌≡◌, ◌≢◌, ◌∙◌, Bool, true, false, List, [], ◌∷◌, ◌++◌, map, Result, Ok, Err, refl, sym, ap, subst, inl, inr, true≢false}
use Rattle.std.specs.List.{AllByRecursion}
use Rattle.std.specs.Result.{IfErr, OnOk}
use Rattle.mvd_dots.specs.declared.refusals.Refusal.{Refusal}
use Rattle.mvd_dots.specs.declared.refusals.Refusal.TheVariants.{Broken, Memory}
use Rattle.mvd_keys.specs.State.{IsValid, State as Keyed}
use Rattle.mvd_keys.specs.Writes.{Key}
use Rattle.mvd_wire.specs.declared.request.Request.{Request}
use Rattle.mvd_wire.specs.declared.request.Request.TheVariants.{Push}
use Rattle.mvd_wire.specs.declared.reply.Reply.{Reply}
use Rattle.mvd_wire.specs.declared.reply.Reply.TheVariants.{Done, Refused}
use Rattle.mvd_site.specs.FromStates.{push_reply}
use Rattle.mvd_site.specs.Held.{AreHeld}
use Rattle.mvd_site.specs.Known.{IsValidRequest}
use Rattle.mvd_site.specs.Sites.{SiteValue}
use Rattle.mvd_site.proofs.Outcomes.{memory_or_not}
use Rattle.mvd_site.proofs.Pushes.{refusal_is}
use Rattle.mvd_peer.specs.PushedStates.{ComesByPushes, Each}
use Rattle.mvd_replica.specs.Batch.{AnswersOneFrom, HoldsLost}
use Rattle.mvd_replica.specs.Pushes.{push_of}
use Rattle.mvd_replica.specs.Sides.{AnswersFromStored, HoldsBroken}
use Rattle.mvd_replica.specs.Turns.{LeavesTurns, Turn}
use Rattle.mvd_replica.proofs.Batched.{TakesTurns-append, TakesTurns-memory, TakesTurns-none}
use Rattle.mvd_replica.proofs.Batching.{takes}
use Rattle.mvd_replica.proofs.Positions.{AnswersAll, ReplicaFollows, SideFollows, TakesTurns, TurnsFollow, stored_site}
use Rattle.mvd_replica.proofs.Pushed.{follows_pushes}
use Rattle.mvd_replica.proofs.Putting.{no_done}
use Rattle.sqlite.specs.Effect.{Database}
use Rattle.sqlite.specs.State.{State}
use Rattle.mvd_runs.specs.Calls.{all_turns}
use Rattle.mvd_runs.specs.Files.{IsValidTurn}
use Rattle.mvd_runs.specs.Sessions.{AsksPush, SideTakes, push_turn}
use Rattle.mvd_runs.proofs.Calling.{both, calls_append, calls_none, calls_one, turns_append, turns_one}

pub lost_one : (request : Request) (reply : Reply) (site : SiteValue) (db : Database) → reply ≡ Refused Broken → HoldsBroken (λ asked. asked ≡ request) site db → HoldsLost (record { asked = Ok request; reply = reply } ∷ []) site db
lost_one request reply site db told holds = record {
  lost = record {
    before = [];
    broke = record { asked = Ok request; reply = reply };
    later = [];
    all = refl;
    first = tt;
    request = holds.request;
    asked = (ap (λ (r : Request). Ok r) (sym holds.asked), told);
    changes = holds.changes;
    rest = [];
    among = tt;
  };
  holds = holds.holds;
}

module _ (old new : SiteValue) (before after : State) (key : Key) (s : Keyed) where
  breaks_told : (was : Bool) → old.broken ≡ was → (reply : Reply) → AnswersFromStored old new (Push key s) reply → (old.broken ≡ true → reply ≡ Refused Broken) → new.broken ≡ true → reply ≡ Refused Broken
  breaks_told true was reply answers stays broken = stays was
  breaks_told false was reply (inr store) stays broken = absurd (true≢false (sym broken ∙ ap (λ (x : SiteValue). x.broken) store.site ∙ was))
  breaks_told false was reply (inl from) stays broken = elim (from was) [
    | inl it ↦ absurd (true≢false (sym broken ∙ ap (λ (x : SiteValue). x.broken) it.site))
    | inr (inl memory) ↦ absurd (true≢false (sym broken ∙ ap (λ (x : SiteValue). x.broken) memory.1 ∙ was))
    | inr (inr broke) ↦ broke.0
  ]

  not_memory : (refusal : Refusal) → refusal ≢ Memory → Refused refusal ≢ Refused Memory
  not_memory refusal other e = other (refusal_is refusal Memory e)

  turn_follows : (reply : Reply) → (new.broken ≡ true → reply ≡ Refused Broken) → ReplicaFollows (λ asked. asked ≡ Push key s) old new before after → LeavesTurns (push_turn key s reply ∷ []) (stored_site old before) (stored_site new after) →
      TurnsFollow (push_turn key s reply ∷ []) old new before after
  turn_follows reply told follows leaves = record {
    config = follows.site.0;
    still = follows.site.1;
    sound = follows.store.sound;
    holds = follows.store.holds;
    stays = follows.store.stays;
    stored = λ sound holds whole broken. lost_one (Push key s) reply new after.committed (told broken) (follows.store.stored sound holds whole broken);
    clean = follows.store.clean;
    shut = follows.store.shut;
    leaves = leaves;
  }

  -- want of memory leaves the site as it was
  pub memory_turn : new ≡ old → ReplicaFollows (λ asked. asked ≡ Push key s) old new before after → LeavesTurns (push_turn key s (Refused Memory) ∷ []) (stored_site old before) (stored_site new after) → TurnsFollow (push_turn key s (Refused Memory) ∷ []) old new before after →
      TakesTurns (push_turn key s (Refused Memory) ∷ []) old new before after
  memory_turn same follows leaves turns =
      let here : TakesTurns (push_turn key s (Refused Memory) ∷ []) old old before before = TakesTurns-memory old before (Ok (Push key s)) in
      let there = subst (λ x. TakesTurns (push_turn key s (Refused Memory) ∷ []) old x before before) (sym same) here in
      record {
        replies = there.replies;
        stands = there.stands;
        config = there.config;
        choice = there.choice;
        told = there.told;
        breaks = there.breaks;
        follows = turns;
      }

  pub done_turn : AnswersFromStored old new (Push key s) Done → (old.broken ≡ true → Done ≡ Refused Broken) → IsValid s → ReplicaFollows (λ asked. asked ≡ Push key s) old new before after →
      LeavesTurns (push_turn key s Done ∷ []) (stored_site old before) (stored_site new after) → (AreHeld old.states → AreHeld new.states) → TakesTurns (push_turn key s Done ∷ []) old new before after
  done_turn answers stays valid follows leaves form =
      let one : AnswersOneFrom old new (Push key s) Done = record {
        does = elim answers [
          | inr store ↦ inr store
          | inl from ↦ inl (record {
            step = from;
            broken = λ was. absurd (let bad : Done ≡ Refused Broken = stays was in cc);
            valid = λ _. valid;
            frugal = λ _ e. absurd (cc);
          })
        ];
        form = form;
      } in
      takes _ old new before after (new, one, refl) (turn_follows Done (breaks_told old.broken refl Done answers stays) follows leaves)

  pub refused_turn : (refusal : Refusal) → AnswersFromStored old new (Push key s) (Refused refusal) → (old.broken ≡ true → (Refused refusal ≡ Refused Broken) × (new ≡ old)) → (refusal ≢ Broken → new ≡ old) →
      ReplicaFollows (λ asked. asked ≡ Push key s) old new before after → LeavesTurns (push_turn key s (Refused refusal) ∷ []) (stored_site old before) (stored_site new after) → (AreHeld old.states → AreHeld new.states) → TakesTurns (push_turn key s (Refused refusal) ∷ []) old new before after
  refused_turn refusal answers stays unchanged follows leaves form = elim (memory_or_not refusal) [
    | inl memory ↦
        subst (λ r. TakesTurns (push_turn key s (Refused r) ∷ []) old new before after) (sym memory)
        (memory_turn (unchanged (λ broken. let bad : Memory ≡ Broken = sym memory ∙ broken in absurd cc)) follows
        (subst (λ r. LeavesTurns (push_turn key s (Refused r) ∷ []) (stored_site old before) (stored_site new after)) memory leaves)
        (subst (λ r. TurnsFollow (push_turn key s (Refused r) ∷ []) old new before after) memory
        (turn_follows (Refused refusal) (breaks_told old.broken refl (Refused refusal) answers (λ was. (stays was).0)) follows leaves)))
    | inr other ↦
        let one : AnswersOneFrom old new (Push key s) (Refused refusal) = record {
          does = elim answers [
            | inr store ↦ inr store
            | inl from ↦ inl (record { step = from; broken = stays; valid = λ done. no_done (Push key s) refusal done; frugal = λ _. not_memory refusal other })
          ];
          form = form;
        } in
        takes _ old new before after (new, one, refl) (turn_follows (Refused refusal) (breaks_told old.broken refl (Refused refusal) answers (λ was. (stays was).0)) follows leaves)
  ]

the_push : (key : Key) (s : Keyed) (request : Request) → ◌≡◌ {A = Result Request Refusal} (Ok (Push key s)) (Ok request) → request ≡ Push key s
the_push key s request e = cc

pub asks_push : (key : Key) (s : Keyed) (reply : Reply) → AllByRecursion AsksPush (push_turn key s reply ∷ [])
asks_push key s reply = ((λ request is. (key, s, the_push key s request is)), tt)

pub valid_push : (key : Key) (s : Keyed) (reply : Reply) → IsValid s → AllByRecursion IsValidTurn (push_turn key s reply ∷ [])
valid_push key s reply valid = ((λ request is. subst IsValidRequest (sym (the_push key s request is)) valid), tt)

-- ---- a session

pub side_none : (site : SiteValue) (s : State) → SideTakes (stored_site site s) (stored_site site s)
side_none site s = record { calls = []; pushes = tt; valid = tt; takes = TakesTurns-none site s; follows = calls_none (stored_site site s) }

pub side_one : (turns : List Turn) (old new : SiteValue) (before after : State) → AllByRecursion AsksPush turns → AllByRecursion IsValidTurn turns → TakesTurns turns old new before after → SideTakes (stored_site old before) (stored_site new after)
side_one turns old new before after pushes valid takes = record {
  calls = turns ∷ [];
  pushes = subst (AllByRecursion AsksPush) (sym (turns_one turns)) pushes;
  valid = subst (AllByRecursion IsValidTurn) (sym (turns_one turns)) valid;
  takes = subst (λ (ts : List Turn). TakesTurns ts old new before after) (sym (turns_one turns)) takes;
  follows = calls_one turns (stored_site old before) (stored_site new after) takes.follows;
}

pub side_append : (old mid new : SiteValue) (before between after : State) → SideTakes (stored_site old before) (stored_site mid between) → SideTakes (stored_site mid between) (stored_site new after) → SideTakes (stored_site old before) (stored_site new after)
side_append old mid new before between after p q = record {
  calls = p.calls ++ q.calls;
  pushes = subst (AllByRecursion AsksPush) (sym (turns_append p.calls q.calls)) (both AsksPush (all_turns p.calls) (all_turns q.calls) p.pushes q.pushes);
  valid = subst (AllByRecursion IsValidTurn) (sym (turns_append p.calls q.calls)) (both IsValidTurn (all_turns p.calls) (all_turns q.calls) p.valid q.valid);
  takes = subst (λ (ts : List Turn). TakesTurns ts old new before after) (sym (turns_append p.calls q.calls))
      (TakesTurns-append (all_turns p.calls) (all_turns q.calls) old mid new before between after p.takes q.takes);
  follows = calls_append p.calls q.calls (stored_site old before) (stored_site mid between) (stored_site new after) p.follows q.follows p.takes.told;
}

-- what is said of a session today follows from its turns, and from how its states came
pub side_follows : (old new : SiteValue) (before after : State) → SideTakes (stored_site old before) (stored_site new after) → ComesByPushes (λ _ _. Unit {0}) old.states new.states → SideFollows old new before after
side_follows old new before after it comes = follows_pushes (all_turns it.calls) old new before after it.pushes it.takes.follows comes

-- a window of pushes
pushes_asked : (pairs : List (Key × Keyed)) (turns : List Turn) → map (λ (t : Turn). t.asked) turns ≡ map (λ (request : Request). Ok request) (map push_of pairs) → Each (λ (p : Key × Keyed). IsValid p.1) pairs → AllByRecursion AsksPush turns × AllByRecursion IsValidTurn turns
pushes_asked [] [] e valid = (tt, tt)
pushes_asked [] (turn ∷ turns) e valid = absurd (cc)
pushes_asked (p ∷ pairs) [] e valid = absurd (cc)
pushes_asked (p ∷ pairs) (turn ∷ turns) e valid =
    let all : ◌≡◌ {A = List (Result Request Refusal)} (turn.asked ∷ map (λ (t : Turn). t.asked) turns) (Ok (push_of p) ∷ map (λ (request : Request). Ok request) (map push_of pairs)) = e in
    let first : turn.asked ≡ Ok (push_of p) = cc in
    let rest : map (λ (t : Turn). t.asked) turns ≡ map (λ (request : Request). Ok request) (map push_of pairs) = cc in
    let later = pushes_asked pairs turns rest valid.1 in (
      (λ request is. (p.0, p.1, the_push p.0 p.1 request (sym first ∙ is)), later.0),
      (λ request is. subst IsValidRequest (sym (the_push p.0 p.1 request (sym first ∙ is))) valid.0, later.1),
    )

pub side_window : (pairs : List (Key × Keyed)) (replies : List Reply) (old new : SiteValue) (before after : State) → Each (λ (p : Key × Keyed). IsValid p.1) pairs → AnswersAll (map push_of pairs) replies old new before after → SideTakes (stored_site old before) (stored_site new after)
side_window pairs replies old new before after valid it =
    let asked = pushes_asked pairs it.turns it.asked valid in
    side_one it.turns old new before after asked.0 asked.1 it.takes

-- ---- one push

pub push_takes : (old new : SiteValue) (before after : State) (key : Key) (s : Keyed) (result : Result (Unit {0}) Refusal) → AnswersFromStored old new (Push key s) (push_reply result) →
    (old.broken ≡ true → (result ≡ Err Broken) × (new ≡ old)) → IfErr result (λ refusal. refusal ≢ Broken → new ≡ old) → OnOk result (IsValid s) →
    ReplicaFollows (λ asked. asked ≡ Push key s) old new before after → LeavesTurns (push_turn key s (push_reply result) ∷ []) (stored_site old before) (stored_site new after) →
    (AreHeld old.states → AreHeld new.states) → TakesTurns (push_turn key s (push_reply result) ∷ []) old new before after
push_takes old new before after key s (Ok done) answers stays unchanged valid follows leaves form =
    done_turn old new before after key s answers (λ was. absurd (let bad : ◌≡◌ {A = Result (Unit {0}) Refusal} (Ok done) (Err Broken) = (stays was).0 in cc)) valid follows leaves form
push_takes old new before after key s (Err refusal) answers stays unchanged valid follows leaves form =
    refused_turn old new before after key s refusal answers (λ was. (ap push_reply (stays was).0, (stays was).1)) unchanged follows leaves form
