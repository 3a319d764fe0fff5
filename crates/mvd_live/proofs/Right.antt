-- Each question of a window is answered rightly of what its site holds at that moment.
use Rattle.std.proofs.Common.{◌≡◌, ◌⊎◌, inl, inr, ◌==◌, ℕ, ◌+◌, ◌-◌, Bool, true, false, not, ◌&&◌, if◌then◌else◌, MatchBool, List, [], ◌∷◌, ◌++◌, length, Option, Some, None, refl, sym, ap, ap₂, ◌∙◌, subst, subst₂, arith, length-append}
use Rattle.std.specs.Prelude.{Result, Ok, Err, is_some}
use Rattle.std.specs.FinMap.{get, len}
use Rattle.std.specs.List.{slice_get}
use Rattle.std.proofs.lemmas.List.{append-nil}
use Rattle.mvd_dots.specs.declared.refusals.Refusal.{Refusal}
use Rattle.mvd_dots.specs.declared.refusals.Refusal.TheVariants.{BadPath, Broken, DotClash, Full, Memory, StateTooLarge}
use Rattle.mvd_keys.specs.Order.{Includes}
use Rattle.mvd_keys.specs.State.{State, clashes, join}
use Rattle.mvd_keys.specs.Writes.{Key, Write, is_empty, state, writes_of}
use Rattle.mvd_keys.proofs.Joins.{join_back}
use Rattle.mvd_keys.proofs.Sets.{IsValid-state}
use Rattle.mvd_keys.proofs.Standing.{state-own}
use Rattle.mvd_keys.proofs.StatesOfWrites.{join-state}
use Rattle.mvd_wire.specs.declared.reply.Digests.{Digests}
use Rattle.mvd_wire.specs.declared.reply.Reply.{Reply}
use Rattle.mvd_wire.specs.declared.reply.Reply.TheVariants.{Done, Keys, Refused}
use Rattle.mvd_wire.specs.declared.request.Request.{Request}
use Rattle.mvd_wire.specs.declared.request.Request.TheVariants.{Bucket, Node, Push}
use Rattle.mvd_site.specs.Answer.{after_from, answer, bucket_answer, digests, is_full, is_too_large, node_digests, states_of}
use Rattle.mvd_site.specs.Config.{ConfigValue}
use Rattle.mvd_site.specs.Held.{States, state_at}
use Rattle.mvd_site.specs.Known.{MayReply}
use Rattle.mvd_site.specs.Sites.{SiteValue}
use Rattle.mvd_tree.specs.Page.{bucket_page, is_more_after_page}
use Rattle.mvd_peer.specs.Windows.{CannotTake, IsNode}
use Rattle.mvd_peer.proofs.SiteSides.{node_bucket, node_inner, node_own, push_cause}
use Rattle.mvd_sync.specs.Tellings.{Page}
use Rattle.mvd_peer.specs.Asking.{PageQuestion}
use Rattle.mvd_live.specs.Told.{TellsNode, PageTold, TellsPush, StateTold}
use Rattle.mvd_world.specs.declared.steps.Step.{Step}
use Rattle.mvd_world.specs.declared.steps.Step.TheVariants.{Ask, Receive, Send}
use Rattle.mvd_world.specs.declared.steps.Outcome.{Outcome}
use Rattle.mvd_world.specs.declared.steps.Outcome.TheVariants.{Failed, Met, NoSuch, Replied, Sent}
use Rattle.mvd_world.specs.Machine.{Knowledge, MayStep, Receives, Sends, SentMessage, Setting, Takes, is_site, may_be, received}
use Rattle.mvd_world.specs.OpenWorlds.{AsksForNode, AsksForPage, AsksForState, AsksToTake, IsMessageAt, TellsSent, node_in, page_in, page_of_told, push_in}
use Rattle.mvd_world.proofs.Agreed.{state_is}
use Rattle.mvd_world.proofs.Asking.{get_last, some_is}
use Rattle.mvd_world.proofs.Changed.{learns_here}
use Rattle.mvd_live.specs.InWindows.{LedTo}
use Rattle.mvd_live.proofs.Between.{led_none, led_step}

-- a moment from before to after at which an answer is right
pub record RightAt {Q A : Type 0} (setting : Setting) (site : ℕ) (Right : States → Q → A → Type 0) (before : Knowledge) (q : Q) (a : A) (after : Knowledge) : Type 0 where
  pub mid : Knowledge
  pub since : LedTo setting before mid
  pub until : LedTo setting mid after
  pub right : Right (states_of (mid.known site)) q a

as_before : {Q A : Type 0} (setting : Setting) (site : ℕ) (Right : States → Q → A → Type 0) (before : Knowledge) (q : Q) (a : A) (after : Knowledge) (step : Step) (outcome : Outcome) → MayStep setting before step outcome after → Right (states_of (before.known site)) q a → RightAt setting site Right before q a after
as_before setting site Right before q a after step outcome may right = record { mid = before; since = led_none setting before before refl; until = led_step setting before step outcome after may; right = right }

ok_no_err : (s : State) (refusal : Refusal) → ◌≡◌ {A = Result State Refusal} (Ok s) (Err refusal) → ⊥
ok_no_err s refusal e = cc

done_no_refusal : (refusal : Refusal) → Done ≡ Refused refusal → ⊥
done_no_refusal refusal e = cc

refused_is : (a b : Refusal) → Refused a ≡ Refused b → a ≡ b
refused_is a b e = cc

-- ---- what a site replies to a question

-- it replies its answer, or a refusal
replies_or : (config : ConfigValue) (W : List Write) (was : Bool) (request : Request) (reply : Reply) (is : Bool) → MayReply config W was request reply is → (reply ≡ answer config W request) ⊎ ((refusal : Refusal) × (reply ≡ Refused refusal))
replies_or config W false request reply false (inl e) = inl e
replies_or config W false request reply false (inr e) = inr (Memory, e)
replies_or config W false request reply true h = inr (Broken, h.0)
replies_or config W true request reply false h = absurd h
replies_or config W true request reply true h = inr (Broken, h)

module _ (setting : Setting) (before : Knowledge) (site : ℕ) (request : Request) (after : Knowledge) (P : Outcome → Type 0) (none : P NoSuch) (refused : (refusal : Refusal) → P (Replied (Refused refusal))) (told : (config : ConfigValue) → P (Replied (answer config (before.known site) request))) where
  of_taken : (outcome : Outcome) → Takes setting before (Ask site request) outcome after → P outcome
  of_taken (Replied reply) t = elim (replies_or t.config (before.known site) (before.broken site) request reply t.broken t.replies) [
    | inl e ↦ subst (λ r. P (Replied r)) (sym e) (told t.config)
    | inr e ↦ subst (λ r. P (Replied r)) (sym e.1) (refused e.0)
  ]
  of_taken (Sent number) t = absurd t
  of_taken (Met report) t = absurd t
  of_taken (Failed fault) t = absurd t
  of_taken NoSuch t = absurd t

  -- what a question comes to
  asked_so : (outcome : Outcome) → MayStep setting before (Ask site request) outcome after → P outcome
  asked_so outcome = elim (may_be (is_site setting) (length before.messages) (Ask site request)) as (λ b. MatchBool b (Takes setting before (Ask site request) outcome after) ((outcome ≡ NoSuch) × (after ≡ before)) → P outcome) [
    | true ↦ λ takes. of_taken outcome takes
    | false ↦ λ h. subst P (sym h.0) none
  ]

-- ---- nodes and pages

node_so : (held : States) (path : List ℕ) → IsNode (digests held) path (node_digests (digests held) path)
node_so held path = (node_own false held path (Ok (node_digests (digests held) path)) refl refl, node_inner false held path (Ok (node_digests (digests held) path)) refl refl, node_bucket false held path (Ok (node_digests (digests held) path)) refl refl)

pub node_right : (setting : Setting) (site : ℕ) (before : Knowledge) (path : List ℕ) (t : Result Digests Refusal) (after : Knowledge) → AsksForNode setting site before path t after → RightAt setting site TellsNode before path t after
node_right setting site before path t after asks =
    let held = states_of (before.known site) in
    as_before setting site TellsNode before path t after (Ask site (Node path)) asks.0 asks.1
    (subst (TellsNode held path) (sym asks.2) (asked_so setting before site (Node path) after (λ o. TellsNode held path (node_in o)) tt (λ refusal. tt) (λ config. node_so held path) asks.0 asks.1))

-- a page that was told, as a pair of lists
abbrev TellsPair : States → PageQuestion → Result (List (Key × List ℕ) × Bool) Refusal → Type 0
TellsPair held q (Ok page) = (page.0 ≡ bucket_page (digests held) q.0 q.1) × (page.1 ≡ is_more_after_page (digests held) q.0 q.1)
TellsPair held q (Err refusal) = Unit {0}

page_pair : (held : States) (q : PageQuestion) (t : Result Page Refusal) → TellsPair held q (page_of_told t) → PageTold held q t
page_pair held q (Ok page) h = h
page_pair held q (Err refusal) h = tt

page_so : (held : States) (q : PageQuestion) → TellsPair held q (page_in (Replied (bucket_answer (digests held) q.0 q.1)))
page_so held q = elim (length q.0 == 3) as (λ b. TellsPair held q (page_in (Replied (if b then Keys (bucket_page (digests held) q.0 q.1) (is_more_after_page (digests held) q.0 q.1) else Refused BadPath)))) [
  | true ↦ (refl, refl)
  | false ↦ tt
]

pub page_right : (setting : Setting) (site : ℕ) (before : Knowledge) (q : PageQuestion) (t : Result Page Refusal) (after : Knowledge) → AsksForPage setting site before q t after → RightAt setting site PageTold before q t after
page_right setting site before q t after asks =
    let held = states_of (before.known site) in
    as_before setting site PageTold before q t after (Ask site (Bucket q.0 q.1)) asks.0 asks.1
    (page_pair held q t (subst (TellsPair held q) (sym asks.2) (asked_so setting before site (Bucket q.0 q.1) after (λ o. TellsPair held q (page_in o)) tt (λ refusal. tt) (λ config. page_so held q) asks.0 asks.1)))

-- ---- states

sent_is : (before : Knowledge) (site : ℕ) (key : Key) (number index : ℕ) (after : Knowledge) (s : State) → Sends before site key number after → number ≡ index + 1 → IsMessageAt after.messages index (key, s) → s ≡ state_at (states_of (before.known site)) key
sent_is before site key number index after s told at m =
    let sending : SentMessage = record { key = key; writes = writes_of key (before.known site) } in
    let grown : after.messages ≡ before.messages ++ sending ∷ [] = ap (λ (w : Knowledge). w.messages) told.is in
    let long : length after.messages ≡ length before.messages + 1 = ap length grown ∙ length-append before.messages (sending ∷ []) in
    let same : index ≡ length before.messages = omega (arith, at, told.numbered, long) in
    let is : m.sending ≡ sending = some_is m.sending sending (sym m.at ∙ ap₂ slice_get grown same ∙ get_last before.messages sending) in
    m.of_state ∙ ap (λ (x : SentMessage). state x.key x.writes) is ∙ sym (state-own key (before.known site)) ∙ sym (state_is key (before.known site))

state_so : (setting : Setting) (before : Knowledge) (site : ℕ) (key : Key) (outcome : Outcome) (after : Knowledge) (t : Result State Refusal) → Takes setting before (Send site key) outcome after → TellsSent after.messages outcome key t → StateTold (states_of (before.known site)) key t
state_so setting before site key outcome after (Err refusal) takes tells = tt
state_so setting before site key (Sent number) after (Ok s) takes tells = sent_is before site key number tells.0 after s takes tells.1 tells.2
state_so setting before site key (Replied reply) after (Ok s) takes tells = absurd (ok_no_err s _ tells)
state_so setting before site key (Met report) after (Ok s) takes tells = absurd takes
state_so setting before site key (Failed fault) after (Ok s) takes tells = absurd takes
state_so setting before site key NoSuch after (Ok s) takes tells = absurd takes

none_told : (messages : List SentMessage) (outcome : Outcome) (held : States) (key : Key) (t : Result State Refusal) → outcome ≡ NoSuch → TellsSent messages outcome key t → StateTold held key t
none_told messages outcome held key (Err refusal) none tells = tt
none_told messages outcome held key (Ok s) none tells = absurd (ok_no_err s _ (subst (λ o. TellsSent messages o key (Ok s)) none tells))

pub state_right : (setting : Setting) (site : ℕ) (before : Knowledge) (key : Key) (t : Result State Refusal) (after : Knowledge) → AsksForState setting site before key t after → RightAt setting site StateTold before key t after
state_right setting site before key t after asks =
    let held = states_of (before.known site) in
    as_before setting site StateTold before key t after (Send site key) asks.0 asks.1
    (elim (may_be (is_site setting) (length before.messages) (Send site key)) as (λ b. MatchBool b (Takes setting before (Send site key) asks.0 after) ((asks.0 ≡ NoSuch) × (after ≡ before)) → StateTold held key t) [
      | true ↦ λ takes. state_so setting before site key asks.0 after t takes asks.2
      | false ↦ λ h. none_told after.messages asks.0 held key t h.0 asks.2
    ] asks.1)

-- ---- pushes

-- why a site replies so to a push
limits : (large clash larger full : Bool) (r : Reply) → r ≡ (if large then Refused StateTooLarge else if clash then Refused DotClash else if larger then Refused StateTooLarge else if full then Refused Full else Done) → r ≡ Done → clash ≡ false
limits true clash larger full r e d = absurd (cc)
limits false true larger full r e d = absurd (cc)
limits false false larger full r e d = refl

cannot_so : (config : ConfigValue) (W : List Write) (was : Bool) (key : Key) (s : State) (refusal : Refusal) (is : Bool) → MayReply config W was (Push key s) (Refused refusal) is → CannotTake config.max_keys (states_of W) key s refusal
cannot_so config W false key s refusal false (inl e) =
    let site : SiteValue = record { config = config; states = states_of W; broken = false } in
    push_cause site (record { config = config; states = after_from config (states_of W) (Push key s); broken = false }) key s refl (Err refusal) (λ whole. inl (record { answers = e; site = refl }))
cannot_so config W false key s refusal false (inr e) = subst (CannotTake config.max_keys (states_of W) key s) (sym (refused_is refusal Memory e)) tt
cannot_so config W false key s refusal true h = subst (CannotTake config.max_keys (states_of W) key s) (sym (refused_is refusal Broken h.0)) tt
cannot_so config W true key s refusal false h = absurd h
cannot_so config W true key s refusal true h = subst (CannotTake config.max_keys (states_of W) key s) (sym (refused_is refusal Broken h)) tt

apart_so : (config : ConfigValue) (W : List Write) (was : Bool) (key : Key) (s : State) (is : Bool) → MayReply config W was (Push key s) Done is → clashes (state_at (states_of W) key) s ≡ false
apart_so config W false key s false (inl e) = limits (is_too_large s) (clashes (state_at (states_of W) key) s) (is_too_large (join (state_at (states_of W) key) s)) (is_full config (is_some (get (states_of W) key)) (len (states_of W)) && not (is_empty (join (state_at (states_of W) key) s).context)) Done e refl
apart_so config W false key s false (inr e) = absurd (done_no_refusal Memory e)
apart_so config W false key s true h = absurd (done_no_refusal Broken h.0)
apart_so config W true key s false h = absurd h
apart_so config W true key s true h = absurd (done_no_refusal Broken h)

-- the most keys of a site
abbrev pub most_of : Option ConfigValue → ℕ
most_of None = 0
most_of (Some config) = config.max_keys

includes_so : (key : Key) (V W : List Write) (s : State) → s ≡ state key W → clashes (state_at (states_of V) key) s ≡ false → Includes (state_at (states_of (V ++ W)) key) s
includes_so key V W s is apart =
    let x = state key V in
    let y = state key W in
    let no : clashes x y ≡ false = ap₂ clashes (sym (state_is key V)) (sym is) ∙ apart in
    subst (Includes (state_at (states_of (V ++ W)) key)) (sym is)
    (subst (λ z. Includes z y) (join-state key V W ∙ sym (state_is key (V ++ W))) (join_back x y (IsValid-state key V) (IsValid-state key W) no))

module _ (setting : Setting) (site : ℕ) (before : Knowledge) (pair : Key × State) (index : ℕ) (after : Knowledge) (m : IsMessageAt before.messages index pair) where
  sending_is : (reply : Reply) (told : Receives setting before site (index + 1) reply after) → told.sending ≡ m.sending
  sending_is reply told =
      let same : index + 1 - 1 ≡ index = omega arith in
      some_is told.sending m.sending (sym told.sent ∙ ap (slice_get before.messages) same ∙ m.at)

  known_is : (reply : Reply) (told : Receives setting before site (index + 1) reply after) → after.known site ≡ before.known site ++ received reply told.sending.writes
  known_is reply told = ap (λ (k : Knowledge). k.known site) told.is ∙ learns_here before.known site (received reply told.sending.writes)

  pushed_pair : (reply : Reply) (told : Receives setting before site (index + 1) reply after) → MayReply told.config (before.known site) (before.broken site) (Push pair.0 pair.1) reply told.broken
  pushed_pair reply told =
      subst₂ (λ k s. MayReply told.config (before.known site) (before.broken site) (Push k s) reply told.broken) (sym m.of_key) (sym m.of_state)
      (subst (λ (x : SentMessage). MayReply told.config (before.known site) (before.broken site) (Push x.key (state x.key x.writes)) reply told.broken) (sending_is reply told) told.replies)

  push_so : (reply : Reply) → Receives setting before site (index + 1) reply after → TellsPush (most_of (setting.configs site)) (states_of (after.known site)) pair (push_in (Replied reply))
  push_so Done told =
      let is : pair.1 ≡ state pair.0 told.sending.writes = m.of_state ∙ ap (λ k. state k m.sending.writes) (sym m.of_key) ∙ ap (λ (x : SentMessage). state pair.0 x.writes) (sym (sending_is Done told)) in
      subst (λ W. Includes (state_at (states_of W) pair.0) pair.1) (sym (known_is Done told))
      (includes_so pair.0 (before.known site) told.sending.writes pair.1 is (apart_so told.config (before.known site) (before.broken site) pair.0 pair.1 told.broken (pushed_pair Done told)))
  push_so (Refused refusal) told =
      subst₂ (λ o W. CannotTake (most_of o) (states_of W) pair.0 pair.1 refusal) (sym told.setup) (sym (known_is (Refused refusal) told ∙ append-nil (before.known site)))
      (cannot_so told.config (before.known site) (before.broken site) pair.0 pair.1 refusal told.broken (pushed_pair (Refused refusal) told))
  push_so reply told = tt

  taken_so : (outcome : Outcome) → Takes setting before (Receive site (index + 1)) outcome after → TellsPush (most_of (setting.configs site)) (states_of (after.known site)) pair (push_in outcome)
  taken_so (Replied reply) told = push_so reply told
  taken_so (Sent number) told = absurd told
  taken_so (Met report) told = absurd told
  taken_so (Failed fault) told = absurd told
  taken_so NoSuch told = absurd told

  took_so : (outcome : Outcome) → MayStep setting before (Receive site (index + 1)) outcome after → TellsPush (most_of (setting.configs site)) (states_of (after.known site)) pair (push_in outcome)
  took_so outcome = elim (may_be (is_site setting) (length before.messages) (Receive site (index + 1))) as (λ b. MatchBool b (Takes setting before (Receive site (index + 1)) outcome after) ((outcome ≡ NoSuch) × (after ≡ before)) → TellsPush (most_of (setting.configs site)) (states_of (after.known site)) pair (push_in outcome)) [
    | true ↦ λ takes. taken_so outcome takes
    | false ↦ λ h. subst (λ o. TellsPush (most_of (setting.configs site)) (states_of (after.known site)) pair (push_in o)) (sym h.0) tt
  ]

pub push_right : (setting : Setting) (site : ℕ) (before : Knowledge) (pair : Key × State) (t : Result (Unit {0}) Refusal) (after : Knowledge) → AsksToTake setting site before pair t after → RightAt setting site (TellsPush (most_of (setting.configs site))) before pair t after
push_right setting site before pair t after asks = record {
  mid = after;
  since = led_step setting before (Receive site (asks.0 + 1)) asks.1 after asks.3;
  until = led_none setting after after refl;
  right = subst (TellsPush (most_of (setting.configs site)) (states_of (after.known site)) pair) (sym asks.4) (took_so setting site before pair asks.0 after asks.2 asks.1 asks.3);
}
