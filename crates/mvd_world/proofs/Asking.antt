-- How the code tells of a window.
use Rattle.std.proofs.Common.{◌≡◌, ℕ, ◌+◌, ◌-◌, ◌<◌, zero, suc, true, false, ◌&&◌, MatchBool, List, [], ◌∷◌, ◌++◌, map, length, Option, Some, None, refl, sym, ap, ap₂, ◌∙◌, subst, arith, length-append}
use Rattle.std.specs.Prelude.{Result, Ok, Err, IfOk, IfErr, option_map}
use Rattle.std.specs.List.{slice_get}
use Rattle.std.proofs.lemmas.List.{length-map, map-append}
use Rattle.mvd_dots.specs.declared.refusals.Refusal.{Refusal}
use Rattle.mvd_dots.specs.declared.refusals.Refusal.TheVariants.{Broken, Memory}
use Rattle.mvd_keys.specs.State.{State}
use Rattle.mvd_keys.specs.Writes.{Key, state, writes_of}
use Rattle.mvd_peer.specs.PushedStates.{Each}
use Rattle.mvd_peer.specs.Asking.{asked as asked_in}
use Rattle.mvd_peer.specs.declared.window.Window.{Window}
use Rattle.mvd_peer.specs.declared.window.Told.{Told}
use Rattle.mvd_site.specs.FromStates.{AnswersFrom}
use Rattle.mvd_site.specs.Sites.{SiteValue}
use Rattle.mvd_wire.specs.declared.request.Request.TheVariants.{Push}
use Rattle.mvd_wire.specs.declared.reply.Reply.{Reply}
use Rattle.mvd_wire.specs.declared.reply.Reply.TheVariants.{Refused}
use Rattle.mvd_sync.proofs.Descents.{Each-left, Each-right}
use Rattle.mvd_sync.proofs.Keys.{Each-weaker}
use Rattle.mvd_world.specs.declared.worlds.Message.{Message}
use Rattle.mvd_world.specs.declared.worlds.World.{World}
use Rattle.mvd_world.specs.declared.steps.Step.TheVariants.{Receive, Send}
use Rattle.mvd_world.specs.declared.steps.Outcome.{Outcome}
use Rattle.mvd_world.specs.declared.steps.Outcome.TheVariants.{Failed, Met, NoSuch, Replied, Sent}
use Rattle.mvd_world.specs.Machine.{Knowledge, MayStep, SentMessage, Sends, Setting, Takes, is_numbered, is_site, may_be}
use Rattle.mvd_world.specs.Worlds.{IsWorld, Steps, message_of, state_of_message}
use Rattle.mvd_world.specs.OpenWorlds.{AsksOneSite, AsksWindow, IsMessageAt, IsOneStep, LeadsWhere, OneByOne, PushSent, TellsSent, WasSent, refusal_in}
use Rattle.mvd_world.proofs.Cutting.{one_by_one_longer, one_more_asked, sent_still}
use Rattle.mvd_world.proofs.Leading.{SiteChanges, number_in, receives_lead}
use Rattle.mvd_world.proofs.Taking.{step_none, step_takes}

-- ---- a state that was sent is received

within : {X : Type 0} (xs : List X) (i : ℕ) (x : X) → slice_get xs i ≡ Some x → i < length xs
within [] i x h = cc
within (y ∷ xs) zero x h = omega arith
within (y ∷ xs) (suc i) x h = let rest = within xs i x h in omega (arith, rest)

pub takes_sent : (old new : World) (site index : ℕ) (m : Message) (s s' : SiteValue) (reply : Reply) → is_numbered (length old.sites.items) site ≡ true → slice_get old.messages.items index ≡ Some m → SiteChanges old new site s s' → AnswersFrom s s' (Push m.key m.state) reply
    → (s.broken ≡ true → (reply ≡ Refused Broken) × (s'.broken ≡ true)) → Steps old new (Receive site (index + 1)) (Replied reply)
takes_sent old new site index m s s' reply numbered at change answers stays =
    let low = within old.messages.items index m at in
    let may : may_be (is_numbered (length old.sites.items)) (length old.messages.items) (Receive site (index + 1)) ≡ true =
    ap₂ (λ a b. a && b) numbered (number_in (length old.messages.items) (index + 1) (omega arith) (omega (arith, low))) in
    step_takes old new (Receive site (index + 1)) (Replied reply) may
    (receives_lead old new site (index + 1) index m s s' reply change at (omega arith) answers stays)

pub takes_none : (old : World) (site index : ℕ) → is_numbered (length old.sites.items) site ≡ false → Steps old old (Receive site (index + 1)) NoSuch
takes_none old site index none = step_none old (Receive site (index + 1)) (ap (λ b. b && is_numbered (length old.messages.items) (index + 1)) none)

-- ---- the state that was sent last

pub get_last : {X : Type 0} (xs : List X) (x : X) → slice_get (xs ++ x ∷ []) (length xs) ≡ Some x
get_last [] x = refl
get_last (y ∷ xs) x = get_last xs x

pub some_is : {X : Type 0} (x y : X) → ◌≡◌ {A = Option X} (Some x) (Some y) → x ≡ y
some_is x y e = cc

state_last : (world : World) (ms : List Message) (m : Message) (number : ℕ) → world.messages.items ≡ ms ++ m ∷ [] → number ≡ length ms + 1 → state_of_message world number ≡ Some m.state
state_last world ms m number is at =
    let long : length world.messages.items ≡ length ms + 1 = ap length is ∙ length-append ms (m ∷ []) in
    let there : is_numbered (length world.messages.items) number ≡ true = number_in (length world.messages.items) number (omega (arith, at)) (omega (arith, at, long)) in
    let index : number - 1 ≡ length ms = omega (arith, at) in
    let here : slice_get world.messages.items (number - 1) ≡ Some m = ap₂ slice_get is index ∙ get_last ms m in
    ap₂ (λ b o. Rattle.std.specs.Prelude.if◌then◌else◌ b (option_map (λ (x : Message). x.state) o) None) there here

-- what is told of it is its state
sends_tells : (new : World) (before : Knowledge) (site : ℕ) (key : Key) (number : ℕ) (after : Knowledge) (s : State) → new.messages.items ≡ map message_of after.messages → Sends before site key number after → state_of_message new number ≡ Some s → TellsSent after.messages (Sent number) key (Ok s)
sends_tells new before site key number after s stand told found =
    let sending : SentMessage = record { key = key; writes = writes_of key (before.known site) } in
    let grown : after.messages ≡ before.messages ++ sending ∷ [] = ap (λ (w : Knowledge). w.messages) told.is in
    let kept : new.messages.items ≡ map message_of before.messages ++ message_of sending ∷ [] = stand ∙ ap (map message_of) grown ∙ map-append message_of before.messages (sending ∷ []) in
    let long : number ≡ length before.messages + 1 = told.numbered ∙ ap length grown ∙ length-append before.messages (sending ∷ []) in
    let here : number ≡ length (map message_of before.messages) + 1 = long ∙ ap (λ n. n + 1) (sym (length-map before.messages message_of)) in
    let is : s ≡ state key (writes_of key (before.known site)) = some_is s _ (sym found ∙ state_last new (map message_of before.messages) (message_of sending) number kept here) in
    let at : IsMessageAt after.messages (length before.messages) (key, s) = record {
      sending = sending;
      at = ap (λ ms. slice_get ms (length before.messages)) grown ∙ get_last before.messages sending;
      of_key = refl;
      of_state = is;
    } in
    (length before.messages, long, at)

no_number : (number : ℕ) → Sent number ≡ NoSuch → ⊥
no_number number e = cc

pub sent_tells : (setting : Setting) (new : World) (before : Knowledge) (site : ℕ) (key : Key) (number : ℕ) (after : Knowledge) (s : State) → IsWorld setting new after → MayStep setting before (Send site key) (Sent number) after → state_of_message new number ≡ Some s → TellsSent after.messages (Sent number) key (Ok s)
sent_tells setting new before site key number after s world =
    elim (may_be (is_site setting) (length before.messages) (Send site key)) as (λ b. MatchBool b (Takes setting before (Send site key) (Sent number) after) ((Sent number ≡ NoSuch) × (after ≡ before)) → state_of_message new number ≡ Some s → TellsSent after.messages (Sent number) key (Ok s)) [
      | true ↦ λ told found. sends_tells new before site key number after s world.messages told found
      | false ↦ λ none found. absurd (no_number number none.0)
    ]

pub told_sent : (setting : Setting) (new : World) (before : Knowledge) (site : ℕ) (key : Key) (outcome : Outcome) (number : ℕ) (after : Knowledge) (t : Result State Refusal) → outcome ≡ Sent number → IsWorld setting new after → MayStep setting before (Send site key) outcome after
    → IfOk t (λ s. state_of_message new number ≡ Some s) → IfErr t (λ refusal. refusal ≡ Memory) → TellsSent after.messages outcome key t
told_sent setting new before site key outcome number after (Ok s) is world may copied memory = subst (λ o. TellsSent after.messages o key (Ok s)) (sym is)
    (sent_tells setting new before site key number after s world (subst (λ o. MayStep setting before (Send site key) o after) is may) copied)
told_sent setting new before site key outcome number after (Err refusal) is world may copied memory = subst (λ o. TellsSent after.messages o key (Err refusal)) (sym is) memory

pub not_sent : (messages : List SentMessage) (key : Key) (outcome : Outcome) → ((number : ℕ) → outcome ≡ Sent number → ⊥) → TellsSent messages outcome key (Err (refusal_in outcome))
not_sent messages key (Sent number) other = absurd (other number refl)
not_sent messages key (Replied reply) other = refl
not_sent messages key (Met report) other = refl
not_sent messages key (Failed fault) other = refl
not_sent messages key NoSuch other = refl

-- ---- one question after the other

-- questions were asked, each of which pushes what was sent
abbrev pub AsksAll : {Q A : Type 0} → (Q → List (Key × State)) → (Setting → Knowledge → Q → A → Knowledge → Type 0) → World → World → List Q → List A → Type 0
AsksAll pushes Asks old new qs answers = LeadsWhere old new (PushSent pushes qs) (λ setting before after. OneByOne (Asks setting) before qs answers after)

pub asks_none : {Q A : Type 0} (pushes : Q → List (Key × State)) (Asks : Setting → Knowledge → Q → A → Knowledge → Type 0) (world : World) → AsksAll pushes Asks world world [] []
asks_none pushes Asks world setting before stands sent = (before, (refl, stands))

pub asks_more : {Q A : Type 0} (pushes : Q → List (Key × State)) (Asks : Setting → Knowledge → Q → A → Knowledge → Type 0) → ((setting : Setting) → IsOneStep setting (Asks setting)) → (qs : List Q) (answers : List A) (q : Q) (a : A) (old mid new : World) → AsksAll pushes Asks old mid qs answers
    → LeadsWhere mid new (λ before. Each (WasSent before.messages) (pushes q)) (λ setting before after. Asks setting before q a after) → AsksAll pushes Asks old new (qs ++ q ∷ []) (answers ++ a ∷ [])
asks_more pushes Asks is qs answers q a old mid new so_far now setting before stands sent =
    let done = so_far setting before stands (Each-left (λ x. Each (WasSent before.messages) (pushes x)) qs (q ∷ []) sent) in
    let longer = one_by_one_longer setting (Asks setting) (is setting) before qs answers done.0 done.1.0 in
    let was = Each-weaker (WasSent before.messages) (WasSent done.0.messages) (λ pair w. sent_still before.messages done.0.messages pair longer w) (pushes q) (Each-right (λ x. Each (WasSent before.messages) (pushes x)) qs (q ∷ []) sent).0 in
    let next = now setting done.0 done.1.1 was in
    (next.0, (one_more_asked (Asks setting) qs answers q a before done.0 next.0 done.1.0 next.1.0, next.1.1))

-- questions none of which pushes
pub none_pushed : {Q : Type 0} (qs : List Q) (before : Knowledge) → PushSent (λ _. []) qs before
none_pushed [] before = tt
none_pushed (q ∷ qs) before = (tt, none_pushed qs before)

-- pushes, each of which was sent
pub each_pushed : (pairs : List (Key × State)) (before : Knowledge) → Each (WasSent before.messages) pairs → PushSent (λ pair. pair ∷ []) pairs before
each_pushed [] before sent = tt
each_pushed (pair ∷ pairs) before sent = ((sent.0, tt), each_pushed pairs before sent.1)

-- ---- how the code tells of a push

get_map : (ms : List SentMessage) (i : ℕ) (sending : SentMessage) → slice_get ms i ≡ Some sending → slice_get (map message_of ms) i ≡ Some (message_of sending)
get_map [] i sending h = cc
get_map (m ∷ ms) zero sending h = ap (λ o. option_map message_of o) h
get_map (m ∷ ms) (suc i) sending h = get_map ms i sending h

pub sent_in_world : (world : World) (before : Knowledge) (index : ℕ) (pair : Key × State) → world.messages.items ≡ map message_of before.messages → IsMessageAt before.messages index pair → slice_get world.messages.items index ≡ Some (record { key = pair.0; state = pair.1 })
sent_in_world world before index pair stand m =
    ap (λ ms. slice_get ms index) stand ∙ get_map before.messages index m.sending m.at
    ∙ ap₂ (λ k s. Some (record { key = k; state = s })) (sym m.of_key) (sym m.of_state)

-- ---- how the code tells of a window

pub window_asked : (old new : World) (site : ℕ) (window is : Window) (t : Told) → window ≡ is → LeadsWhere old new (λ before. Each (WasSent before.messages) (asked_in (Some is)).pushes) (λ setting before after. AsksWindow setting site before is t after)
    → LeadsWhere old new (λ before. Each (WasSent before.messages) (asked_in (Some window)).pushes) (λ setting before after. AsksWindow setting site before window t after)
window_asked old new site window is t same leads = subst (λ w. LeadsWhere old new (λ before. Each (WasSent before.messages) (asked_in (Some w)).pushes) (λ setting before after. AsksWindow setting site before w t after)) (sym same) leads

pub site_asked : (old new : World) (site : ℕ) (window : Option Window) (is : Window) (t : Told) → window ≡ Some is → LeadsWhere old new (λ before. Each (WasSent before.messages) (asked_in (Some is)).pushes) (λ setting before after. AsksWindow setting site before is t after)
    → LeadsWhere old new (λ before. Each (WasSent before.messages) (asked_in window).pushes) (λ setting before after. AsksOneSite setting site before window (Some t) after)
site_asked old new site window is t same leads = subst (λ w. LeadsWhere old new (λ before. Each (WasSent before.messages) (asked_in w).pushes) (λ setting before after. AsksOneSite setting site before w (Some t) after)) (sym same) leads

pub site_not_asked : (world : World) (site : ℕ) (window : Option Window) → window ≡ None → LeadsWhere world world (λ before. Each (WasSent before.messages) (asked_in window).pushes) (λ setting before after. AsksOneSite setting site before window None after)
site_not_asked world site window none = subst (λ w. LeadsWhere world world (λ before. Each (WasSent before.messages) (asked_in w).pushes) (λ setting before after. AsksOneSite setting site before w None after)) (sym none)
    (λ setting before stands sent. (before, ((refl, refl), stands)))
