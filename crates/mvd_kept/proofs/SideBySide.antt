-- What a change of one key leaves of a change of another that was prepared beside it.
use Rattle.std.proofs.lemmas.Bool.Decides.{nat_tests}
use Rattle.std.proofs.Common.{◌≡◌, ◌≢◌, ℕ, ◌+◌, ◌<◌, ◌==◌, arith, Bool, true, false, not, ◌&&◌, cond, if◌then◌else◌, Option, Some, None, is_some, unwrap_or, refl, sym, ap, ◌∙◌, subst}
use Rattle.std.specs.FinMap.{get, get-insert, insert, len as map_len, len-insert}
use Rattle.std.specs.FinSet.{union}
use Rattle.mvd_dots.specs.Dot.{DotValue}
use Rattle.mvd_dots.specs.Context.{DotSet}
use Rattle.mvd_dots.specs.declared.refusals.Refusal.TheVariants.{DotClash, Full, StateTooLarge}
use Rattle.mvd_keys.specs.Minting.{mint}
use Rattle.mvd_keys.specs.State.{State, Text, after_delete, after_put, clashes, empty_state, join}
use Rattle.mvd_keys.specs.Writes.{Key, is_empty}
use Rattle.mvd_keys.proofs.KeyOrder.{key_total}
use Rattle.mvd_keys.proofs.StatesOfWrites.{key_apart}
use Rattle.mvd_wire.specs.declared.request.Request.{Request}
use Rattle.mvd_wire.specs.declared.request.Request.TheVariants.{Delete, Push, Put}
use Rattle.mvd_wire.specs.declared.reply.Reply.{Reply}
use Rattle.mvd_wire.specs.declared.reply.Reply.TheVariants.{Done, Refused, Written}
use Rattle.mvd_kept.specs.Answer.{is_too_large}
use Rattle.mvd_kept.specs.Change.{ChangeValue, change_reply}
use Rattle.mvd_kept.specs.Config.{ConfigValue}
use Rattle.mvd_kept.specs.FromStates.{answer_from, change_from, put_from, with_change, with_state, within}
use Rattle.mvd_kept.specs.Held.{States, state_at}
use Rattle.mvd_kept.specs.Prepared.{IsChangeNow, PreparesChangeFrom}
use Rattle.mvd_kept.specs.Sites.{SiteValue, has_no_room}
use Rattle.mvd_kept.proofs.Answered.{insert_differs, with_state-seen}

same_state : (m n : States) (key : Key) → get n key ≡ get m key → state_at n key ≡ state_at m key
same_state m n key same = ap (λ o. unwrap_or o empty_state) same

-- what was within the limits stays there while there is room
limits : (large full other seen : Bool) (dot : Option DotValue) (reply : Reply) → (if large then Refused StateTooLarge else if full && seen then Refused Full else reply) ≡ change_reply dot → other ≡ false →
    (if large then Refused StateTooLarge else if other && seen then Refused Full else reply) ≡ change_reply dot
limits true full other seen dot reply is room = is
limits false true other true None reply is room = cc
limits false true other true (Some dot) reply is room = cc
limits false true other false dot reply is room = ap (λ b. if b && false then Refused Full else reply) room ∙ is
limits false false other seen dot reply is room = ap (λ b. if b && seen then Refused Full else reply) room ∙ is

within_still : (config : ConfigValue) (m n : States) (key : Key) (s : State) (reply : Reply) (dot : Option DotValue) → has_no_room config n key ≡ false →
    within config m key s reply ≡ change_reply dot → within config n key s reply ≡ change_reply dot
within_still config m n key s reply dot room is = limits (is_too_large s) (has_no_room config m key) (has_no_room config n key) (not (is_empty s.context)) dot reply is room

put_still : (config : ConfigValue) (m n : States) (key : Key) (seen : DotSet) (document : Text) (next : Option DotValue) (dot : Option DotValue) → get n key ≡ get m key → has_no_room config n key ≡ false →
    put_from config m key seen document next ≡ change_reply dot → put_from config n key seen document next ≡ change_reply dot
put_still config m n key seen document None dot same room is = is
put_still config m n key seen document (Some new) dot same room is =
    ap (λ s. within config n key (after_put s new seen document) (Written new)) (same_state m n key same)
    ∙ within_still config m n key (after_put (state_at m key) new seen document) (Written new) dot room is

pushes : (large clash : Bool) (reply other : Reply) (dot : Option DotValue) → (reply ≡ change_reply dot → other ≡ change_reply dot) →
    (if large then Refused StateTooLarge else if clash then Refused DotClash else reply) ≡ change_reply dot →
    (if large then Refused StateTooLarge else if clash then Refused DotClash else other) ≡ change_reply dot
pushes true clash reply other dot still is = is
pushes false true reply other dot still is = is
pushes false false reply other dot still is = still is

-- the key of a change is that of its request
keyed : (key : Key) (s : State) (c : Key × State) → Some (key, s) ≡ Some c → key ≡ c.0
keyed key s c is = let same : ◌≡◌ {A = Key × State} (key, s) c = cc in ap (λ p. p.0) same

at_key : (m n : States) (key : Key) (s : State) (c : Key × State) → Some (key, s) ≡ Some c → get n c.0 ≡ get m c.0 → get n key ≡ get m key
at_key m n key s c is same = subst (λ k. get n k ≡ get m k) (sym (keyed key s c is)) same

room_at : (config : ConfigValue) (n : States) (key : Key) (s : State) (c : Key × State) → Some (key, s) ≡ Some c → has_no_room config n c.0 ≡ false → has_no_room config n key ≡ false
room_at config n key s c is room = subst (λ k. has_no_room config n k ≡ false) (sym (keyed key s c is)) room

change_still : (m n : States) (request : Request) (reply : Reply) (c : Key × State) → get n c.0 ≡ get m c.0 → change_from m request reply ≡ Some c → change_from n request reply ≡ Some c
change_still m n (Put key seen document) (Written dot) c same is =
    ap (λ s. Some (key, after_put s dot seen document)) (same_state m n key (at_key m n key (after_put (state_at m key) dot seen document) c is same)) ∙ is
change_still m n (Delete key seen) Done c same is =
    ap (λ s. Some (key, after_delete s seen)) (same_state m n key (at_key m n key (after_delete (state_at m key) seen) c is same)) ∙ is
change_still m n (Push key pushed) Done c same is =
    ap (λ s. Some (key, join s pushed)) (same_state m n key (at_key m n key (join (state_at m key) pushed) c is same)) ∙ is
change_still m n request reply c same is = cc

answer_still : (config : ConfigValue) (m n : States) (request : Request) (dot : Option DotValue) (c : Key × State) → get n c.0 ≡ get m c.0 → has_no_room config n c.0 ≡ false →
    change_from m request (change_reply dot) ≡ Some c → answer_from config m request ≡ change_reply dot → answer_from config n request ≡ change_reply dot
answer_still config m n (Put key seen document) (Some dot) c same room leaves is =
    let s : State = after_put (state_at m key) dot seen document in
    let here : get n key ≡ get m key = at_key m n key s c leaves same in
    ap (λ t. put_from config n key seen document (mint config.site (union t.context seen))) (same_state m n key here)
    ∙ put_still config m n key seen document (mint config.site (union (state_at m key).context seen)) (Some dot) here (room_at config n key s c leaves room) is
answer_still config m n (Delete key seen) None c same room leaves is =
    let s : State = after_delete (state_at m key) seen in
    ap (λ t. within config n key (after_delete t seen) Done) (same_state m n key (at_key m n key s c leaves same))
    ∙ within_still config m n key s Done None (room_at config n key s c leaves room) is
answer_still config m n (Push key pushed) None c same room leaves is =
    let s : State = join (state_at m key) pushed in
    ap (λ t. if is_too_large pushed then Refused StateTooLarge else if clashes t pushed then Refused DotClash else within config n key (join t pushed) Done) (same_state m n key (at_key m n key s c leaves same))
    ∙ pushes (is_too_large pushed) (clashes (state_at m key) pushed) (within config m key s Done) (within config n key s Done) None
    (λ done. within_still config m n key s Done None (room_at config n key s c leaves room) done) is
answer_still config m n request dot c same room leaves is = cc

-- a change has seen a dot
change_seen : (m : States) (key : Key) (s : State) → s ≢ state_at m key → with_state m key s ≡ insert m key s → is_empty s.context ≡ false
change_seen m key s differs after =
    elim (is_empty s.context) as (λ b. (if b then m else insert m key s) ≡ insert m key s → b ≡ false) [
      | true ↦ λ still. absurd (insert_differs m key s differs (sym still))
      | false ↦ λ _. refl
    ] after

now_still : (config : ConfigValue) (m n : States) (request : Request) (change : ChangeValue) → get n change.key ≡ get m change.key → has_no_room config n change.key ≡ false →
    PreparesChangeFrom config m request change → PreparesChangeFrom config n request change
now_still config m n request change same room was =
    let c : Key × State = (change.key, change.state) in
    let told : answer_from config m request ≡ change_reply change.dot = sym was.answers in
    let left : change_from m request (change_reply change.dot) ≡ Some c = ap (change_from m request) was.answers ∙ was.leaves in
    let is : answer_from config n request ≡ change_reply change.dot = answer_still config m n request change.dot c same room left told in
    let leaves : change_from n request (answer_from config n request) ≡ Some c = ap (change_from n request) is ∙ change_still m n request (change_reply change.dot) c same left in
    let seen : is_empty change.state.context ≡ false = change_seen m change.key change.state was.differs (sym (ap (with_change m) was.leaves) ∙ was.after) in
    record {
      answers = sym is;
      leaves = leaves;
      differs = λ e. was.differs (e ∙ same_state m n change.key same);
      held = was.held ∙ ap is_some (sym same);
      after = ap (with_change n) leaves ∙ with_state-seen n change.key change.state seen;
    }

pub still_now : (site : SiteValue) (first second : ChangeValue) → IsChangeNow site first → IsChangeNow site second → first.key ≢ second.key →
    has_no_room site.config (insert site.states first.key first.state) second.key ≡ false →
    IsChangeNow (record { config = site.config; states = insert site.states first.key first.state; broken = false }) second
still_now site first second now also apart room =
    let same : get (insert site.states first.key first.state) second.key ≡ get site.states second.key =
    get-insert key_total site.states first.key first.state second.key
    ∙ ap (λ b. cond b (Some first.state) (get site.states second.key)) (key_apart second.key first.key (λ e. apart (sym e))) in
    (also.0, now_still site.config site.states (insert site.states first.key first.state) also.0 second same room also.1)

not_full : (b : Bool) (n most : ℕ) → n < most → (not b && (n == most)) ≡ false
not_full true n most few = refl
not_full false n most few = grind (arith, nat_tests)

-- where two more keys have room, one has room after the other
pub room_for_both : (config : ConfigValue) (states : States) (key other : Key) (s : State) → map_len states + 1 < config.max_keys → has_no_room config (insert states key s) other ≡ false
room_for_both config states key other s few =
    subst (λ n. (not (is_some (get (insert states key s) other)) && (n == config.max_keys)) ≡ false) (sym (len-insert key_total states key s))
    (elim (is_some (get states key)) as (λ b. (not (is_some (get (insert states key s) other)) && (cond b (map_len states) (map_len states + 1) == config.max_keys)) ≡ false) [
      | true ↦ not_full (is_some (get (insert states key s) other)) (map_len states) config.max_keys (grind (arith, few))
      | false ↦ not_full (is_some (get (insert states key s) other)) (map_len states + 1) config.max_keys few
    ])
