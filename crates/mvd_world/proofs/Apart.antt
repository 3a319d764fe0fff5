-- In a sound world no two states clash.
use Rattle.std.proofs.Common.{◌≡◌, ◌≢◌, ℕ, Bool, true, false, MatchBool, List, ◌++◌, length, Contains, refl, sym, ap, ap₂, ◌∙◌, subst, ⊎_elim, true≢false}
use Rattle.std.proofs.lemmas.List.Elements.{Contains-append_cases}
use Rattle.mvd_dots.specs.declared.refusals.Refusal.TheVariants.{Broken, DotClash, Memory}
use Rattle.mvd_keys.specs.State.{clashes}
use Rattle.mvd_keys.specs.Writes.{Key, Agree, Write, state}
use Rattle.mvd_keys.proofs.Sets.{Agree-part, clashes-state}
use Rattle.mvd_wire.specs.declared.request.Request.{Request}
use Rattle.mvd_wire.specs.declared.request.Request.TheVariants.{Push}
use Rattle.mvd_wire.specs.declared.reply.Reply.{Reply}
use Rattle.mvd_wire.specs.declared.reply.Reply.TheVariants.{Refused}
use Rattle.mvd_site.specs.Answer.{states_of}
use Rattle.mvd_site.specs.Config.{ConfigValue}
use Rattle.mvd_site.specs.FromStates.{IsClashingPush as PushesClash, unless_broken}
use Rattle.mvd_site.specs.Held.{States, state_at}
use Rattle.mvd_site.specs.Known.{MayReply}
use Rattle.mvd_site.proofs.Answered.{answered}
use Rattle.mvd_site.proofs.Clashes.{clash_alone}
use Rattle.mvd_site.proofs.KnownKeys.{states_of-stands}
use Rattle.mvd_site.proofs.Steps.{state_at-stands}
use Rattle.mvd_sync.specs.Session.{Before, CannotMeet}
use Rattle.mvd_peer.specs.PushedStates.{Each}
use Rattle.mvd_sync.specs.Faults.{IsFaultOf}
use Rattle.mvd_sync.specs.declared.report.Left.{Left}
use Rattle.mvd_sync.specs.declared.report.Report.{Report}
use Rattle.mvd_sync.proofs.Answering.{each-take}
use Rattle.mvd_sync.proofs.Keys.{Each-weaker}
use Rattle.mvd_sync.specs.declared.report.SyncFault.{SyncFault}
use Rattle.mvd_world.specs.declared.steps.Step.{Step}
use Rattle.mvd_world.specs.declared.steps.Step.TheVariants.{Write as Write_at, Ask, Send, Receive, Session}
use Rattle.mvd_world.specs.declared.steps.Outcome.{Outcome}
use Rattle.mvd_world.specs.declared.steps.Outcome.TheVariants.{Replied, Sent as Sent_as, Met, Failed, NoSuch}
use Rattle.mvd_world.specs.Machine.{AnswersAtSite, IsClashFault, IsNoClash, IsOwn, IsConsistent, Knowledge, MayFail, MayStep, Receives, Setting, Takes, all_asked, is_site, it_refused, may_be, two_sites}
use Rattle.mvd_world.proofs.Sound.{asked_step, found, own_step}

-- ---- what was made agrees

pub agree_made : (world : Knowledge) → IsConsistent world → Agree world.made
agree_made world sound key dot seen also_seen document other here there = (sound.one_put key dot seen also_seen document other here there).1

abbrev pub WasMade : Knowledge → List Write → Type 0
WasMade world V = (w : Write) → Contains V w → Contains world.made w

pub agree_within : (world : Knowledge) (V : List Write) → IsConsistent world → WasMade world V → Agree V
agree_within world V sound part = Agree-part V world.made part (agree_made world sound)

pub apart_within : (world : Knowledge) (V W : List Write) (key : Key) → IsConsistent world → WasMade world V → WasMade world W → clashes (state key V) (state key W) ≡ false
apart_within world V W key sound first second =
    clashes-state key V W (agree_within world (V ++ W) sound (λ w here. ⊎_elim (first w) (second w) (Contains-append_cases V W w here)))

-- ---- so no reply tells a clash

pub reply_clash : (config : ConfigValue) (W : List Write) (was : Bool) (request : Request) (reply : Reply) (is : Bool) → MayReply config W was request reply is → reply ≡ Refused DotClash → PushesClash (states_of W) request
reply_clash config W false request reply false may e = ⊎_elim
    (λ same. clash_alone config (states_of W) request (answered config (states_of W) W request (states_of-stands W) ∙ sym same ∙ e))
    (λ memory. absurd (let f : Refused Memory ≡ Refused DotClash = sym memory ∙ e in cc))
    may
reply_clash config W false request reply true may e = absurd (let f : Refused Broken ≡ Refused DotClash = sym may.0 ∙ e in cc)
reply_clash config W true request reply false may e = absurd may
reply_clash config W true request reply true may e = absurd (let f : Refused Broken ≡ Refused DotClash = sym may ∙ e in cc)

own_apart : (m : States) (request : Request) → IsOwn request → PushesClash m request → ⊥
own_apart m (Push key pushed) own clash = cc
own_apart m request own clash = clash

replied_is : (r s : Reply) → Replied r ≡ Replied s → r ≡ s
replied_is r s e = cc

failed_is : (f g : SyncFault) → Failed f ≡ Failed g → f ≡ g
failed_is f g e = cc

pub reply_apart : (reply : Reply) → reply ≢ Refused DotClash → IsNoClash (Replied reply)
reply_apart reply other = record { reply = λ e. other (replied_is reply (Refused DotClash) e); fault = λ fault e is. cc; keys = λ report e. absurd (cc) }

answers_apart : (setting : Setting) (before : Knowledge) (site : ℕ) (request : Request) (reply : Reply) (after : Knowledge) → IsOwn request → AnswersAtSite setting before site request reply after → IsNoClash (Replied reply)
answers_apart setting before site request reply after own told = reply_apart reply (λ e. own_apart (states_of (before.known site)) request own
    (reply_clash told.config (before.known site) (before.broken site) request reply told.broken told.replies e))

receives_apart : (setting : Setting) (before : Knowledge) (site message : ℕ) (reply : Reply) (after : Knowledge) → IsConsistent before → Receives setting before site message reply after → IsNoClash (Replied reply)
receives_apart setting before site message reply after sound told = reply_apart reply (λ e.
    let key = told.sending.key in
    let W = before.known site in
    let clash : clashes (state_at (states_of W) key) (state key told.sending.writes) ≡ true = reply_clash told.config W (before.broken site) (Push key (state key told.sending.writes)) reply told.broken told.replies e in
    let apart : clashes (state key W) (state key told.sending.writes) ≡ false =
    apart_within before W told.sending.writes key sound (sound.known site) (λ w here. sound.sent told.sending w (found before.messages _ told.sending told.sent) here) in
    true≢false (sym clash ∙ ap (λ s. clashes s (state key told.sending.writes)) (state_at-stands (states_of W) W key (states_of-stands W)) ∙ apart))

-- ---- nor does a session

no_states_clash : (before : Knowledge) (local peer : ℕ) → IsConsistent before → (key : Key) → clashes (state_at (states_of (before.known local)) key) (state_at (states_of (before.known peer)) key) ≡ false
no_states_clash before local peer sound key =
    let V = before.known local in
    let W = before.known peer in
    ap₂ clashes (state_at-stands (states_of V) V key (states_of-stands V)) (state_at-stands (states_of W) W key (states_of-stands W))
    ∙ apart_within before V W key sound (sound.known local) (sound.known peer)

-- no key is refused for a clash
left_apart : (before : Before) → ((key : Key) → clashes (state_at before.held.local key) (state_at before.held.peer key) ≡ false) → (l : Left) → CannotMeet before l.side l.key l.refusal → l.refusal ≢ DotClash
left_apart before apart l cannot is =
    let clash : clashes (state_at before.held.local l.key) (state_at before.held.peer l.key) ≡ true = subst (CannotMeet before l.side l.key) is cannot in
    true≢false (sym clash ∙ apart l.key)

-- nor is a session
is_none : (a b held : States) (broken : Bool) → MayFail a b held broken DotClash → ⊥
is_none a b held broken (it_refused site key told) = true≢false key
is_none a b held broken (all_asked first again mine theirs e all little few) = absurd (cc)

fault_apart : (a b : States) (mine theirs : Bool) (fault : SyncFault) → IsFaultOf (MayFail a b a mine) (MayFail a b b theirs) fault → IsClashFault fault → ⊥
fault_apart a b mine theirs fault fails is = ⊎_elim
    (λ e. is_none a b a mine (subst (IsFaultOf (MayFail a b a mine) (MayFail a b b theirs)) e fails))
    (λ e. is_none a b b theirs (subst (IsFaultOf (MayFail a b a mine) (MayFail a b b theirs)) e fails))
    is

met_is : (r s : Report) → Met r ≡ Met s → r ≡ s
met_is r s e = cc

not_sent_apart : (broken : Bool) → Refused (unless_broken broken Broken Memory) ≡ Refused DotClash → ⊥
not_sent_apart true e = cc
not_sent_apart false e = cc

takes_apart : (setting : Setting) (before : Knowledge) (step : Step) (outcome : Outcome) (after : Knowledge) → IsConsistent before → may_be (is_site setting) (length before.messages) step ≡ true → Takes setting before step outcome after → IsNoClash outcome
takes_apart setting before (Write_at site request) (Replied reply) after sound may told = answers_apart setting before site request reply after (own_step _ request may) told
takes_apart setting before (Ask site request) (Replied reply) after sound may told = answers_apart setting before site request reply after (asked_step _ request may) told
takes_apart setting before (Send site key) (Sent_as number) after sound may told = record { reply = λ e. cc; fault = λ fault e is. cc; keys = λ report e. absurd (cc) }
takes_apart setting before (Send site key) (Replied reply) after sound may told = reply_apart reply (λ e. not_sent_apart (before.broken site) (sym told.refused ∙ e))
takes_apart setting before (Receive site message) (Replied reply) after sound may told = receives_apart setting before site message reply after sound told
takes_apart setting before (Session local peer) (Met report) after sound may told = record {
  reply = λ e. cc;
  fault = λ fault e is. cc;
  keys = λ other e.
      let tells = told.tells in
      let apart = no_states_clash before local peer sound in
      let meeting = two_sites told.mine told.theirs local (before.known local) (before.known peer) in
      subst (λ (r : Report). Each (λ l. l.refusal ≢ DotClash) r.first_refused) (met_is report other e)
      (subst (Each (λ l. l.refusal ≢ DotClash)) (sym tells.counted.2) (each-take (λ l. l.refusal ≢ DotClash) tells.left 100
      (Each-weaker (λ l. CannotMeet meeting l.side l.key l.refusal) (λ l. l.refusal ≢ DotClash) (left_apart meeting apart) tells.left tells.causes)));
}
takes_apart setting before (Session local peer) (Failed fault) after sound may told = record {
  reply = λ e. cc;
  fault = λ other e is. fault_apart (states_of (before.known local)) (states_of (before.known peer)) told.local_broken told.peer_broken fault told.fails (subst IsClashFault (sym (failed_is fault other e)) is);
  keys = λ report e. absurd (cc);
}
takes_apart setting before step outcome after sound may told = absurd told

-- no step is answered that two documents of one dot clash
pub step_apart : (setting : Setting) (before : Knowledge) (step : Step) (outcome : Outcome) (after : Knowledge) → IsConsistent before → MayStep setting before step outcome after → IsNoClash outcome
step_apart setting before step outcome after sound =
    elim (may_be (is_site setting) (length before.messages) step) as (λ b. may_be (is_site setting) (length before.messages) step ≡ b → MatchBool b (Takes setting before step outcome after) ((outcome ≡ NoSuch) × (after ≡ before)) → IsNoClash outcome) [
      | true ↦ λ may told. takes_apart setting before step outcome after sound may told
      | false ↦ λ _ same. subst IsNoClash (sym same.0) (record { reply = λ e. cc; fault = λ fault e is. cc; keys = λ report e. absurd (cc) })
    ] refl
