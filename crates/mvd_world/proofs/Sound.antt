-- Every step of the machine keeps it sound.
use Rattle.std.proofs.Common.{◌≡◌, ◌⊎◌, ℕ, ◌-◌, Bool, true, false, ◌||◌, ◌&&◌, zero, suc, ◌==◌, cond, if◌then◌else◌, MatchBool, List, [], ◌∷◌, ◌++◌, filter, length, Contains, Option, Some, None, Result, Ok, Err, refl, sym, ap, ◌∙◌, subst, inl, ⊎_elim, arith, eq-eqb}
use Rattle.std.specs.List.{slice_get}
use Rattle.std.specs.FinSet.{union}
use Rattle.std.proofs.lemmas.List.Elements.{Contains-append_left, Contains-append_right, Contains-append_cases, Contains-push_cases}
use Rattle.mvd_dots.specs.Dot.{DotValue}
use Rattle.mvd_dots.specs.Context.{DotSet}
use Rattle.mvd_dots.specs.declared.refusals.Refusal.TheVariants.{Broken, Memory}
use Rattle.mvd_keys.specs.Minting.{mint}
use Rattle.mvd_keys.specs.State.{State, Text}
use Rattle.mvd_keys.specs.Writes.{AreOf, Key, Write, Wrote, Deleted, context}
use Rattle.mvd_keys.proofs.Minted.{minted_next, minted_unwritten}
use Rattle.mvd_keys.proofs.Sets.{Contains-either, Contains-head, Contains-later, none_empty}
use Rattle.mvd_keys.proofs.Standing.{AreOf-writes_of}
use Rattle.mvd_wire.specs.declared.request.Request.{Request}
use Rattle.mvd_wire.specs.declared.request.Request.TheVariants.{Put, Delete, Push}
use Rattle.mvd_wire.specs.declared.reply.Reply.{Reply}
use Rattle.mvd_wire.specs.declared.reply.Reply.TheVariants.{Written, Done, Refused}
use Rattle.mvd_site.specs.Answer.{States, answer, is_question, put_from, states_of}
use Rattle.mvd_site.specs.Config.{ConfigValue}
use Rattle.mvd_site.specs.Known.{Adds, MayReply}
use Rattle.mvd_site.proofs.Steps.{state_known}
use Rattle.mvd_site.proofs.Answered.{limited_cases}
use Rattle.mvd_sync.specs.declared.report.Report.{Report}
use Rattle.mvd_sync.specs.declared.report.SyncFault.{SyncFault}
use Rattle.mvd_world.specs.declared.steps.Step.{Step}
use Rattle.mvd_world.specs.declared.steps.Step.TheVariants.{Write as Write_at, Ask, Send, Receive, Session}
use Rattle.mvd_world.specs.declared.steps.Outcome.{Outcome}
use Rattle.mvd_world.specs.declared.steps.Outcome.TheVariants.{Replied, Sent as Sent_as, Met, Failed, NoSuch}
use Rattle.mvd_world.specs.Machine.{AnswersAtSite, IsConsistent, Knowledge, MayStep, MeetSites, OnePutPerDot, Receives, RunsSteps, SentMessage, Sends, Setting, Takes, becomes, IsOwn, is_site, is_write, learns, may_be, nothing_yet, received, writes_in}

-- ---- what is known

learned : (known : ℕ → List Write) (site : ℕ) (more : List Write) (other : ℕ) (w : Write) → Contains (learns known site more other) w → Contains (known other) w ⊎ Contains more w
learned known site more other w = elim (other == site) as (λ b. Contains (if b then known other ++ more else known other) w → Contains (known other) w ⊎ Contains more w) [
  | true ↦ Contains-append_cases (known other) more w
  | false ↦ λ here. inl here
]

kept : (known : ℕ → List Write) (site : ℕ) (more : List Write) (other : ℕ) (w : Write) → Contains (known other) w → Contains (learns known site more other) w
kept known site more other w here = elim (other == site) as (λ b. Contains (if b then known other ++ more else known other) w) [ true ↦ Contains-append_left (known other) more w here | false ↦ here ]

own_learned : (known : ℕ → List Write) (site : ℕ) (more : List Write) (other : ℕ) (w : Write) → other ≡ site → Contains more w → Contains (learns known site more other) w
own_learned known site more other w same here = subst (λ b. Contains (if b then known other ++ more else known other) w) (sym (eq-eqb other site same)) (Contains-append_right (known other) more w here)

pub from_filter : (p : Write → Bool) (W : List Write) (w : Write) → Contains (filter p W) w → Contains W w
from_filter p [] w here = here
from_filter p (v ∷ W) w here =
    elim (p v) as (λ b. Contains (cond b (v ∷ filter p W) (filter p W)) w → Contains (v ∷ W) w) [
      | true ↦ λ here. ⊎_elim (λ e. subst (Contains (v ∷ W)) e (Contains-head v W)) (λ later. Contains-later w v W (from_filter p W w later)) (Contains-either w v (filter p W) here)
      | false ↦ λ here. Contains-later w v W (from_filter p W w here)
    ] here

-- ---- learning what was made

pub sound_learns : (before : Knowledge) (site : ℕ) (more : List Write) (broken : ℕ → Bool) → IsConsistent before → ((w : Write) → Contains more w → Contains before.made w) →
    IsConsistent (record { known = learns before.known site more; broken = broken; messages = before.messages; made = before.made })
sound_learns before site more broken sound part = record {
  known = λ other w here. ⊎_elim (λ old. sound.known other w old) (λ new. part w new) (learned before.known site more other w here);
  sent = sound.sent;
  of_key = sound.of_key;
  one_put = sound.one_put;
  own = λ key dot seen document here. kept before.known site more dot.site _ (sound.own key dot seen document here);
}

-- ---- what a write adds

pub record IsNew (before : Knowledge) (site : ℕ) (added : List Write) : Type 0 where
  pub own : (key : Key) (dot : DotValue) (seen : DotSet) (document : Text) → Contains added (Wrote key dot seen document) → dot.site ≡ site
  pub fresh : (key : Key) (dot : DotValue) (seen also_seen : DotSet) (document other : Text) → Contains added (Wrote key dot seen document) → Contains before.made (Wrote key dot also_seen other) → ⊥
  pub one_put : OnePutPerDot added

IsNew-none : (before : Knowledge) (site : ℕ) (added : List Write) → added ≡ [] → IsNew before site added
IsNew-none before site added none = record {
  own = λ key dot seen document here. absurd (none_empty _ (subst (λ W. Contains W (Wrote key dot seen document)) none here));
  fresh = λ key dot seen also_seen document other here there. none_empty _ (subst (λ W. Contains W (Wrote key dot seen document)) none here);
  one_put = λ key dot seen also_seen document other here there. absurd (none_empty _ (subst (λ W. Contains W (Wrote key dot seen document)) none here));
}

only : (w v : Write) → Contains (w ∷ []) v → w ≡ v
only w v here = ⊎_elim (λ e. e) (λ none. absurd (none_empty v none)) (Contains-either v w [] here)

IsNew-delete : (before : Knowledge) (site : ℕ) (key : Key) (seen : DotSet) → IsNew before site (Deleted key seen ∷ [])
IsNew-delete before site key seen = record {
  own = λ k dot s d here. let e : Deleted key seen ≡ Wrote k dot s d = only _ _ here in cc;
  fresh = λ k dot s t d o here there. let e : Deleted key seen ≡ Wrote k dot s d = only _ _ here in cc;
  one_put = λ k dot s t d o here there. let e : Deleted key seen ≡ Wrote k dot s d = only _ _ here in cc;
}

IsNew-put : (before : Knowledge) (site : ℕ) (key : Key) (dot : DotValue) (seen : DotSet) (document : Text) → IsConsistent before →
    mint site (union (context key (before.known site)) seen) ≡ Some dot → IsNew before site (Wrote key dot seen document ∷ [])
IsNew-put before site key dot seen document sound minted =
    let mine : dot.site ≡ site = (minted_next site _ dot minted).own in
    record {
      own = λ k d s x here. let e : Wrote key dot seen document ≡ Wrote k d s x = only _ _ here in let same : dot ≡ d = cc in ap (λ (y : DotValue). y.site) (sym same) ∙ mine;
      fresh = λ k d s t x o here there.
          let e : Wrote key dot seen document ≡ Wrote k d s x = only _ _ here in
          let same_key : k ≡ key = cc in
          let same : d ≡ dot = cc in
          let there_too : Contains before.made (Wrote key dot t o) = subst (Contains before.made) (λ i. Wrote (same_key i) (same i) t o) there in
          let known_there : Contains (before.known dot.site) (Wrote key dot t o) = sound.own key dot t o there_too in
          minted_unwritten key (before.known site) site seen t dot o minted (subst (λ n. Contains (before.known n) (Wrote key dot t o)) mine known_there);
      one_put = λ k d s t x o here there.
          let e : Wrote key dot seen document ≡ Wrote k d s x = only _ _ here in
          let f : Wrote key dot seen document ≡ Wrote k d t o = only _ _ there in
          let one : s ≡ t = cc in let other : x ≡ o = cc in (one, other);
    }

-- a put that is answered with a dot has it from the mint
answer_written : (config : ConfigValue) (m : States) (key : Key) (seen : DotSet) (document : Text) (dot : DotValue) (minted : Option DotValue) → Written dot ≡ put_from config m key seen document minted → minted ≡ Some dot
answer_written config m key seen document dot None e = cc
answer_written config m key seen document dot (Some d) e =
    limited_cases (λ r. Written dot ≡ r → ◌≡◌ {A = Option DotValue} (Some d) (Some dot)) config _ _ _ (Written d) (λ e. cc) (λ e. cc) (λ e. let one : dot ≡ d = cc in ap Some (sym one)) e

may_written : (config : ConfigValue) (known : List Write) (was : Bool) (request : Request) (reply : Reply) (is : Bool) → MayReply config known was request reply is →
    (dot : DotValue) → reply ≡ Written dot → reply ≡ answer config known request
may_written config known false request reply false may dot written = ⊎_elim (λ e. e) (λ e. absurd (let f : Written dot ≡ Refused Memory = sym written ∙ e in cc)) may
may_written config known false request reply true may dot written = absurd (let f : Written dot ≡ Refused Broken = sym written ∙ may.0 in cc)
may_written config known true request reply false may dot written = absurd may
may_written config known true request reply true may dot written = absurd (let f : Written dot ≡ Refused Broken = sym written ∙ may in cc)

-- a request's reply is its answer where it tells a dot
abbrev pub IsAnswered : ConfigValue → List Write → Request → Reply → Type 0
IsAnswered config known request reply = (dot : DotValue) → reply ≡ Written dot → reply ≡ answer config known request

pub IsNew-adds : (config : ConfigValue) (before : Knowledge) (site : ℕ) (request : Request) (reply : Reply) (added : List Write) → IsConsistent before → site ≡ config.site → IsOwn request →
    IsAnswered config (before.known site) request reply → Adds request reply added → IsNew before site added
IsNew-adds config before site (Put key seen document) (Written dot) added sound number own told adds = subst (IsNew before site) (sym adds)
    (IsNew-put before site key dot seen document sound
    (subst (λ n. mint n (union (context key (before.known site)) seen) ≡ Some dot) (sym number)
    (ap (λ (s : State). mint config.site (union s.context seen)) (sym (state_known (before.known site) key))
    ∙ answer_written config (states_of (before.known site)) key seen document dot _ (told dot refl))))
IsNew-adds config before site (Delete key seen) Done added sound number own told adds = subst (IsNew before site) (sym adds) (IsNew-delete before site key seen)
IsNew-adds config before site (Push key pushed) reply added sound number own told adds = cc
IsNew-adds config before site request reply added sound number own told adds = IsNew-none before site added adds

pub sound_makes : (before : Knowledge) (site : ℕ) (added : List Write) (broken : ℕ → Bool) → IsConsistent before → IsNew before site added →
    IsConsistent (record { known = learns before.known site added; broken = broken; messages = before.messages; made = before.made ++ added })
sound_makes before site added broken sound new = record {
  known = λ other w here. ⊎_elim (λ old. Contains-append_left before.made added w (sound.known other w old)) (λ more. Contains-append_right before.made added w more) (learned before.known site added other w here);
  sent = λ sending w there here. Contains-append_left before.made added w (sound.sent sending w there here);
  of_key = sound.of_key;
  one_put = λ key dot seen also_seen document other here there.
      ⊎_elim
      (λ old. ⊎_elim (λ old_too. sound.one_put key dot seen also_seen document other old old_too) (λ more. absurd (new.fresh key dot also_seen seen other document more old)) (Contains-append_cases before.made added _ there))
      (λ more. ⊎_elim (λ old. absurd (new.fresh key dot seen also_seen document other more old)) (λ more_too. new.one_put key dot seen also_seen document other more more_too) (Contains-append_cases before.made added _ there))
      (Contains-append_cases before.made added _ here);
  own = λ key dot seen document here. ⊎_elim
      (λ old. kept before.known site added dot.site _ (sound.own key dot seen document old))
      (λ more. own_learned before.known site added dot.site _ (new.own key dot seen document more) more)
      (Contains-append_cases before.made added _ here);
}

-- ---- each step

-- what an answered request adds is new
pub answers_new : (setting : Setting) (before : Knowledge) (site : ℕ) (request : Request) (reply : Reply) (after : Knowledge) → IsConsistent before → IsOwn request → (told : AnswersAtSite setting before site request reply after) → IsNew before site told.added
answers_new setting before site request reply after sound own told =
    IsNew-adds told.config before site request reply told.added sound (setting.numbers site told.config told.setup) own
    (may_written told.config (before.known site) (before.broken site) request reply told.broken told.replies) told.adds

pub sound_answers : (setting : Setting) (before : Knowledge) (site : ℕ) (request : Request) (reply : Reply) (after : Knowledge) → IsConsistent before → IsOwn request → AnswersAtSite setting before site request reply after → IsConsistent after
sound_answers setting before site request reply after sound own told = subst IsConsistent (sym told.is)
    (sound_makes before site told.added (becomes before.broken site told.broken) sound (answers_new setting before site request reply after sound own told))

pub sound_sends : (before : Knowledge) (site : ℕ) (key : Key) (number : ℕ) (after : Knowledge) → IsConsistent before → Sends before site key number after → IsConsistent after
sound_sends before site key number after sound sends = subst IsConsistent (sym sends.is) (record {
  known = sound.known;
  sent = λ sending w there here. ⊎_elim
      (λ old. sound.sent sending w old here)
      (λ new. sound.known site w (from_filter _ (before.known site) w (subst (λ (m : SentMessage). Contains m.writes w) (sym new) here)))
      (Contains-push_cases before.messages _ sending there);
  of_key = λ sending there. ⊎_elim
      (λ old. sound.of_key sending old)
      (λ new. subst (λ (m : SentMessage). AreOf m.key m.writes) new (AreOf-writes_of key (before.known site)))
      (Contains-push_cases before.messages _ sending there);
  one_put = sound.one_put;
  own = sound.own;
})

-- an element that is found is one
pub found : {X : Type 0} (xs : List X) (i : ℕ) (x : X) → slice_get xs i ≡ Some x → Contains xs x
found [] i x h = cc
found (y ∷ xs) zero x h = (0, omega arith, cc)
found (y ∷ xs) (suc i) x h = let later : Contains xs x = found xs i x h in (suc later.0, omega (arith, later.1), later.2)

received_part : (reply : Reply) (writes : List Write) (w : Write) → Contains (received reply writes) w → Contains writes w
received_part Done writes w here = here
received_part reply writes w here = absurd (none_empty w here)

pub sound_receives : (setting : Setting) (before : Knowledge) (site message : ℕ) (reply : Reply) (after : Knowledge) → IsConsistent before → Receives setting before site message reply after → IsConsistent after
sound_receives setting before site message reply after sound told = subst IsConsistent (sym told.is)
    (sound_learns before site (received reply told.sending.writes) (becomes before.broken site told.broken) sound
    (λ w here. sound.sent told.sending w (found before.messages (message - 1) told.sending told.sent) (received_part reply told.sending.writes w here)))

pub sound_meets : (setting : Setting) (before : Knowledge) (local peer : ℕ) (result : Result Report SyncFault) (after : Knowledge) → IsConsistent before → MeetSites setting before local peer result after → IsConsistent after
sound_meets setting before local peer result after sound told =
    let first : Knowledge = record { known = learns before.known local (writes_in told.joined (before.known peer)); broken = before.broken; messages = before.messages; made = before.made } in
    let sound_first : IsConsistent first = sound_learns before local (writes_in told.joined (before.known peer)) before.broken sound (λ w here. sound.known peer w (from_filter _ (before.known peer) w here)) in
    subst IsConsistent (sym told.is)
    (sound_learns first peer (writes_in told.given (first.known local)) (becomes (becomes before.broken local told.local_broken) peer told.peer_broken) sound_first
    (λ w here. sound_first.known local w (from_filter _ (first.known local) w here)))

-- ---- any step

pub own_step : (a : Bool) (request : Request) → (a && is_write request) ≡ true → IsOwn request
own_step true request h = ap (λ c. c || is_question request) h
own_step false request h = cc

pub asked_step : (a : Bool) (request : Request) → (a && is_question request) ≡ true → IsOwn request
asked_step true request h = ap (λ c. is_write request || c) h ∙ or-true (is_write request)
  where
    or-true : (b : Bool) → (b || true) ≡ true
    or-true true = refl
    or-true false = refl
asked_step false request h = cc

sound_takes : (setting : Setting) (before : Knowledge) (step : Step) (outcome : Outcome) (after : Knowledge) → IsConsistent before → may_be (is_site setting) (length before.messages) step ≡ true → Takes setting before step outcome after → IsConsistent after
sound_takes setting before (Write_at site request) (Replied reply) after sound may told = sound_answers setting before site request reply after sound (own_step _ request may) told
sound_takes setting before (Ask site request) (Replied reply) after sound may told = sound_answers setting before site request reply after sound (asked_step _ request may) told
sound_takes setting before (Send site key) (Sent_as number) after sound may told = sound_sends before site key number after sound told
sound_takes setting before (Send site key) (Replied reply) after sound may told = subst IsConsistent (sym told.is) sound
sound_takes setting before (Receive site message) (Replied reply) after sound may told = sound_receives setting before site message reply after sound told
sound_takes setting before (Session local peer) (Met report) after sound may told = sound_meets setting before local peer (Ok report) after sound told
sound_takes setting before (Session local peer) (Failed fault) after sound may told = sound_meets setting before local peer (Err fault) after sound told
sound_takes setting before step outcome after sound may told = absurd told

pub sound_after : (setting : Setting) (before : Knowledge) (step : Step) (outcome : Outcome) (after : Knowledge) → IsConsistent before → MayStep setting before step outcome after → IsConsistent after
sound_after setting before step outcome after sound =
    elim (may_be (is_site setting) (length before.messages) step) as (λ b. may_be (is_site setting) (length before.messages) step ≡ b → MatchBool b (Takes setting before step outcome after) ((outcome ≡ NoSuch) × (after ≡ before)) → IsConsistent after) [
      | true ↦ λ may told. sound_takes setting before step outcome after sound may told
      | false ↦ λ _ same. subst IsConsistent (sym same.1) sound
    ] refl

pub sound_start : IsConsistent nothing_yet
sound_start = record {
  known = λ site w here. here;
  sent = λ sending w there here. absurd (no_message sending there);
  of_key = λ sending there. absurd (no_message sending there);
  one_put = λ key dot seen also_seen document other here there. absurd (none_empty _ here);
  own = λ key dot seen document here. here;
}
  where
    no_message : (sending : SentMessage) → Contains [] sending → ⊥
    no_message sending there = absurd (omega arith)

pub sound_run : (setting : Setting) (before : Knowledge) (steps : List Step) (outcomes : List Outcome) (after : Knowledge) → IsConsistent before → RunsSteps setting before steps outcomes after → IsConsistent after
sound_run setting before [] [] after sound runs = subst IsConsistent (sym runs) sound
sound_run setting before (step ∷ steps) (outcome ∷ outcomes) after sound runs =
    sound_run setting runs.0 steps outcomes after (sound_after setting before step outcome runs.0 sound runs.1) runs.2
sound_run setting before [] (outcome ∷ outcomes) after sound runs = absurd runs
sound_run setting before (step ∷ steps) [] after sound runs = absurd runs
