-- What happens to sites that break and are opened again.
use Rattle.std.proofs.Common.{◌≡◌, ℕ, ◌-◌, zero, suc, Bool, true, false, MatchBool, List, [], ◌∷◌, ◌++◌, Contains, Some, length, refl, sym, ap, subst, inl, ⊎_elim}
use Rattle.std.specs.List.{slice_get}
use Rattle.std.proofs.lemmas.List.Elements.{Contains-append_left, Contains-append_right}
use Rattle.mvd_dots.specs.Dot.{DotValue}
use Rattle.mvd_dots.specs.Context.{DotSet}
use Rattle.mvd_dots.specs.declared.refusals.Refusal.TheVariants.{Broken}
use Rattle.mvd_keys.specs.State.{Text}
use Rattle.mvd_keys.specs.Writes.{Key, Write, Wrote}
use Rattle.mvd_keys.proofs.Sets.{Contains-head}
use Rattle.mvd_wire.specs.declared.request.Request.{Request}
use Rattle.mvd_wire.specs.declared.request.Request.TheVariants.{Put}
use Rattle.mvd_wire.specs.declared.reply.Reply.TheVariants.{Refused, Written}
use Rattle.mvd_site.specs.Answer.{answer}
use Rattle.mvd_world.specs.declared.steps.Step.{Step}
use Rattle.mvd_world.specs.declared.steps.Step.TheVariants.{Write as Write_at, Ask, Send, Receive, Session}
use Rattle.mvd_world.specs.declared.steps.Outcome.{Outcome}
use Rattle.mvd_world.specs.declared.steps.Outcome.TheVariants.{Replied, Sent as Sent_as, Met, Failed, NoSuch}
use Rattle.mvd_world.specs.Machine.{AnswersAtSite, WorldEvent, StepsHappen, HaveOwnDots, IsNoClash, IsOwn, IsConsistent, IsStepStored, Knowledge, MayHappen, Reopened, ReopensSite, RunsSteps, Setting, Stepped, Stores, Takes, becomes, world_events, is_site, may_be, nothing_yet, told_put}
use Rattle.mvd_world.proofs.Apart.{reply_apart, step_apart}
use Rattle.mvd_world.proofs.Sound.{IsNew-adds, answers_new, found, own_step, sound_after, sound_learns, sound_makes, sound_start}

-- ---- what happens keeps it sound

stored_write : (setting : Setting) (before : Knowledge) (site : ℕ) (request : Request) (added : List Write) (after : Knowledge) → IsConsistent before → IsOwn request → Stores setting before site request added (before.made ++ added) after → IsConsistent after
stored_write setting before site request added after sound own stored = subst IsConsistent (sym stored.is)
    (sound_makes before site added (becomes before.broken site true) sound
    (IsNew-adds stored.config before site request (answer stored.config (before.known site) request) added sound (setting.numbers site stored.config stored.setup) own (λ dot told. refl) stored.adds))

sound_stored : (setting : Setting) (before : Knowledge) (step : Step) (after : Knowledge) → IsConsistent before → may_be (is_site setting) (length before.messages) step ≡ true → IsStepStored setting before step after → IsConsistent after
sound_stored setting before (Write_at site request) after sound may stored = stored_write setting before site request stored.0 after sound (own_step _ request may) stored.1
sound_stored setting before (Receive site message) after sound may stored = subst IsConsistent (sym stored.2.is)
    (sound_learns before site stored.0.writes (becomes before.broken site true) sound (λ w here. sound.sent stored.0 w (found before.messages (message - 1) stored.0 stored.1) here))
sound_stored setting before step after sound may stored = absurd stored

sound_reopens : (setting : Setting) (before : Knowledge) (site : ℕ) (after : Knowledge) → IsConsistent before → ReopensSite setting before site after → IsConsistent after
sound_reopens setting before site after sound opened = subst IsConsistent (sym opened.is) (record {
  known = sound.known;
  sent = sound.sent;
  of_key = sound.of_key;
  one_put = sound.one_put;
  own = sound.own;
})

pub sound_happens : (setting : Setting) (before : Knowledge) (event : WorldEvent) (after : Knowledge) → IsConsistent before → MayHappen setting before event after → IsConsistent after
sound_happens setting before (Stepped step outcome) after sound happens = ⊎_elim
    (λ took. sound_after setting before step outcome after sound took)
    (λ stored. sound_stored setting before step after sound stored.may stored.stored)
    happens
sound_happens setting before (Reopened site) after sound happens = sound_reopens setting before site after sound happens

pub sound_events : (setting : Setting) (before : Knowledge) (events : List WorldEvent) (end : Knowledge) → IsConsistent before → StepsHappen setting before events end → IsConsistent end
sound_events setting before [] end sound happen = subst IsConsistent (sym happen) sound
sound_events setting before (event ∷ events) end sound happen = sound_events setting happen.0 events end (sound_happens setting before event happen.0 sound happen.1) happen.2

pub happens_apart : (setting : Setting) (before : Knowledge) (step : Step) (outcome : Outcome) (after : Knowledge) → IsConsistent before → MayHappen setting before (Stepped step outcome) after → IsNoClash outcome
happens_apart setting before step outcome after sound happens = ⊎_elim
    (λ took. step_apart setting before step outcome after sound took)
    (λ stored. subst IsNoClash (sym stored.told) (reply_apart (Refused Broken) (λ e. cc)))
    happens

pub steps_happen : (setting : Setting) (before : Knowledge) (steps : List Step) (outcomes : List Outcome) (end : Knowledge) → RunsSteps setting before steps outcomes end → StepsHappen setting before (world_events steps outcomes) end
steps_happen setting before [] [] end runs = runs
steps_happen setting before (step ∷ steps) (outcome ∷ outcomes) end runs = (runs.0, inl runs.1, steps_happen setting runs.0 steps outcomes end runs.2)
steps_happen setting before [] (outcome ∷ outcomes) end runs = absurd runs
steps_happen setting before (step ∷ steps) [] end runs = absurd runs

-- ---- what was made stays made

as_made : (after is : Knowledge) (w : Write) → after ≡ is → Contains is.made w → Contains after.made w
as_made after is w same here = subst (λ (k : Knowledge). Contains k.made w) (sym same) here

takes_grow : (setting : Setting) (before : Knowledge) (step : Step) (outcome : Outcome) (after : Knowledge) (w : Write) → Takes setting before step outcome after → Contains before.made w → Contains after.made w
takes_grow setting before (Write_at site request) (Replied reply) after w told here = as_made after _ w told.is (Contains-append_left before.made told.added w here)
takes_grow setting before (Ask site request) (Replied reply) after w told here = as_made after _ w told.is (Contains-append_left before.made told.added w here)
takes_grow setting before (Send site key) (Sent_as number) after w told here = as_made after _ w told.is here
takes_grow setting before (Send site key) (Replied reply) after w told here = as_made after _ w told.is here
takes_grow setting before (Receive site message) (Replied reply) after w told here = as_made after _ w told.is here
takes_grow setting before (Session local peer) (Met report) after w told here = as_made after _ w told.is here
takes_grow setting before (Session local peer) (Failed fault) after w told here = as_made after _ w told.is here
takes_grow setting before step outcome after w told here = absurd told

stored_grow : (setting : Setting) (before : Knowledge) (step : Step) (after : Knowledge) (w : Write) → IsStepStored setting before step after → Contains before.made w → Contains after.made w
stored_grow setting before (Write_at site request) after w stored here = as_made after _ w stored.1.is (Contains-append_left before.made stored.0 w here)
stored_grow setting before (Receive site message) after w stored here = as_made after _ w stored.2.is here
stored_grow setting before step after w stored here = absurd stored

step_grow : (b : Bool) (setting : Setting) (before : Knowledge) (step : Step) (outcome : Outcome) (after : Knowledge) (w : Write) → MatchBool b (Takes setting before step outcome after) ((outcome ≡ NoSuch) × (after ≡ before)) → Contains before.made w → Contains after.made w
step_grow true setting before step outcome after w told here = takes_grow setting before step outcome after w told here
step_grow false setting before step outcome after w told here = as_made after before w told.1 here

happens_grow : (setting : Setting) (before : Knowledge) (event : WorldEvent) (after : Knowledge) (w : Write) → MayHappen setting before event after → Contains before.made w → Contains after.made w
happens_grow setting before (Stepped step outcome) after w happens here = ⊎_elim
    (λ took. step_grow (may_be (is_site setting) (length before.messages) step) setting before step outcome after w took here)
    (λ stored. stored_grow setting before step after w stored.stored here)
    happens
happens_grow setting before (Reopened site) after w happens here = as_made after _ w happens.is here

-- ---- each put has its own dot

-- a put that was told its dot: no put of the key had it, and one has it now
record Mints (before after : Knowledge) (key : Key) (seen : DotSet) (document : Text) (dot : DotValue) : Type 0 where
  fresh : (also_seen : DotSet) (other : Text) → Contains before.made (Wrote key dot also_seen other) → ⊥
  made : Contains after.made (Wrote key dot seen document)

mints : (setting : Setting) (before : Knowledge) (site : ℕ) (key : Key) (seen : DotSet) (document : Text) (dot : DotValue) (after : Knowledge) → IsConsistent before → AnswersAtSite setting before site (Put key seen document) (Written dot) after → Mints before after key seen document dot
mints setting before site key seen document dot after sound told =
    let new = answers_new setting before site (Put key seen document) (Written dot) after sound refl told in
    let here : Contains told.added (Wrote key dot seen document) = subst (λ W. Contains W (Wrote key dot seen document)) (sym told.adds) (Contains-head (Wrote key dot seen document) []) in
    record {
      fresh = λ also_seen other there. new.fresh key dot seen also_seen document other here there;
      made = as_made after _ (Wrote key dot seen document) told.is (Contains-append_right before.made told.added (Wrote key dot seen document) here);
    }

step_mints : (b : Bool) (setting : Setting) (before : Knowledge) (site : ℕ) (key : Key) (seen : DotSet) (document : Text) (dot : DotValue) (after : Knowledge) → IsConsistent before →
    MatchBool b (AnswersAtSite setting before site (Put key seen document) (Written dot) after) ((Replied (Written dot) ≡ NoSuch) × (after ≡ before)) → Mints before after key seen document dot
step_mints true setting before site key seen document dot after sound told = mints setting before site key seen document dot after sound told
step_mints false setting before site key seen document dot after sound told = absurd (let e : Replied (Written dot) ≡ NoSuch = told.0 in cc)

event_mints : (setting : Setting) (before : Knowledge) (event : WorldEvent) (site : ℕ) (key : Key) (seen : DotSet) (document : Text) (dot : DotValue) (after : Knowledge) → IsConsistent before → event ≡ told_put site key seen document dot →
    MayHappen setting before event after → Mints before after key seen document dot
event_mints setting before event site key seen document dot after sound is happens = ⊎_elim
    (λ took. step_mints (may_be (is_site setting) (length before.messages) (Write_at site (Put key seen document))) setting before site key seen document dot after sound took)
    (λ stored. absurd (let e : Replied (Written dot) ≡ Replied (Refused Broken) = stored.told in cc))
    (subst (λ e. MayHappen setting before e after) is happens)

first_is : (event told : WorldEvent) → Some event ≡ Some told → event ≡ told
first_is event told e = cc

-- a dot of a put that was made is told to none of that key later
never_again : (setting : Setting) (before : Knowledge) (events : List WorldEvent) (end : Knowledge) (j site : ℕ) (key : Key) (seen also_seen : DotSet) (document other : Text) (dot : DotValue) → IsConsistent before → StepsHappen setting before events end →
    slice_get events j ≡ Some (told_put site key seen document dot) → Contains before.made (Wrote key dot also_seen other) → ⊥
never_again setting before [] end j site key seen also_seen document other dot sound happen at made = cc
never_again setting before (event ∷ events) end zero site key seen also_seen document other dot sound happen at made =
    (event_mints setting before event site key seen document dot happen.0 sound (first_is event (told_put site key seen document dot) at) happen.1).fresh also_seen other made
never_again setting before (event ∷ events) end (suc j) site key seen also_seen document other dot sound happen at made =
    never_again setting happen.0 events end j site key seen also_seen document other dot (sound_happens setting before event happen.0 sound happen.1) happen.2 at
    (happens_grow setting before event happen.0 (Wrote key dot also_seen other) happen.1 made)

own_dots : (setting : Setting) (before : Knowledge) (events : List WorldEvent) (end : Knowledge) → IsConsistent before → StepsHappen setting before events end → HaveOwnDots events
own_dots setting before [] end sound happen i j site other_site key seen other_seen document other dot other_dot apart first second same = absurd (cc)
own_dots setting before (event ∷ events) end sound happen zero zero site other_site key seen other_seen document other dot other_dot apart first second same = absurd (apart refl)
own_dots setting before (event ∷ events) end sound happen zero (suc j) site other_site key seen other_seen document other dot other_dot apart first second same =
    let here = event_mints setting before event site key seen document dot happen.0 sound (first_is event (told_put site key seen document dot) first) happen.1 in
    never_again setting happen.0 events end j other_site key other_seen seen other document other_dot (sound_happens setting before event happen.0 sound happen.1) happen.2 second
    (subst (λ d. Contains happen.0.made (Wrote key d seen document)) same here.made)
own_dots setting before (event ∷ events) end sound happen (suc i) zero site other_site key seen other_seen document other dot other_dot apart first second same =
    let here = event_mints setting before event other_site key other_seen other other_dot happen.0 sound (first_is event (told_put other_site key other_seen other other_dot) second) happen.1 in
    never_again setting happen.0 events end i site key seen other_seen document other dot (sound_happens setting before event happen.0 sound happen.1) happen.2 first
    (subst (λ d. Contains happen.0.made (Wrote key d other_seen other)) (sym same) here.made)
own_dots setting before (event ∷ events) end sound happen (suc i) (suc j) site other_site key seen other_seen document other dot other_dot apart first second same =
    own_dots setting happen.0 events end (sound_happens setting before event happen.0 sound happen.1) happen.2 i j site other_site key seen other_seen document other dot other_dot (λ e. apart (ap suc e)) first second same

pub own_dots_of_events : (setting : Setting) (events : List WorldEvent) (end : Knowledge) → StepsHappen setting nothing_yet events end → HaveOwnDots events
own_dots_of_events setting events end happen = own_dots setting nothing_yet events end sound_start happen

pub own_dots_of_steps : (setting : Setting) (steps : List Step) (outcomes : List Outcome) (end : Knowledge) → RunsSteps setting nothing_yet steps outcomes end → HaveOwnDots (world_events steps outcomes)
own_dots_of_steps setting steps outcomes end runs = own_dots_of_events setting (world_events steps outcomes) end (steps_happen setting nothing_yet steps outcomes end runs)
