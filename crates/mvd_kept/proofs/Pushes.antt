-- What a push comes to, from what a site does with the request.
use Rattle.std.proofs.Common.{◌≡◌, ◌≢◌, Bool, true, false, if◌then◌else◌, Some, Result, Ok, Err, IfErr, refl, sym, ap, ◌∙◌, subst, true≢false, ⊎_elim}
use Rattle.std.specs.Result.{OnOk}
use Rattle.std.specs.FinMap.{insert}
use Rattle.mvd_dots.specs.declared.refusals.Refusal.{Refusal}
use Rattle.mvd_dots.specs.declared.refusals.Refusal.TheVariants.{Broken, DotClash, Full, Memory, StateTooLarge}
use Rattle.mvd_keys.specs.State.{State, clashes, join}
use Rattle.mvd_keys.specs.Writes.{Key}
use Rattle.mvd_wire.specs.declared.request.Request.TheVariants.{Push}
use Rattle.mvd_wire.specs.declared.reply.Reply.{Reply}
use Rattle.mvd_wire.specs.declared.reply.Reply.TheVariants.{Done, Refused}
use Rattle.mvd_kept.specs.Answer.{is_too_large}
use Rattle.mvd_kept.specs.Change.{ChangeValue}
use Rattle.mvd_kept.specs.Config.{ConfigValue}
use Rattle.mvd_kept.specs.FromStates.{Answered, AnswersFrom, Broke, change_from, push_reply, with_change, with_state, within}
use Rattle.mvd_kept.specs.Held.{States, state_at}
use Rattle.mvd_kept.specs.Prepared.{PreparesAnswerFrom, PreparesChangeFrom, is_refusal}
use Rattle.mvd_kept.specs.Sites.{SiteValue}
use Rattle.mvd_kept.proofs.Answered.{limited_cases}
use Rattle.mvd_kept.proofs.Prepare.{answers_from_answer, answers_from_breaking, answers_from_change}

-- ---- what the answer tells

module _ (config : ConfigValue) (m : States) (key : Key) (pushed : State) where
  abbrev inner : Bool → Reply
  inner clash = if clash then Refused DotClash else within config m key (join (state_at m key) pushed) Done

  abbrev outer : Bool → Bool → Reply
  outer large clash = if large then Refused StateTooLarge else inner clash

  done_agrees : (large clash : Bool) → Done ≡ outer large clash → clash ≡ false
  done_agrees true clash e = cc
  done_agrees false true e = cc
  done_agrees false false e = refl

  within_is_no : (refusal : Refusal) → refusal ≢ StateTooLarge → refusal ≢ Full → Refused refusal ≢ within config m key (join (state_at m key) pushed) Done
  within_is_no refusal large full =
      limited_cases (λ r. Refused refusal ≢ r) config _ _ (join (state_at m key) pushed) Done
      (λ e. large (cc)) (λ e. full (cc)) (λ e. cc)

  pub clash_is : (large clash : Bool) → Refused DotClash ≡ outer large clash → clash ≡ true
  clash_is true clash e = cc
  clash_is false true e = refl
  clash_is false false e = absurd (within_is_no DotClash (λ d. cc) (λ d. cc) e)

  pub never_broken : (large clash : Bool) → Refused Broken ≢ outer large clash
  never_broken true clash e = cc
  never_broken false true e = cc
  never_broken false false e = within_is_no Broken (λ d. cc) (λ d. cc) e

  plain_done : (large clash : Bool) → is_refusal (outer large clash) ≡ false → outer large clash ≡ Done
  plain_done true clash e = cc
  plain_done false true e = cc
  plain_done false false e = limited_cases (λ r. is_refusal r ≡ false → r ≡ Done) config _ _ (join (state_at m key) pushed) Done (λ e. cc) (λ e. cc) (λ e. refl) e

  accepted_done : (reply : Reply) (change : Key × State) → change_from m (Push key pushed) reply ≡ Some change → reply ≡ Done
  accepted_done Done change e = refl
  accepted_done reply change e = cc

-- ---- what a call tells

-- a push that was made, or refused
pub record PushFacts {A : Type 0} (old new : SiteValue) (key : Key) (pushed : State) (result : Result A Refusal) : Type 0 where
  pub joined : OnOk result (new ≡ record { config = old.config; states = with_state old.states key (join (state_at old.states key) pushed); broken = false })
  pub agreed : OnOk result (clashes (state_at old.states key) pushed ≡ false)
  pub clash : IfErr result (λ refusal. refusal ≡ DotClash → clashes (state_at old.states key) pushed ≡ true)
  pub unchanged : IfErr result (λ refusal. refusal ≢ Broken → new ≡ old)
  pub told : IfErr result (λ refusal. refusal ≡ Broken → new ≡ record { config = old.config; states = old.states; broken = true })

same_site : (old new : SiteValue) (states : States) → old.broken ≡ false → new ≡ record { config = old.config; states = states; broken = false } → states ≡ old.states → new ≡ old
same_site old new states whole is same = is ∙ (λ i. record { config = old.config; states = same i; broken = sym whole i })

pub refusal_is : (refusal other : Refusal) → Refused refusal ≡ Refused other → refusal ≡ other
refusal_is refusal other e = cc

pub push_facts : {A : Type 0} (old new : SiteValue) (key : Key) (pushed : State) (result : Result A Refusal) → old.broken ≡ false → AnswersFrom old new (Push key pushed) (push_reply result) → PushFacts old new key pushed result
push_facts old new key pushed (Ok done) whole answers =
    ⊎_elim
    (λ (here : Answered old new (Push key pushed) Done). record {
      joined = here.site ∙ ap (λ (r : Reply). record { config = old.config; states = with_change old.states (change_from old.states (Push key pushed) r); broken = false }) (sym here.answers);
      agreed = done_agrees old.config old.states key pushed (is_too_large pushed) (clashes (state_at old.states key) pushed) here.answers;
      clash = tt;
      unchanged = tt;
      told = tt;
    })
    (λ rest. ⊎_elim (λ memory. absurd (let e : Done ≡ Refused Memory = memory.0 in cc)) (λ broke. absurd (let e : Done ≡ Refused Broken = broke.0 in cc)) rest)
    (answers whole)
push_facts old new key pushed (Err refusal) whole answers =
    ⊎_elim
    (λ (here : Answered old new (Push key pushed) (Refused refusal)). record {
      joined = tt;
      agreed = tt;
      clash = λ is. clash_is old.config old.states key pushed (is_too_large pushed) (clashes (state_at old.states key) pushed) (ap Refused (sym is) ∙ here.answers);
      unchanged = λ _. same_site old new _ whole here.site (ap (λ (r : Reply). with_change old.states (change_from old.states (Push key pushed) r)) (sym here.answers));
      told = λ is. absurd (never_broken old.config old.states key pushed (is_too_large pushed) (clashes (state_at old.states key) pushed) (ap Refused (sym is) ∙ here.answers));
    })
    (λ rest. ⊎_elim
    (λ (memory : (Refused refusal ≡ Refused Memory) × (new ≡ old)). record {
      joined = tt;
      agreed = tt;
      clash = λ is. absurd (let e : DotClash ≡ Memory = sym is ∙ refusal_is refusal Memory memory.0 in cc);
      unchanged = λ _. memory.1;
      told = λ is. absurd (let e : Broken ≡ Memory = sym is ∙ refusal_is refusal Memory memory.0 in cc);
    })
    (λ (broke : (Refused refusal ≡ Refused Broken) × Broke old new (Push key pushed)). record {
      joined = tt;
      agreed = tt;
      clash = λ is. absurd (let e : DotClash ≡ Broken = sym is ∙ refusal_is refusal Broken broke.0 in cc);
      unchanged = λ other. absurd (other (refusal_is refusal Broken broke.0));
      told = λ _. broke.1.site;
    })
    rest)
    (answers whole)

pub on_ok : {A E P : Type 0} (result : Result A E) → P → OnOk result P
on_ok (Ok done) here = here
on_ok (Err error) here = tt

-- ---- how it comes about

pub not_broken : (broken : Bool) → broken ≡ false → broken ≡ true → ⊥
not_broken broken whole is = true≢false (sym is ∙ whole)

-- nothing was to change
pub pushed_still : {A : Type 0} (old : SiteValue) (key : Key) (pushed : State) (reply : Reply) (done : A) → is_refusal reply ≡ false →
    (old.broken ≡ false → PreparesAnswerFrom old.config old.states (Push key pushed) reply) → AnswersFrom old old (Push key pushed) (push_reply {A = A} (Ok done))
pushed_still old key pushed reply done plain prepared whole =
    let here : PreparesAnswerFrom old.config old.states (Push key pushed) reply = prepared whole in
    let is : reply ≡ Done = here.answers ∙ plain_done old.config old.states key pushed (is_too_large pushed) (clashes (state_at old.states key) pushed) (ap is_refusal (sym here.answers) ∙ plain) in
    answers_from_answer old (Push key pushed) Done (λ _. subst (PreparesAnswerFrom old.config old.states (Push key pushed)) is here) whole

-- what was to change was put in, or broke the site
pub pushed_by_install : {A : Type 0} (old new : SiteValue) (key : Key) (pushed : State) (change : ChangeValue) (result : Result A Refusal) →
    OnOk result ((old.broken ≡ false) × (new ≡ record { config = old.config; states = insert old.states change.key change.state; broken = false })) →
    IfErr result (λ refusal. (refusal ≡ Broken) × (new ≡ record { config = old.config; states = old.states; broken = true })) →
    (old.broken ≡ false → PreparesChangeFrom old.config old.states (Push key pushed) change) → AnswersFrom old new (Push key pushed) (push_reply result)
pushed_by_install old new key pushed change (Ok done) ok err prepared whole =
    let here : PreparesChangeFrom old.config old.states (Push key pushed) change = prepared whole in
    answers_from_change old new (Push key pushed) change Done ok.1
    (sym (here.answers ∙ accepted_done old.config old.states key pushed _ (change.key, change.state) here.leaves)) prepared whole
pushed_by_install old new key pushed change (Err refusal) ok err prepared whole =
    answers_from_breaking old new (Push key pushed) change refusal err.0 err.1 prepared whole
