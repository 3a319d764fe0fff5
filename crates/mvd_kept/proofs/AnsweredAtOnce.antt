-- What follows of what a site does with one request.
use Rattle.std.proofs.Common.{◌≡◌, ◌≢◌, ◌⊎◌, true, false, List, [], ◌++◌, Some, None, IsSomeAnd, refl, sym, ap, ◌∙◌, subst, subst₂, true≢false, inl, inr, ⊎_elim}
use Rattle.mvd_dots.specs.declared.refusals.Refusal.{Refusal}
use Rattle.mvd_dots.specs.declared.refusals.Refusal.TheVariants.{Broken, Memory}
use Rattle.mvd_keys.specs.Writes.{Stands, Write, state}
use Rattle.mvd_wire.specs.declared.request.Request.{Request}
use Rattle.mvd_wire.specs.declared.request.Request.TheVariants.{Put, Delete, Push}
use Rattle.mvd_wire.specs.declared.reply.Reply.{Reply}
use Rattle.mvd_wire.specs.declared.reply.Reply.TheVariants.{Done, Refused}
use Rattle.mvd_kept.specs.Answer.{answer, change_of}
use Rattle.mvd_kept.specs.AtOnce.{AnswersRequest}
use Rattle.mvd_kept.specs.Change.{ChangeValue, change_reply}
use Rattle.mvd_kept.specs.Config.{ConfigValue}
use Rattle.mvd_kept.specs.FromStates.{Answered, AnswersFrom, after_from, answer_from, change_from, with_change}
use Rattle.mvd_kept.specs.Held.{States}
use Rattle.mvd_kept.specs.Installs.{broken_site, changed_site}
use Rattle.mvd_kept.specs.Known.{Adds, ChangesKey, IsValidRequest, MayReply}
use Rattle.mvd_kept.specs.Prepared.{IsFrugal, IsPlain, PreparesAnswerFrom, PreparesChangeFrom, is_refusal}
use Rattle.mvd_kept.specs.Sites.{AnswersOne, SiteValue}
use Rattle.mvd_kept.proofs.Answered.{after_stands, answered, changed_alike, with_state-same}
use Rattle.mvd_kept.proofs.Clashes.{no_answer_broken}
use Rattle.mvd_kept.proofs.Outcomes.{change_plain}
use Rattle.mvd_kept.proofs.Prepare.{answers_from_answer, answers_from_breaking, answers_from_change, answers_from_refusal, refuses_all, refuses_from, whole_site}
use Rattle.mvd_kept.proofs.Pushes.{refusal_is}
use Rattle.mvd_kept.proofs.Runs.{fitting}
use Rattle.mvd_kept.proofs.Steps.{Adds-Refused, Stands-nothing, state_at-stands}

-- ---- how it comes

no_memory : (reply : Reply) → IsPlain reply → reply ≢ Refused Memory
no_memory reply plain is = true≢false (sym (ap is_refusal is) ∙ plain.accepts)

not_broken : {P : Type 0} (site : SiteValue) → site.broken ≡ false → site.broken ≡ true → P
not_broken site whole broken = absurd (true≢false (sym broken ∙ whole))

not_done : (request : Request) (refusal : Refusal) → Refused refusal ≡ Done → IsValidRequest request
not_done request refusal is = absurd (let wrong : ◌≡◌ {A = Reply} (Refused refusal) Done = is in cc)

-- it is refused before anything is changed
pub request_refused : (old : SiteValue) (request : Request) (refusal : Refusal) →
    (old.broken ≡ false → (Refused refusal ≡ answer_from old.config old.states request) ⊎ (refusal ≡ Memory)) → (old.broken ≡ true → refusal ≡ Broken) → (IsFrugal old.states request → refusal ≢ Memory) →
    AnswersRequest old old request (Refused refusal)
request_refused old request refusal prepared says frugal = record {
  step = answers_from_refusal old request refusal prepared;
  broken = λ was. (ap Refused (says was), refl);
  valid = λ done. not_done request refusal done;
  frugal = λ takes_none is. frugal takes_none (refusal_is refusal Memory is);
}

-- there is nothing to change
pub request_told : (old : SiteValue) (request : Request) (reply : Reply) → old.broken ≡ false → PreparesAnswerFrom old.config old.states request reply → IsPlain reply → IsValidRequest request →
    AnswersRequest old old request reply
request_told old request reply whole prepared plain valid = record {
  step = answers_from_answer old request reply (λ _. prepared);
  broken = not_broken old whole;
  valid = λ _. valid;
  frugal = λ _. no_memory reply plain;
}

-- its change is put in
pub request_changed : (old new : SiteValue) (request : Request) (change : ChangeValue) (reply : Reply) → old.broken ≡ false → new ≡ changed_site old change → reply ≡ change_reply change.dot →
    PreparesChangeFrom old.config old.states request change → IsValidRequest request → AnswersRequest old new request reply
request_changed old new request change reply whole installed told prepared valid =
    let plain : IsPlain reply = subst IsPlain (sym told) (change_plain change.dot) in
    record {
      step = answers_from_change old new request change reply installed told (λ _. prepared);
      broken = not_broken old whole;
      valid = λ _. valid;
      frugal = λ _. no_memory reply plain;
    }

-- it breaks as its change is put in
pub request_broke : (old new : SiteValue) (request : Request) (change : ChangeValue) (refusal : Refusal) → old.broken ≡ false → refusal ≡ Broken → new ≡ broken_site old →
    PreparesChangeFrom old.config old.states request change → AnswersRequest old new request (Refused refusal)
request_broke old new request change refusal whole is broke prepared = record {
  step = answers_from_breaking old new request change refusal is broke (λ _. prepared);
  broken = not_broken old whole;
  valid = λ done. not_done request refusal done;
  frugal = λ _ memory. let wrong : ◌≡◌ {A = Refusal} Broken Memory = sym is ∙ refusal_is refusal Memory memory in cc;
}

-- ---- what follows from the states

choice_of : (request : Request) (reply : Reply) → (reply ≡ Done → IsValidRequest request) → (added : List Write) × Adds request reply added
choice_of (Put key seen document) reply valid = fitting (Put key seen document) reply tt
choice_of (Delete key seen) reply valid = fitting (Delete key seen) reply tt
choice_of (Push key pushed) Done valid = fitting (Push key pushed) Done (valid refl)
choice_of (Push key pushed) reply valid = ([], refl)
choice_of request reply valid = ([], refl)

module _ (old new : SiteValue) (request : Request) (reply : Reply) (does : AnswersRequest old new request reply) where
  -- by whether it is broken
  either_way : (P : Type 0) → (old.broken ≡ true → P) → (old.broken ≡ false → P) → P
  either_way P was whole = elim old.broken as (λ b. old.broken ≡ b → P) [ true ↦ was | false ↦ whole ] refl

  pub keeps_config : new.config ≡ old.config
  keeps_config = either_way (new.config ≡ old.config) (λ was. ap (λ (s : SiteValue). s.config) (does.broken was).1)
      (λ whole. ⊎_elim (λ here. ap (λ (s : SiteValue). s.config) here.site)
      (λ rest. ⊎_elim (λ memory. ap (λ (s : SiteValue). s.config) memory.1) (λ broke. ap (λ (s : SiteValue). s.config) broke.1.site) rest) (does.step whole))

  -- whether it is broken
  pub told_broken : reply ≡ Refused Broken → new.broken ≡ true
  told_broken told = either_way (new.broken ≡ true) (λ was. ap (λ (s : SiteValue). s.broken) (does.broken was).1 ∙ was)
      (λ whole. ⊎_elim (λ here. absurd (no_answer_broken old.config old.states request (sym here.answers ∙ told)))
      (λ rest. ⊎_elim (λ memory. absurd (let wrong : ◌≡◌ {A = Refusal} Broken Memory = refusal_is Broken Memory (sym told ∙ memory.0) in cc)) (λ broke. ap (λ (s : SiteValue). s.broken) broke.1.site) rest) (does.step whole))

  pub broken_told : new.broken ≡ true → reply ≡ Refused Broken
  broken_told is = either_way (reply ≡ Refused Broken) (λ was. (does.broken was).0)
      (λ whole. ⊎_elim (λ here. absurd (true≢false (sym is ∙ ap (λ (s : SiteValue). s.broken) here.site)))
      (λ rest. ⊎_elim (λ memory. absurd (true≢false (sym is ∙ ap (λ (s : SiteValue). s.broken) memory.1 ∙ whole))) (λ broke. broke.0) rest) (does.step whole))

  -- what is refused changes nothing, unless it breaks
  pub refused_unchanged : (refusal : Refusal) → reply ≡ Refused refusal → refusal ≢ Broken → new ≡ old
  refused_unchanged refusal told other = either_way (new ≡ old) (λ was. (does.broken was).1)
      (λ whole. ⊎_elim
      (λ (here : Answered old new request reply). here.site ∙ sym (whole_site old _ whole
      (ap (λ r. with_change old.states (change_from old.states request r)) (sym here.answers ∙ told) ∙ ap (with_change old.states) (refuses_from old.states request refusal))))
      (λ rest. ⊎_elim (λ memory. memory.1) (λ broke. absurd (other (refusal_is refusal Broken (sym told ∙ broke.0)))) rest) (does.step whole))

  -- there are writes that the request adds
  pub adds_some : (added : List Write) × Adds request reply added
  adds_some = choice_of request reply does.valid

-- ---- and from the writes known

changes_known : (config : ConfigValue) (m : States) (W : List Write) (request : Request) → Stands m W → after_from config m request ≢ m → ChangesKey config W request
changes_known config m W request stands differs =
    elim (change_of W request (answer config W request)) as (λ o. change_from m request (answer_from config m request) ≡ o → IsSomeAnd o (λ change. change.1 ≢ state change.0 W)) [
      | None ↦ λ e. absurd (differs (ap (with_change m) e))
      | Some change ↦ λ e same. differs (ap (with_change m) e ∙ with_state-same m change.0 change.1 (same ∙ sym (state_at-stands m W change.0 stands)))
    ] (changed_alike config m W request stands)

refused_adds : (m : States) (W : List Write) (request : Request) (refusal : Refusal) (added : List Write) → Stands m W → Adds request (Refused refusal) added → Stands m (W ++ added)
refused_adds m W request refusal added stands adds = Stands-nothing m W added stands (Adds-Refused request (Refused refusal) added (refuses_all request refusal) adds)

-- a site that is not broken
one_whole : (old new : SiteValue) (request : Request) (reply : Reply) → old.broken ≡ false → AnswersFrom old new request reply → AnswersOne old new request reply
one_whole old new request reply whole step = ⊎_elim
    (λ (here : Answered old new request reply).
    let still : new.broken ≡ false = ap (λ (s : SiteValue). s.broken) here.site in
    record {
      replies = λ known stands. subst₂ (λ a b. MayReply old.config known a request reply b) (sym whole) (sym still) (inl (here.answers ∙ answered old.config old.states known request (stands whole)));
      stands = λ known added stands adds _. subst (λ m. Stands m (known ++ added)) (sym (ap (λ (s : SiteValue). s.states) here.site))
          (after_stands old.config old.states known request added (stands whole) (subst (λ r. Adds request r added) (here.answers ∙ answered old.config old.states known request (stands whole)) adds));
    })
    (λ rest. ⊎_elim
    (λ memory.
    let still : new.broken ≡ false = ap (λ (s : SiteValue). s.broken) memory.1 ∙ whole in
    record {
      replies = λ known stands. subst₂ (λ a b. MayReply old.config known a request reply b) (sym whole) (sym still) (inr memory.0);
      stands = λ known added stands adds _. subst (λ (s : SiteValue). Stands s.states (known ++ added)) (sym memory.1)
          (refused_adds old.states known request Memory added (stands whole) (subst (λ r. Adds request r added) memory.0 adds));
    })
    (λ broke.
    let breaks : new.broken ≡ true = ap (λ (s : SiteValue). s.broken) broke.1.site in
    record {
      replies = λ known stands. subst₂ (λ a b. MayReply old.config known a request reply b) (sym whole) (sym breaks) (broke.0, changes_known old.config old.states known request (stands whole) broke.1.changes);
      stands = λ known added stands adds still. absurd (true≢false (sym breaks ∙ still));
    })
    rest)
    (step whole)

one_broken : (old new : SiteValue) (request : Request) (reply : Reply) → old.broken ≡ true → (reply ≡ Refused Broken) × (new.broken ≡ true) → AnswersOne old new request reply
one_broken old new request reply was told = record {
  replies = λ known stands. subst₂ (λ a b. MayReply old.config known a request reply b) (sym was) (sym told.1) told.0;
  stands = λ known added stands adds still. absurd (true≢false (sym told.1 ∙ still));
}

-- the reply is one that it may give, and the states stand for what was added too
pub one_known : (old new : SiteValue) (request : Request) (reply : Reply) → AnswersFrom old new request reply → (old.broken ≡ true → (reply ≡ Refused Broken) × (new.broken ≡ true)) → AnswersOne old new request reply
one_known old new request reply step broken =
    elim old.broken as (λ b. old.broken ≡ b → AnswersOne old new request reply) [
      | true ↦ λ was. one_broken old new request reply was (broken was)
      | false ↦ λ whole. one_whole old new request reply whole step
    ] refl

pub answers_one : (old new : SiteValue) (request : Request) (reply : Reply) → AnswersRequest old new request reply → AnswersOne old new request reply
answers_one old new request reply does =
    one_known old new request reply does.step (λ was. ((does.broken was).0, ap (λ (s : SiteValue). s.broken) (does.broken was).1 ∙ was))
