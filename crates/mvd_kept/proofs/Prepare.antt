-- What is prepared is the answer, and what is installed follows the writes known.
use Rattle.std.proofs.Common.{◌≡◌, ◌≢◌, ◌⊎◌, Bool, true, false, if◌then◌else◌, List, [], ◌++◌, Option, Some, None, IfSome, IsSomeAnd, Result, Ok, Err, refl, sym, ap, ap₂, ◌∙◌, subst, true≢false, inl, inr, ⊎_elim}
use Rattle.std.specs.FinMap.{get, get-empty, empty as empty_map, insert as insert_at}
use Rattle.std.specs.FinSet.{union}
use Rattle.mvd_dots.specs.Dot.{DotValue}
use Rattle.mvd_dots.specs.Context.{DotSet}
use Rattle.mvd_dots.specs.declared.refusals.Refusal.{Refusal}
use Rattle.mvd_dots.specs.declared.refusals.Refusal.TheVariants.{StateTooLarge, DotClash, Broken, Memory, Exhausted}
use Rattle.mvd_keys.specs.Key.{key_cmp}
use Rattle.mvd_keys.specs.Minting.{mint}
use Rattle.mvd_keys.specs.State.{State, Text, after_put, after_delete, clashes, join}
use Rattle.mvd_keys.specs.Writes.{Key, Write, AreOf, Stands, is_empty, state}
use Rattle.mvd_keys.proofs.Held.{no_writes}
use Rattle.mvd_wire.specs.declared.request.Request.{Request}
use Rattle.mvd_wire.specs.declared.request.Request.TheVariants.{Put, Delete, Push}
use Rattle.mvd_wire.specs.declared.reply.Reply.{Reply}
use Rattle.mvd_wire.specs.declared.reply.Reply.TheVariants.{Written, Done, Refused}
use Rattle.mvd_kept.specs.Answer.{answer, change_of, is_too_large}
use Rattle.mvd_kept.specs.Change.{ChangeValue, change_reply}
use Rattle.mvd_kept.specs.Config.{ConfigValue}
use Rattle.mvd_kept.specs.FromStates.{AnswersFrom, answer_from, change_from, put_from, with_change, within}
use Rattle.mvd_kept.specs.Held.{States, state_at}
use Rattle.mvd_kept.specs.Known.{Adds, ChangesKey, MayReply}
use Rattle.mvd_kept.specs.Prepared.{LimitsTo, Prepares, PreparesAnswer, PreparesAnswerFrom, PreparesAt}
use Rattle.mvd_kept.specs.Prepared.{PreparesChange, PreparesChangeFrom, PreparesFrom, PreparesFromStates, PreparesReply}
use Rattle.mvd_kept.specs.Sites.{AnswersOne, SiteValue}
use Rattle.mvd_kept.specs.declared.prepared.Prepared.{Prepared}
use Rattle.mvd_kept.specs.declared.prepared.Prepared.TheVariants.{Answer, Change}
use Rattle.mvd_kept.proofs.Answered.{answered, changed_alike, fresh_answer, insert_differs, with_state-same, with_state-seen}
use Rattle.mvd_kept.proofs.Steps.{Adds-change_of, Adds-nothing, IsFresh, Stands-insert, Stands-nothing, Stands-same, state_at-stands}

-- ---- what is prepared, from the states

-- a request whose answer is its reply within the limits
pub limited : (site : SiteValue) (request : Request) (key : Key) (after : State) (dot : Option DotValue) (result : Result Prepared Refusal) →
    answer_from site.config site.states request ≡ within site.config site.states key after (change_reply dot) →
    change_from site.states request (change_reply dot) ≡ Some (key, after) →
    LimitsTo site key after dot result → PreparesFrom site.config site.states request result
limited site request key after dot (Err refusal) is leaves gives = ⊎_elim (λ full. inl (sym (is ∙ full))) (λ memory. inr memory) gives
limited site request key after dot (Ok (Answer reply)) is leaves gives =
    let left : change_from site.states request (answer_from site.config site.states request) ≡ Some (key, after) = ap (change_from site.states request) (is ∙ gives.0 ∙ gives.1) ∙ leaves in
    record {
      answers = sym (is ∙ gives.0);
      still = subst (λ o. IfSome o (λ c. c.1 ≡ state_at site.states c.0)) (sym left) gives.2;
      after = ap (with_change site.states) left ∙ with_state-same site.states key after gives.2;
    }
limited site request key after dot (Ok (Change change)) is leaves gives =
    let left : change_from site.states request (answer_from site.config site.states request) ≡ Some (key, after) = ap (change_from site.states request) (is ∙ gives.0) ∙ leaves in
    subst (PreparesChangeFrom site.config site.states request) (sym gives.1) (record {
      answers = sym (is ∙ gives.0);
      leaves = left;
      differs = gives.2;
      held = refl;
      after = ap (with_change site.states) left ∙ with_state-seen site.states key after gives.3;
    })

pub limited_put : (site : SiteValue) (key : Key) (seen : DotSet) (document : Text) (dot : DotValue) (after : State) (result : Result Prepared Refusal) →
    mint site.config.site (union (state_at site.states key).context seen) ≡ Some dot → after ≡ after_put (state_at site.states key) dot seen document →
    LimitsTo site key after (Some dot) result → PreparesFrom site.config site.states (Put key seen document) result
limited_put site key seen document dot after result mints is gives =
    limited site (Put key seen document) key after (Some dot) result
    (ap (put_from site.config site.states key seen document) mints ∙ ap (λ s. within site.config site.states key s (Written dot)) (sym is))
    (ap (λ s. Some (key, s)) (sym is))
    gives

-- a put whose counters are used up
pub exhausted : (site : SiteValue) (key : Key) (seen : DotSet) (document : Text) →
    mint site.config.site (union (state_at site.states key).context seen) ≡ None → Refused Exhausted ≡ answer_from site.config site.states (Put key seen document)
exhausted site key seen document none = sym (ap (put_from site.config site.states key seen document) none)

pub limited_delete : (site : SiteValue) (key : Key) (seen : DotSet) (after : State) (result : Result Prepared Refusal) →
    after ≡ after_delete (state_at site.states key) seen →
    LimitsTo site key after None result → PreparesFrom site.config site.states (Delete key seen) result
limited_delete site key seen after result is gives =
    limited site (Delete key seen) key after None result
    (ap (λ s. within site.config site.states key s Done) (sym is))
    (ap (λ s. Some (key, s)) (sym is))
    gives

abbrev push_with : SiteValue → Key → State → Bool → Bool → Reply
push_with site key pushed large clash = if large then Refused StateTooLarge else if clash then Refused DotClash else within site.config site.states key (join (state_at site.states key) pushed) Done

pub limited_push : (site : SiteValue) (key : Key) (pushed after : State) (result : Result Prepared Refusal) →
    is_too_large pushed ≡ false → clashes (state_at site.states key) pushed ≡ false → after ≡ join (state_at site.states key) pushed →
    LimitsTo site key after None result → PreparesFrom site.config site.states (Push key pushed) result
limited_push site key pushed after result small agreed is gives =
    limited site (Push key pushed) key after None result
    (ap₂ (push_with site key pushed) small agreed ∙ ap (λ s. within site.config site.states key s Done) (sym is))
    (ap (λ s. Some (key, s)) (sym is))
    gives

-- a push of a state that is too long, and one that clashes
pub pushed_large : (site : SiteValue) (key : Key) (pushed : State) → is_too_large pushed ≡ true → Refused StateTooLarge ≡ answer_from site.config site.states (Push key pushed)
pushed_large site key pushed large = sym (ap (λ b. push_with site key pushed b (clashes (state_at site.states key) pushed)) large)

pub pushed_clash : (site : SiteValue) (key : Key) (pushed : State) → is_too_large pushed ≡ false → clashes (state_at site.states key) pushed ≡ true →
    Refused DotClash ≡ answer_from site.config site.states (Push key pushed)
pushed_clash site key pushed small clash = sym (ap₂ (push_with site key pushed) small clash)

-- a question changes nothing
prepares_reply : (config : ConfigValue) (states : States) (request : Request) (result : Result Prepared Refusal) → ((reply : Reply) → change_from states request reply ≡ None) →
    PreparesReply (answer_from config states request) result → PreparesFrom config states request result
prepares_reply config states request (Err refusal) nothing gives = gives
prepares_reply config states request (Ok (Answer reply)) nothing gives =
    let none : change_from states request (answer_from config states request) ≡ None = nothing (answer_from config states request) in
    record { answers = gives; still = subst (λ o. IfSome o (λ c. c.1 ≡ state_at states c.0)) (sym none) tt; after = ap (with_change states) none }
prepares_reply config states request (Ok (Change change)) nothing gives = absurd gives

-- and so what is prepared is the answer, where the request is this question
pub asked : (site : SiteValue) (request question : Request) (result : Result Prepared Refusal) → request ≡ question → ((reply : Reply) → change_from site.states question reply ≡ None) →
    PreparesReply (answer_from site.config site.states question) result → PreparesFromStates site request result
asked site request question result is nothing gives whole =
    subst (λ r. PreparesFrom site.config site.states r result) (sym is) (prepares_reply site.config site.states question result nothing gives)

-- ---- the same, from the writes known

still_known : (states : States) (known : List Write) (o : Option (Key × State)) → Stands states known → IfSome o (λ c. c.1 ≡ state_at states c.0) → IfSome o (λ c. c.1 ≡ state c.0 known)
still_known states known None stands still = tt
still_known states known (Some change) stands still = still ∙ state_at-stands states known change.0 stands

-- what is prepared from the states is prepared from any writes that they stand for
pub prepares_known : (config : ConfigValue) (states : States) (known : List Write) (request : Request) (result : Result Prepared Refusal) → Stands states known →
    PreparesFrom config states request result → Prepares config known request result
prepares_known config states known request (Err refusal) stands gives = ⊎_elim (λ is. inl (is ∙ answered config states known request stands)) (λ memory. inr memory) gives
prepares_known config states known request (Ok (Answer reply)) stands gives =
    let is : reply ≡ answer config known request = gives.answers ∙ answered config states known request stands in
    let change : change_from states request (answer_from config states request) ≡ change_of known request reply =
    changed_alike config states known request stands ∙ ap (change_of known request) (sym is) in
    record { answers = is; still = subst (λ o. IfSome o (λ c. c.1 ≡ state c.0 known)) change (still_known states known _ stands gives.still) }
prepares_known config states known request (Ok (Change change)) stands gives =
    let is : change_reply change.dot ≡ answer config known request = gives.answers ∙ answered config states known request stands in
    record {
      answers = is;
      leaves = ap (change_of known request) is ∙ sym (changed_alike config states known request stands) ∙ gives.leaves;
      differs = λ same. gives.differs (same ∙ sym (state_at-stands states known change.key stands));
    }

-- so what follows from the states follows from the writes that they stand for
pub known_at : (site : SiteValue) (request : Request) (result : Result Prepared Refusal) →
    PreparesFromStates site request result → PreparesAt site request result
known_at site request result from = λ whole known stands.
    prepares_known site.config site.states known request result stands (from whole)

-- ---- the step

-- a refusal accepts nothing
pub refuses_all : (request : Request) (refusal : Refusal) (W : List Write) → change_of W request (Refused refusal) ≡ None
refuses_all (Put key seen document) refusal W = refl
refuses_all (Delete key seen) refusal W = refl
refuses_all (Push key pushed) refusal W = refl
refuses_all request refusal W = refl

-- ---- the step, from the states

pub refuses_from : (states : States) (request : Request) (refusal : Refusal) → change_from states request (Refused refusal) ≡ None
refuses_from states (Put key seen document) refusal = refl
refuses_from states (Delete key seen) refusal = refl
refuses_from states (Push key pushed) refusal = refl
refuses_from states request refusal = refl

-- a site that is not broken, and has the states that it had
pub whole_site : (site : SiteValue) (states : States) → site.broken ≡ false → states ≡ site.states → site ≡ record { config = site.config; states = states; broken = false }
whole_site site states whole same = λ i. record { config = site.config; states = sym same i; broken = whole i }

pub answers_from_answer : (old : SiteValue) (request : Request) (reply : Reply) →
    (old.broken ≡ false → PreparesAnswerFrom old.config old.states request reply) → AnswersFrom old old request reply
answers_from_answer old request reply prepared whole =
    let here : PreparesAnswerFrom old.config old.states request reply = prepared whole in
    inl (record { answers = here.answers; site = whole_site old _ whole here.after })

pub answers_from_change : (old new : SiteValue) (request : Request) (change : ChangeValue) (reply : Reply) →
    new ≡ record { config = old.config; states = insert_at old.states change.key change.state; broken = false } → reply ≡ change_reply change.dot →
    (old.broken ≡ false → PreparesChangeFrom old.config old.states request change) → AnswersFrom old new request reply
answers_from_change old new request change reply installed told prepared whole =
    let here : PreparesChangeFrom old.config old.states request change = prepared whole in
    inl (record { answers = told ∙ here.answers; site = installed ∙ (λ i. record { config = old.config; states = sym here.after i; broken = false }) })

pub answers_from_refusal : (old : SiteValue) (request : Request) (refusal : Refusal) →
    (old.broken ≡ false → (Refused refusal ≡ answer_from old.config old.states request) ⊎ (refusal ≡ Memory)) → AnswersFrom old old request (Refused refusal)
answers_from_refusal old request refusal prepared whole =
    ⊎_elim
    (λ is. inl (record { answers = is; site = whole_site old _ whole (ap (λ r. with_change old.states (change_from old.states request r)) (sym is) ∙ ap (with_change old.states) (refuses_from old.states request refusal)) }))
    (λ memory. inr (inl (ap Refused memory, refl)))
    (prepared whole)

pub answers_from_breaking : (old new : SiteValue) (request : Request) (change : ChangeValue) (refusal : Refusal) →
    refusal ≡ Broken → new ≡ record { config = old.config; states = old.states; broken = true } →
    (old.broken ≡ false → PreparesChangeFrom old.config old.states request change) → AnswersFrom old new request (Refused refusal)
answers_from_breaking old new request change refusal is broke prepared whole =
    let here : PreparesChangeFrom old.config old.states request change = prepared whole in
    inr (inr (ap Refused is, record { changes = λ same. insert_differs old.states change.key change.state here.differs (sym here.after ∙ same); site = broke }))

-- no key is held where nothing is known
pub Stands-none : (m : States) → m ≡ empty_map → Stands m []
Stands-none m none = record { at = λ key. ap (λ n. get n key) none ∙ get-empty key_cmp key ∙ sym (ap (λ b. if b then None else Some (state key [])) (no_writes key [] refl)) }
