-- Replies of requests of one commit, as their changes are put in.
use Rattle.std.proofs.Common.{◌≡◌, ◌≢◌, ◌∙◌, Bool, true, false, List, [], ◌∷◌, map, None, Ok, Option, Some, refl, sym, ap, subst, inl, inr, true≢false}
use Rattle.std.specs.FinMap.{insert}
use Rattle.mvd_dots.specs.declared.refusals.Refusal.{Refusal}
use Rattle.mvd_dots.specs.declared.refusals.Refusal.TheVariants.{Broken, Memory, Store}
use Rattle.mvd_keys.specs.State.{State as Keyed, join}
use Rattle.mvd_keys.specs.Writes.{Key}
use Rattle.mvd_wire.specs.declared.request.Request.{Request}
use Rattle.mvd_wire.specs.declared.request.Request.TheVariants.{Bye, Hello, Node, Push, Row}
use Rattle.mvd_wire.specs.declared.reply.Reply.{Reply}
use Rattle.mvd_wire.specs.declared.reply.Reply.TheVariants.{Done, Refused}
use Rattle.mvd_site.specs.Change.{ChangeValue, change_reply}
use Rattle.mvd_site.specs.Config.{ConfigValue}
use Rattle.mvd_site.specs.FromStates.{AnswersFrom, answer_from, change_from}
use Rattle.mvd_site.specs.Held.{AreHeld, States, state_at}
use Rattle.mvd_site.specs.Known.{IsValidRequest}
use Rattle.mvd_site.specs.Prepared.{IsFrugal, PreparesChangeFrom, is_refusal}
use Rattle.mvd_kept.specs.declared.prepared.Prepared.{Prepared}
use Rattle.mvd_kept.specs.declared.prepared.Prepared.TheVariants.{Answer, Change}
use Rattle.mvd_site.specs.Sites.{SiteValue}
use Rattle.mvd_kept.proofs.HeldMaps.{kept_inserted}
use Rattle.mvd_site.proofs.Answered.{insert_differs}
use Rattle.mvd_site.proofs.Installed.{broken_stays, states_with, was_whole, whole_after}
use Rattle.mvd_site.proofs.Outcomes.{change_plain, join_ok, refused_fits}
use Rattle.mvd_site.proofs.Prepare.{answers_from_answer, answers_from_breaking, answers_from_change}
use Rattle.mvd_replica.specs.Batch.{AnswersOneFrom, AreAmongTurns, Loses, TakesAllFrom, lost_requests}
use Rattle.mvd_site.specs.Installs.{PutsAll, PutsIfWhole, PutsOne, broken_site, with_group, with_one, with_prepared}
use Rattle.mvd_replica.specs.Groups.{AllComeAlone, AreSendable, ComeInOrder, ComesAlone, ComesTo, IsAlone, IsGivenReply, IsSendable, StandTogether, pairs_in, reply_unstored}
use Rattle.mvd_replica.specs.Sides.{AnswersFromStored}
use Rattle.mvd_replica.specs.Whole.{after_all}
use Rattle.mvd_replica.specs.Turns.{IsToldElse, Turn}
use Rattle.mvd_replica.proofs.Batching.{told_turn}
use Rattle.mvd_replica.proofs.Batched.{loses_later}
use Rattle.mvd_replica.proofs.Grouping.{ordered_next}

-- ---- replies as turns

abbrev pub turns_of : List Request → List Reply → List Turn
turns_of [] replies = []
turns_of (request ∷ requests) [] = []
turns_of (request ∷ requests) (reply ∷ replies) = record { asked = Ok request; reply = reply } ∷ turns_of requests replies

-- one reply for each request
abbrev pub AreOne : List Request → List Reply → Type 0
AreOne [] [] = Unit {0}
AreOne (request ∷ requests) (reply ∷ replies) = AreOne requests replies
AreOne requests replies = ⊥

pub asked_of : (requests : List Request) (replies : List Reply) → AreOne requests replies → map (λ (t : Turn). t.asked) (turns_of requests replies) ≡ map (λ (r : Request). Ok r) requests
asked_of [] [] one = refl
asked_of [] (x ∷ replies) one = absurd one
asked_of (r ∷ requests) [] one = absurd one
asked_of (r ∷ requests) (x ∷ replies) one = ap (λ l. Ok r ∷ l) (asked_of requests replies one)

pub told_of : (requests : List Request) (replies : List Reply) → AreOne requests replies → map (λ (t : Turn). t.reply) (turns_of requests replies) ≡ replies
told_of [] [] one = refl
told_of [] (x ∷ replies) one = absurd one
told_of (r ∷ requests) [] one = absurd one
told_of (r ∷ requests) (x ∷ replies) one = ap (λ l. x ∷ l) (told_of requests replies one)

pub one_put : (requests : List Request) (group : List Prepared) (replies : List Reply) (old new : SiteValue) → AreSendable requests group → PutsAll old new group replies → AreOne requests replies
one_put [] [] [] old new sendable all = tt
one_put [] [] (x ∷ replies) old new sendable all = absurd all
one_put [] (p ∷ group) replies old new sendable all = absurd sendable
one_put (r ∷ requests) [] replies old new sendable all = absurd sendable
one_put (r ∷ requests) (p ∷ group) [] old new sendable all = absurd all
one_put (r ∷ requests) (p ∷ group) (x ∷ replies) old new sendable all = one_put requests group replies all.0 new sendable.1 all.2

pub one_unstored : (requests : List Request) (group : List Prepared) → AreSendable requests group → AreOne requests (map reply_unstored group)
one_unstored [] [] sendable = tt
one_unstored [] (p ∷ group) sendable = absurd sendable
one_unstored (r ∷ requests) [] sendable = absurd sendable
one_unstored (r ∷ requests) (p ∷ group) sendable = one_unstored requests group sendable.1

-- ---- one reply

answers_same : (old : SiteValue) (request : Request) (reply : Reply) → ComesTo old.config old.states request (Answer reply) → AnswersFrom old old request reply
answers_same old request reply comes = elim comes.0 [
  | inl was ↦ answers_from_answer old request reply (λ _. was)
  | inr memory ↦ λ whole. inr (inl (memory, refl))
]

pub no_done : (request : Request) (refusal : Refusal) → Refused refusal ≡ Done → IsValidRequest request
no_done request refusal is = absurd (let wrong : ◌≡◌ {A = Reply} (Refused refusal) Done = is in cc)

module _ (old new : SiteValue) (request : Request) where
  -- a broken site
  one_broken : (reply : Reply) → old.broken ≡ true → reply ≡ Refused Broken → new ≡ old → AnswersOneFrom old new request reply
  one_broken reply was told same = record {
    does = inl (record {
      step = λ whole. absurd (true≢false (sym was ∙ whole));
      broken = λ _. (told, same);
      valid = λ done. no_done request Broken (sym told ∙ done);
      frugal = λ _ bad. (let other : Refused Broken ≡ Refused Memory = sym told ∙ bad in cc);
    });
    form = λ held. subst (λ (s : SiteValue). AreHeld s.states) (sym same) held;
  }

  -- one that was not, and whose reply does not say so
  one_whole : (reply given : Reply) → old.broken ≡ false → given ≡ reply → IsGivenReply request reply → AnswersFromStored old new request given →
      (IsFrugal old.states request → given ≢ Refused Memory) → (AreHeld old.states → AreHeld new.states) → AnswersOneFrom old new request given
  one_whole reply given was told is whole frugal form = record {
    does = elim whole [
      | inr store ↦ inr store
      | inl from ↦ inl (record {
        step = from;
        broken = λ broken. absurd (true≢false (sym broken ∙ was));
        valid = λ done. is.valid (sym told ∙ done);
        frugal = frugal;
      })
    ];
    form = form;
  }

  -- one that breaks
  one_breaks : (change : ChangeValue) (given : Reply) → old.broken ≡ false → given ≡ Refused Broken → new ≡ broken_site old → PreparesChangeFrom old.config old.states request change → AnswersOneFrom old new request given
  one_breaks change given was told breaks comes = record {
    does = inl (record {
      step = subst (λ x. AnswersFrom old new request x) (sym told) (answers_from_breaking old new request change Broken refl breaks (λ _. comes));
      broken = λ broken. absurd (true≢false (sym broken ∙ was));
      valid = λ done. no_done request Broken (sym told ∙ done);
      frugal = λ _ bad. (let other : Refused Broken ≡ Refused Memory = sym told ∙ bad in cc);
    });
    form = λ held. subst (λ (s : SiteValue). AreHeld s.states) (sym breaks) held;
  }

  one_puts : (prepared : Prepared) (reply : Reply) → old.broken ≡ false → ComesTo old.config old.states request prepared → IsSendable request prepared → PutsOne old new prepared reply → AnswersOneFrom old new request reply
  one_puts (Answer told) reply was comes sendable puts =
      one_whole told reply was puts.0 sendable (subst (λ s. AnswersFromStored old s request reply) (sym puts.1) (subst (λ x. AnswersFromStored old old request x) (sym puts.0) (inl (answers_same old request told comes))))
      (λ frugal bad. comes.1 frugal (sym puts.0 ∙ bad)) (λ held. subst (λ (s : SiteValue). AreHeld s.states) (sym puts.1) held)
  one_puts (Change change) reply was comes sendable (inl puts) =
      one_whole (change_reply change.dot) reply was puts.0 sendable.0 (inl (answers_from_change old new request change reply puts.1 puts.0 (λ _. comes.0)))
      (λ _ bad. true≢false (sym (ap is_refusal (sym puts.0 ∙ bad)) ∙ (change_plain change.dot).accepts))
      (λ held. subst (λ (s : SiteValue). AreHeld s.states) (sym puts.1) (kept_inserted old.states change.key change.state held sendable.1 sendable.3 sendable.4 sendable.2))
  one_puts (Change change) reply was comes sendable (inr puts) = one_breaks change reply was puts.0 puts.1 comes.0

  pub one_answers : (prepared : Prepared) (reply : Reply) (was : Bool) → old.broken ≡ was → (old.broken ≡ false → ComesTo old.config old.states request prepared) → IsSendable request prepared → PutsIfWhole old new prepared reply →
      AnswersOneFrom old new request reply
  one_answers prepared reply true was comes sendable puts = one_broken reply was (puts.broken was).0 (puts.broken was).1
  one_answers prepared reply false was comes sendable puts = one_puts prepared reply was (comes was) sendable (puts.whole was)

-- ---- one request, prepared alone

-- a broken site prepares no change
pub whole_change : (broken : Bool) (change : ChangeValue) → (broken ≡ true → Change change ≡ Answer (Refused Broken)) → broken ≡ false
whole_change false change never = refl
whole_change true change never = let bad : Change change ≡ Answer (Refused Broken) = never refl in absurd cc

same_answer : (a b : Reply) → Answer a ≡ Answer b → a ≡ b
same_answer a b is = cc

-- what was prepared as a reply is told
pub one_prepared : (old : SiteValue) (request : Request) (reply : Reply) → (old.broken ≡ true → Answer reply ≡ Answer (Refused Broken)) →
    (old.broken ≡ false → ComesTo old.config old.states request (Answer reply) × IsSendable request (Answer reply)) → AnswersOneFrom old old request reply
one_prepared old request reply broken comes = elim old.broken as (λ b. old.broken ≡ b → AnswersOneFrom old old request reply) [
  | true ↦ λ was. one_broken old old request reply was (same_answer reply (Refused Broken) (broken was)) refl
  | false ↦ λ whole. (let it = comes whole in one_whole old old request reply reply whole refl it.1 (inl (answers_same old request reply it.0)) it.0.1 (λ held. held))
] refl

pushed_change : (m : States) (key : Key) (pushed : Keyed) (reply : Reply) (own : Key) (s : Keyed) → change_from m (Push key pushed) reply ≡ Some (own, s) → (own ≡ key) × (s ≡ join (state_at m key) pushed)
pushed_change m key pushed Done own s is = (let same : ◌≡◌ {A = Key × Keyed} (key, join (state_at m key) pushed) (own, s) = cc in (ap (λ p. p.0) (sym same), ap (λ p. p.1) (sym same)))
pushed_change m key pushed reply own s is = absurd cc

-- a request that takes no memory is no change
no_change : (config : ConfigValue) (m : States) (request : Request) (change : ChangeValue) → IsFrugal m request → PreparesChangeFrom config m request change → ⊥
no_change config m (Push key pushed) change frugal comes =
    let is = pushed_change m key pushed (answer_from config m (Push key pushed)) change.key change.state comes.leaves in
    comes.differs (is.1 ∙ sym (join_ok (state_at m key) pushed (state_at m key) frugal).1 ∙ ap (state_at m) (sym is.0))
no_change config m (Node path) change frugal comes = let bad : ◌≡◌ {A = Option (Key × Keyed)} None (Some (change.key, change.state)) = comes.leaves in absurd cc
no_change config m (Row view term) change frugal comes = let bad : ◌≡◌ {A = Option (Key × Keyed)} None (Some (change.key, change.state)) = comes.leaves in absurd cc
no_change config m (Hello token) change frugal comes = let bad : ◌≡◌ {A = Option (Key × Keyed)} None (Some (change.key, change.state)) = comes.leaves in absurd cc
no_change config m Bye change frugal comes = let bad : ◌≡◌ {A = Option (Key × Keyed)} None (Some (change.key, change.state)) = comes.leaves in absurd cc
no_change config m request change frugal comes = absurd frugal

-- memory was refused for a change
pub one_forgone : (old : SiteValue) (request : Request) (change : ChangeValue) (refusal : Refusal) → old.broken ≡ false → refusal ≡ Memory → IsAlone old request change → AnswersOneFrom old old request (Refused refusal)
one_forgone old request change refusal whole memory alone =
    one_whole old old request (Refused Memory) (Refused refusal) whole (ap Refused memory)
    (record { other = λ bad. cc; fits = refused_fits Memory; valid = no_done request Memory })
    (inl (λ _. inr (inl (ap Refused memory, refl)))) (λ frugal _. absurd (no_change old.config old.states request change frugal alone.0.0)) (λ held. held)

pub together_alone : (site : SiteValue) (request : Request) (change : ChangeValue) → IsAlone site request change → StandTogether site (request ∷ []) (Change change ∷ [])
together_alone site request change alone = record { each = ((change, alone.0), tt); ordered = (alone.0, tt); sendable = (alone.1, tt) }

pub ordered_after : (old mid : SiteValue) (prepared : Prepared) (reply : Reply) (requests : List Request) (group : List Prepared) → PutsIfWhole old mid prepared reply →
    (old.broken ≡ false → ComeInOrder old.config (with_prepared old.states prepared) requests group) → mid.broken ≡ false → ComeInOrder mid.config mid.states requests group
ordered_after old mid prepared reply requests group puts ordered whole =
    let was : old.broken ≡ false = was_whole old mid prepared reply old.broken refl puts whole in
    subst (λ (s : SiteValue). ComeInOrder s.config s.states requests group) (sym (whole_after old mid prepared reply whole (puts.whole was))) (ordered_next old prepared requests group (ordered was))

-- ---- all replies

pub takes_put : (requests : List Request) (group : List Prepared) (replies : List Reply) (old new : SiteValue) → (old.broken ≡ false → ComeInOrder old.config old.states requests group) → AreSendable requests group →
    PutsAll old new group replies → TakesAllFrom old new (turns_of requests replies)
takes_put [] [] [] old new ordered sendable all = all
takes_put [] [] (x ∷ replies) old new ordered sendable all = absurd all
takes_put [] (p ∷ group) replies old new ordered sendable all = absurd sendable
takes_put (r ∷ requests) [] replies old new ordered sendable all = absurd sendable
takes_put (r ∷ requests) (p ∷ group) [] old new ordered sendable all = absurd all
takes_put (r ∷ requests) (p ∷ group) (x ∷ replies) old new ordered sendable all = (
  all.0,
  one_answers old all.0 r p x old.broken refl (λ whole. (ordered whole).0) sendable.0 all.1,
  takes_put requests group replies all.0 new (ordered_after old all.0 p x requests group all.1 (λ whole. (ordered whole).1)) sendable.1 all.2,
)

one_unstored_from : (old : SiteValue) (request : Request) (prepared : Prepared) → old.broken ≡ false → ComesAlone old.config old.states request prepared → IsSendable request prepared → AnswersOneFrom old old request (reply_unstored prepared)
one_unstored_from old request (Answer reply) was comes sendable = one_whole old old request reply reply was refl sendable (inl (answers_same old request reply comes)) comes.1 (λ held. held)
one_unstored_from old request (Change change) was comes sendable =
    one_whole old old request (Refused Store) (Refused Store) was refl
    (record { other = λ bad. cc; fits = refused_fits Store; valid = no_done request Store })
    (inr (record { told = refl; changes = λ same. insert_differs old.states comes.0.key comes.0.state comes.1.0.differs (sym comes.1.0.after ∙ same); whole = was; site = refl }))
    (λ _ bad. cc) (λ held. held)

pub takes_unstored : (requests : List Request) (group : List Prepared) (old : SiteValue) → old.broken ≡ false → AllComeAlone old.config old.states requests group → AreSendable requests group →
    TakesAllFrom old old (turns_of requests (map reply_unstored group))
takes_unstored [] [] old was each sendable = refl
takes_unstored [] (p ∷ group) old was each sendable = absurd sendable
takes_unstored (r ∷ requests) [] old was each sendable = absurd sendable
takes_unstored (r ∷ requests) (p ∷ group) old was each sendable = (old, one_unstored_from old r p was each.0 sendable.0, takes_unstored requests group old was each.1 sendable.1)

-- ---- the site at the end

-- where nothing is stored nothing is changed
pub still_end : (group : List Prepared) (replies : List Reply) (old new : SiteValue) → old.broken ≡ false → pairs_in group ≡ [] → PutsAll old new group replies → new ≡ old
still_end [] [] old new was none all = all
still_end [] (x ∷ replies) old new was none all = absurd all
still_end (p ∷ group) [] old new was none all = absurd all
still_end (Answer reply ∷ group) (x ∷ replies) old new was none all =
    let here : all.0 ≡ old = (all.1.whole was).1 in
    still_end group replies all.0 new (ap (λ (s : SiteValue). s.broken) here ∙ was) none all.2 ∙ here
still_end (Change change ∷ group) (x ∷ replies) old new was none all = absurd cc

-- ---- what a break leaves out

among_skip : (requests : List Request) (turn : Turn) (turns : List Turn) → AreAmongTurns requests turns → AreAmongTurns requests (turn ∷ turns)
among_skip [] turn turns all = tt
among_skip (request ∷ requests) turn turns all = inr all

-- after the break each request is told 22, and those with a change are the rest of the commit
abbrev IsRest : ConfigValue → States → List Turn → States → Type 0
IsRest config m turns after = (rest : List Request) × AreAmongTurns rest turns × (after_all config m rest ≡ after)

rest_of : (config : ConfigValue) (requests : List Request) (group : List Prepared) (replies : List Reply) (m : States) (site new : SiteValue) → site.broken ≡ true → ComeInOrder config m requests group → PutsAll site new group replies →
    IsRest config m (turns_of requests replies) (with_group m group)
rest_of config [] [] replies m site new was ordered all = ([], tt, refl)
rest_of config [] (p ∷ group) replies m site new was ordered all = absurd ordered
rest_of config (r ∷ requests) [] replies m site new was ordered all = absurd ordered
rest_of config (r ∷ requests) (p ∷ group) [] m site new was ordered all = absurd all
rest_of config (r ∷ requests) (Answer reply ∷ group) (x ∷ replies) m site new was ordered all =
    let here : all.0 ≡ site = (all.1.broken was).1 in
    let later : IsRest config m (turns_of requests replies) (with_group m group) =
    rest_of config requests group replies m all.0 new (ap (λ (s : SiteValue). s.broken) here ∙ was) ordered.1 all.2 in
    (later.0, among_skip later.0 (record { asked = Ok r; reply = x }) (turns_of requests replies) later.1, later.2)
rest_of config (r ∷ requests) (Change change ∷ group) (x ∷ replies) m site new was ordered all =
    let here : all.0 ≡ site = (all.1.broken was).1 in
    let later : IsRest config (insert m change.key change.state) (turns_of requests replies) (with_group (insert m change.key change.state) group) =
    rest_of config requests group replies (insert m change.key change.state) all.0 new (ap (λ (s : SiteValue). s.broken) here ∙ was) ordered.1 all.2 in
    (r ∷ later.0, inl ((refl, (all.1.broken was).0), later.1), ap (λ n. after_all config n later.0) ordered.0.0.after ∙ later.2)

-- the same of a site that broke: with what it lost it has these states
pub record LostAt (turns : List Turn) (site : SiteValue) (after : States) : Type 0 where
  pub lost : Loses turns site
  pub is : after_all site.config site.states (lost_requests lost) ≡ after

lost_here : (requests : List Request) (group : List Prepared) (replies : List Reply) (request : Request) (reply : Reply) (prepared : Prepared) (old mid new : SiteValue) → old.broken ≡ false → mid.broken ≡ true →
    ComesTo old.config old.states request prepared → ComeInOrder old.config (with_prepared old.states prepared) requests group → PutsOne old mid prepared reply → PutsAll mid new group replies →
    LostAt (record { asked = Ok request; reply = reply } ∷ turns_of requests replies) new (with_group (with_prepared old.states prepared) group)
lost_here requests group replies request reply (Answer told) old mid new was is comes ordered puts all =
    absurd (true≢false (sym is ∙ ap (λ (s : SiteValue). s.broken) puts.1 ∙ was))
lost_here requests group replies request reply (Change change) old mid new was is comes ordered (inl puts) all =
    absurd (true≢false (sym is ∙ ap (λ (s : SiteValue). s.broken) puts.1))
lost_here requests group replies request reply (Change change) old mid new was is comes ordered (inr puts) all =
    let turns : List Turn = record { asked = Ok request; reply = reply } ∷ turns_of requests replies in
    let end : new ≡ broken_site old = broken_stays group replies mid new is all ∙ puts.1 in
    let later : IsRest old.config (insert old.states change.key change.state) (turns_of requests replies) (with_group (insert old.states change.key change.state) group) =
    rest_of old.config requests group replies (insert old.states change.key change.state) mid new is ordered all in
    subst (λ s. LostAt turns s (with_group (insert old.states change.key change.state) group)) (sym end) (record {
      lost = record {
        before = [];
        broke = record { asked = Ok request; reply = reply };
        later = turns_of requests replies;
        all = refl;
        first = tt;
        request = request;
        asked = (refl, puts.0);
        changes = λ same. insert_differs old.states change.key change.state comes.0.differs (sym comes.0.after ∙ same);
        rest = later.0;
        among = later.1;
      };
      is = ap (λ n. after_all old.config n later.0) comes.0.after ∙ later.2;
    })

lost_further : (turn : Turn) (turns : List Turn) (site : SiteValue) (after : States) → IsToldElse turn → LostAt turns site after → LostAt (turn ∷ turns) site after
lost_further turn turns site after none it = record { lost = loses_later (turn ∷ []) turns site (none, tt) it.lost; is = it.is }

lost_on : (requests : List Request) (group : List Prepared) (replies : List Reply) (request : Request) (reply : Reply) (prepared : Prepared) (old mid new : SiteValue) (is : Bool) → mid.broken ≡ is → old.broken ≡ false →
    ComesTo old.config old.states request prepared → ComeInOrder old.config (with_prepared old.states prepared) requests group → IsSendable request prepared → PutsIfWhole old mid prepared reply → PutsAll mid new group replies →
    (mid.broken ≡ false → ComeInOrder mid.config mid.states requests group → LostAt (turns_of requests replies) new (with_group mid.states group)) →
    LostAt (record { asked = Ok request; reply = reply } ∷ turns_of requests replies) new (with_group (with_prepared old.states prepared) group)
lost_on requests group replies request reply prepared old mid new true is was comes ordered one puts all later =
    lost_here requests group replies request reply prepared old mid new was is comes ordered (puts.whole was) all
lost_on requests group replies request reply prepared old mid new false is was comes ordered one puts all later =
    let after : mid ≡ with_one old prepared = whole_after old mid prepared reply is (puts.whole was) in
    let states : mid.states ≡ with_prepared old.states prepared = ap (λ (s : SiteValue). s.states) after ∙ states_with old prepared in
    lost_further (record { asked = Ok request; reply = reply }) (turns_of requests replies) new (with_group (with_prepared old.states prepared) group)
    (told_turn old mid (Ok request) reply (one_puts old mid request prepared reply was comes one (puts.whole was)) is)
    (subst (λ m. LostAt (turns_of requests replies) new (with_group m group)) states
    (later is (ordered_after old mid prepared reply requests group puts (λ _. ordered) is)))

pub lost_end : (requests : List Request) (group : List Prepared) (replies : List Reply) (old new : SiteValue) → old.broken ≡ false → new.broken ≡ true → ComeInOrder old.config old.states requests group → AreSendable requests group →
    PutsAll old new group replies → LostAt (turns_of requests replies) new (with_group old.states group)
lost_end [] [] [] old new was broken ordered sendable all = absurd (true≢false (sym broken ∙ ap (λ (s : SiteValue). s.broken) all ∙ was))
lost_end [] [] (x ∷ replies) old new was broken ordered sendable all = absurd all
lost_end [] (p ∷ group) replies old new was broken ordered sendable all = absurd sendable
lost_end (r ∷ requests) [] replies old new was broken ordered sendable all = absurd sendable
lost_end (r ∷ requests) (p ∷ group) [] old new was broken ordered sendable all = absurd all
lost_end (r ∷ requests) (p ∷ group) (x ∷ replies) old new was broken ordered sendable all =
    lost_on requests group replies r x p old all.0 new all.0.broken refl was ordered.0 ordered.1 sendable.0 all.1 all.2
    (λ is next. lost_end requests group replies all.0 new is broken next sendable.1 all.2)
