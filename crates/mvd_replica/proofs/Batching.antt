-- Turns of a replica: what follows from what each does to the states.
use Rattle.std.proofs.Common.{◌≡◌, ◌≢◌, ◌⊎◌, ◌∙◌, Bool, true, false, List, [], ◌∷◌, ◌++◌, Option, Some, None, Result, Ok, Err, IsSomeAnd, refl, sym, ap, subst, inl, inr, true≢false}
use Rattle.std.specs.List.{AllByRecursion}
use Rattle.mvd_dots.specs.declared.refusals.Refusal.{Refusal}
use Rattle.mvd_dots.specs.declared.refusals.Refusal.TheVariants.{Broken, Memory, Store}
use Rattle.mvd_keys.specs.State.{State as Keyed}
use Rattle.mvd_keys.specs.Writes.{Key, Stands, Write, state}
use Rattle.mvd_wire.specs.declared.request.Request.{Request}
use Rattle.mvd_wire.specs.declared.reply.Reply.{Reply}
use Rattle.mvd_wire.specs.declared.reply.Reply.TheVariants.{Refused}
use Rattle.mvd_wire.specs.Replies.{CanBeSent}
use Rattle.mvd_site.specs.Config.{ConfigValue}
use Rattle.mvd_site.specs.FromStates.{after_from, answer_from, change_from, with_change}
use Rattle.mvd_site.specs.Held.{AreHeld, States}
use Rattle.mvd_site.specs.Known.{Adds, ChangesKey}
use Rattle.mvd_site.specs.Sites.{SiteStands, SiteValue}
use Rattle.mvd_site.proofs.Answered.{after_stands, answered, changed_alike, with_state-same}
use Rattle.mvd_site.proofs.AnsweredAtOnce.{adds_some, told_broken}
use Rattle.mvd_site.proofs.Fitting.{reply_fits}
use Rattle.mvd_site.proofs.Outcomes.{refused_fits}
use Rattle.mvd_site.proofs.Pushes.{refusal_is}
use Rattle.mvd_site.proofs.Steps.{Stands-nothing, state_at-stands}
use Rattle.mvd_replica.specs.Batch.{AnswersOneFrom, TakesAllFrom, TakesFrom}
use Rattle.mvd_replica.specs.Sides.{AnswersFromStored}
use Rattle.mvd_replica.specs.Turns.{AddsAt, TurnEvent, IsFirstBroken, IsToldBroken, IsToldElse, MayReplyStored, MayTell, Replies, RepliesOne, StandsOn, Turn}
use Rattle.mvd_replica.proofs.Positions.{TakesTurns, TurnsFollow}
use Rattle.mvd_replica.proofs.Replying.{AddsAt-Refused, AddsAt-Refused-none, HasChoice, HasChoice-append, HasChoice-none, Replies-append, Replies-none, Replies-one, StandsOn-append, StandsOn-none, StandsOn-one}
use Rattle.sqlite.specs.State.{State}

-- ---- one request, from the states and so from the writes

some_differs : (m : States) (known : List Write) (o : Option (Key × Keyed)) → Stands m known → with_change m o ≢ m → IsSomeAnd o (λ c. c.1 ≢ state c.0 known)
some_differs m known None stands differs = differs refl
some_differs m known (Some c) stands differs = λ same. differs (with_state-same m c.0 c.1 (same ∙ sym (state_at-stands m known c.0 stands)))

changes_known : (config : ConfigValue) (m : States) (known : List Write) (request : Request) → Stands m known → after_from config m request ≢ m → ChangesKey config known request
changes_known config m known request stands differs =
    subst (λ o. IsSomeAnd o (λ c. c.1 ≢ state c.0 known)) (changed_alike config m known request stands)
    (some_differs m known (change_from m request (answer_from config m request)) stands differs)

module _ {old new : SiteValue} {request : Request} {reply : Reply} (one : AnswersOneFrom old new request reply) where
  -- what it does with a request where it is not broken, and where it is
  pub stored_from : AnswersFromStored old new request reply
  stored_from = elim one.does [ inl does ↦ inl does.step | inr store ↦ inr store ]

  pub stays_from : old.broken ≡ true → (reply ≡ Refused Broken) × (new ≡ old)
  stays_from was = elim one.does [ inl does ↦ does.broken was | inr store ↦ absurd (true≢false (sym was ∙ store.whole)) ]

  pub broken_from : reply ≡ Refused Broken → new.broken ≡ true
  broken_from told = elim one.does [
    | inl does ↦ told_broken old new request reply does told
    | inr store ↦ absurd (let wrong : ◌≡◌ {A = Refusal} Broken Store = refusal_is Broken Store (sym told ∙ store.told) in cc)
  ]

  -- there are writes that it adds
  pub choice_from : (added : List Write) × Adds request reply added
  choice_from = elim one.does [
    | inl does ↦ adds_some old new request reply does
    | inr store ↦ ([], subst (λ r. Adds request r []) (sym store.told) (AddsAt-Refused-none (Ok request) Store))
  ]

pub site_broken : (a b : SiteValue) → a ≡ b → a.broken ≡ b.broken
site_broken a b same = ap (λ (s : SiteValue). s.broken) same

module _ (old new : SiteValue) (request : Request) (reply : Reply) (known : List Write) where
  may_broken : old.broken ≡ true → reply ≡ Refused Broken → new ≡ old → MayReplyStored old.config known old.broken request reply new.broken
  may_broken was told same =
      subst (λ b. MayReplyStored old.config known old.broken request reply b) (sym (site_broken new old same))
      (subst (λ b. MayReplyStored old.config known b request reply b) (sym was) (inl told))

  may_answered : old.broken ≡ false → new.broken ≡ false → Stands old.states known → (reply ≡ answer_from old.config old.states request) ⊎ (reply ≡ Refused Memory) → MayReplyStored old.config known old.broken request reply new.broken
  may_answered was is stands told =
      subst (λ b. MayReplyStored old.config known old.broken request reply b) (sym is)
      (subst (λ b. MayReplyStored old.config known b request reply false) (sym was) (inl (elim told [
        | inl same ↦ inl (same ∙ answered old.config old.states known request stands)
        | inr memory ↦ inr memory
      ])))

  may_broke : old.broken ≡ false → new.broken ≡ true → Stands old.states known → reply ≡ Refused Broken → after_from old.config old.states request ≢ old.states → MayReplyStored old.config known old.broken request reply new.broken
  may_broke was is stands told changes =
      subst (λ b. MayReplyStored old.config known old.broken request reply b) (sym is)
      (subst (λ b. MayReplyStored old.config known b request reply true) (sym was) (inl (told, changes_known old.config old.states known request stands changes)))

  pub may_from : (was : Bool) → old.broken ≡ was → AnswersOneFrom old new request reply → SiteStands old known → MayReplyStored old.config known old.broken request reply new.broken
  may_from true was one stands = may_broken was (stays_from one was).0 (stays_from one was).1
  may_from false was one stands = elim (stored_from one) [
    | inr store ↦ inr (record {
      told = store.told;
      changes = changes_known old.config old.states known request (stands was) store.changes;
      whole = was;
      still = site_broken new old store.site ∙ was;
    })
    | inl from ↦ elim (from was) [
      | inl it ↦ may_answered was (site_broken new _ it.site) (stands was) (inl it.answers)
      | inr (inl memory) ↦ may_answered was (site_broken new old memory.1 ∙ was) (stands was) (inr memory.0)
      | inr (inr broke) ↦ may_broke was (site_broken new _ broke.1.site) (stands was) broke.0 broke.1.changes
    ]
  ]

-- a refusal adds nothing
refused_adds : (request : Request) (reply : Reply) (refusal : Refusal) (added : List Write) → reply ≡ Refused refusal → Adds request reply added → added ≡ []
refused_adds request reply refusal added told adds = AddsAt-Refused (Ok request) refusal added (subst (λ r. Adds request r added) told adds)

pub still_stands : (old new : SiteValue) (known added : List Write) → new.states ≡ old.states → Stands old.states known → added ≡ [] → Stands new.states (known ++ added)
still_stands old new known added same stands none = subst (λ m. Stands m (known ++ added)) (sym same) (Stands-nothing old.states known added stands none)

site_states : (a b : SiteValue) → a ≡ b → a.states ≡ b.states
site_states a b same = ap (λ (s : SiteValue). s.states) same

pub keeps_from : (old new : SiteValue) (request : Request) (reply : Reply) (was : Bool) → old.broken ≡ was → AnswersOneFrom old new request reply → (known added : List Write) → Stands old.states known → Adds request reply added →
    Stands new.states (known ++ added)
keeps_from old new request reply true was one known added stands adds =
    still_stands old new known added (site_states new old (stays_from one was).1) stands (refused_adds request reply Broken added (stays_from one was).0 adds)
keeps_from old new request reply false was one known added stands adds = elim (stored_from one) [
  | inr store ↦ still_stands old new known added (site_states new old store.site) stands (refused_adds request reply Store added store.told adds)
  | inl from ↦ elim (from was) [
    | inl it ↦ subst (λ m. Stands m (known ++ added)) (sym (site_states new _ it.site))
        (after_stands old.config old.states known request added stands (subst (λ r. Adds request r added) (it.answers ∙ answered old.config old.states known request stands) adds))
    | inr (inl memory) ↦ still_stands old new known added (site_states new old memory.1) stands (refused_adds request reply Memory added memory.0 adds)
    | inr (inr broke) ↦ still_stands old new known added (site_states new _ broke.1.site) stands (refused_adds request reply Broken added broke.0 adds)
  ]
]

-- a site that is not broken was not
was_whole : (old new : SiteValue) (request : Request) (reply : Reply) (was : Bool) → old.broken ≡ was → AnswersOneFrom old new request reply → new.broken ≡ false → old.broken ≡ false
was_whole old new request reply false was one whole = was
was_whole old new request reply true was one whole = sym (site_broken new old (stays_from one was).1) ∙ whole

pub replies_one : (old new : SiteValue) (request : Request) (reply : Reply) → AnswersOneFrom old new request reply → RepliesOne old new (record { asked = Ok request; reply = reply })
replies_one old new request reply one = record {
  replies = λ known stands. inl (may_from old new request reply known old.broken refl one stands);
  stands = λ known added stands adds whole. keeps_from old new request reply old.broken refl one known added (stands (was_whole old new request reply old.broken refl one whole)) adds;
  keeps = λ known added stands adds. keeps_from old new request reply old.broken refl one known added stands adds;
}

-- ---- one frame that is no request

fault_refused : (fault : Refusal) (reply : Reply) → (reply ≡ Refused fault) ⊎ (reply ≡ Refused Memory) → (refusal : Refusal) × (reply ≡ Refused refusal)
fault_refused fault reply (inl is) = (fault, is)
fault_refused fault reply (inr is) = (Memory, is)

may_fault : (config : ConfigValue) (known : List Write) (before after : Bool) (fault : Refusal) (reply : Reply) → (reply ≡ Refused fault) ⊎ (reply ≡ Refused Memory) → after ≡ before → MayTell config known before (Err fault) reply after
may_fault config known before after fault reply (inl is) same = inl (is, same)
may_fault config known before after fault reply (inr is) same = inr (is, same)

replies_fault : (old new : SiteValue) (fault : Refusal) (reply : Reply) → TakesFrom old new (Err fault) reply → RepliesOne old new (record { asked = Err fault; reply = reply })
replies_fault old new fault reply one = record {
  replies = λ known stands. may_fault old.config known old.broken new.broken fault reply one.0 (site_broken new old one.1);
  stands = λ known added stands adds whole. still_stands old new known added (site_states new old one.1) (stands (sym (site_broken new old one.1) ∙ whole)) adds;
  keeps = λ known added stands adds. still_stands old new known added (site_states new old one.1) stands adds;
}

-- ---- one turn

module _ (old new : SiteValue) where
  pub replies_turn : (asked : Result Request Refusal) (reply : Reply) → TakesFrom old new asked reply → RepliesOne old new (record { asked = asked; reply = reply })
  replies_turn (Ok request) reply one = replies_one old new request reply one
  replies_turn (Err fault) reply one = replies_fault old new fault reply one

  config_stored : (request : Request) (reply : Reply) (was : Bool) → old.broken ≡ was → AnswersOneFrom old new request reply → new.config ≡ old.config
  config_stored request reply true was one = ap (λ (s : SiteValue). s.config) (stays_from one was).1
  config_stored request reply false was one = elim (stored_from one) [
    | inr store ↦ ap (λ (s : SiteValue). s.config) store.site
    | inl from ↦ elim (from was) [
      | inl it ↦ ap (λ (s : SiteValue). s.config) it.site
      | inr (inl memory) ↦ ap (λ (s : SiteValue). s.config) memory.1
      | inr (inr broke) ↦ ap (λ (s : SiteValue). s.config) broke.1.site
    ]
  ]

  pub config_turn : (asked : Result Request Refusal) (reply : Reply) → TakesFrom old new asked reply → new.config ≡ old.config
  config_turn (Ok request) reply one = config_stored request reply old.broken refl one
  config_turn (Err fault) reply one = ap (λ (s : SiteValue). s.config) one.1

  pub fits_one : (request : Request) (reply : Reply) → AreHeld old.states → AnswersOneFrom old new request reply → CanBeSent reply
  fits_one request reply held one = elim (stored_from one) [
    | inl from ↦ reply_fits old new request reply held from (λ was. (stays_from one was).0)
    | inr store ↦ subst CanBeSent (sym store.told) (refused_fits Store)
  ]

  pub fits_turn : (asked : Result Request Refusal) (reply : Reply) → AreHeld old.states → TakesFrom old new asked reply → CanBeSent reply
  fits_turn (Ok request) reply held one = fits_one request reply held one
  fits_turn (Err fault) reply held one = let r : (refusal : Refusal) × (reply ≡ Refused refusal) = fault_refused fault reply one.0 in subst CanBeSent (sym r.1) (refused_fits r.0)

  pub form_turn : (asked : Result Request Refusal) (reply : Reply) → AreHeld old.states → TakesFrom old new asked reply → AreHeld new.states
  form_turn (Ok request) reply held one = one.form held
  form_turn (Err fault) reply held one = subst (λ (s : SiteValue). AreHeld s.states) (sym one.1) held

  pub choice_turn : (asked : Result Request Refusal) (reply : Reply) → TakesFrom old new asked reply → (added : List Write) × AddsAt asked reply added
  choice_turn (Ok request) reply one = choice_from one
  choice_turn (Err fault) reply one = ([], refl)

  pub told_turn : (asked : Result Request Refusal) (reply : Reply) → TakesFrom old new asked reply → new.broken ≡ false → IsToldElse (record { asked = asked; reply = reply })
  told_turn (Ok request) reply one whole = λ other told. true≢false (sym (broken_from one told.1) ∙ whole)
  told_turn (Err fault) reply one whole = λ other told. (let bad : ◌≡◌ {A = Result Request Refusal} (Err fault) (Ok other) = told.0 in absurd cc)

  pub whole_turn : (asked : Result Request Refusal) (reply : Reply) → TakesFrom old new asked reply → new.broken ≡ false → old.broken ≡ false
  whole_turn (Ok request) reply one whole = was_whole old new request reply old.broken refl one whole
  whole_turn (Err fault) reply one whole = sym (site_broken new old one.1) ∙ whole

  pub breaks_turn : (asked : Result Request Refusal) (reply : Reply) → TakesFrom old new asked reply → old.broken ≡ false → new.broken ≡ true → (request : Request) × IsToldBroken request (record { asked = asked; reply = reply })
  breaks_turn (Ok request) reply one whole broken = (
    request,
    (
      refl,
      elim (stored_from one) [
        | inr store ↦ absurd (true≢false (sym broken ∙ site_broken new old store.site ∙ whole))
        | inl from ↦ elim (from whole) [
          | inl it ↦ absurd (true≢false (sym broken ∙ site_broken new _ it.site))
          | inr (inl memory) ↦ absurd (true≢false (sym broken ∙ site_broken new old memory.1 ∙ whole))
          | inr (inr broke) ↦ broke.0
        ]
      ],
    ),
  )
  breaks_turn (Err fault) reply one whole broken = absurd (true≢false (sym broken ∙ site_broken new old one.1 ∙ whole))

pub HasChoice-turn : (asked : Result Request Refusal) (reply : Reply) → (added : List Write) × AddsAt asked reply added → HasChoice (record { asked = asked; reply = reply } ∷ [])
HasChoice-turn asked reply one =
    let turn : Turn = record { asked = asked; reply = reply } in
    let event : TurnEvent = record { turn = turn; added = one.0 } in
    (event ∷ [], record { told = refl; fits = (one.1, tt) })

-- ---- turns, one after the other

pub config_all : (turns : List Turn) (old new : SiteValue) → TakesAllFrom old new turns → new.config ≡ old.config
config_all [] old new all = ap (λ (s : SiteValue). s.config) all
config_all (turn ∷ turns) old new all = config_all turns all.0 new all.2 ∙ config_turn old all.0 turn.asked turn.reply all.1

replies_all : (turns : List Turn) (old new : SiteValue) → TakesAllFrom old new turns → Replies old new turns
replies_all [] old new all = subst (λ s. Replies old s []) (sym all) (Replies-none old)
replies_all (turn ∷ turns) old new all =
    Replies-append old all.0 new (turn ∷ []) turns (config_turn old all.0 turn.asked turn.reply all.1)
    (Replies-one old all.0 turn (replies_turn old all.0 turn.asked turn.reply all.1)) (replies_all turns all.0 new all.2)

stands_all : (turns : List Turn) (old new : SiteValue) → TakesAllFrom old new turns → StandsOn old new turns
stands_all [] old new all = subst (λ s. StandsOn old s []) (sym all) (StandsOn-none old)
stands_all (turn ∷ turns) old new all =
    StandsOn-append old all.0 new (turn ∷ []) turns (StandsOn-one old all.0 turn (replies_turn old all.0 turn.asked turn.reply all.1)) (stands_all turns all.0 new all.2)

choice_all : (turns : List Turn) (old new : SiteValue) → TakesAllFrom old new turns → HasChoice turns
choice_all [] old new all = HasChoice-none
choice_all (turn ∷ turns) old new all =
    HasChoice-append (turn ∷ []) turns (HasChoice-turn turn.asked turn.reply (choice_turn old all.0 turn.asked turn.reply all.1)) (choice_all turns all.0 new all.2)

-- from states in form
pub fits_all : (turns : List Turn) (old new : SiteValue) → AreHeld old.states → TakesAllFrom old new turns → AllByRecursion (λ turn. CanBeSent turn.reply) turns
fits_all [] old new held all = tt
fits_all (turn ∷ turns) old new held all =
    (fits_turn old all.0 turn.asked turn.reply held all.1, fits_all turns all.0 new (form_turn old all.0 turn.asked turn.reply held all.1) all.2)

pub whole_all : (turns : List Turn) (old new : SiteValue) → TakesAllFrom old new turns → new.broken ≡ false → old.broken ≡ false
whole_all [] old new all whole = sym (site_broken new old all) ∙ whole
whole_all (turn ∷ turns) old new all whole = whole_turn old all.0 turn.asked turn.reply all.1 (whole_all turns all.0 new all.2 whole)

pub told_all : (turns : List Turn) (old new : SiteValue) → TakesAllFrom old new turns → new.broken ≡ false → AllByRecursion IsToldElse turns
told_all [] old new all whole = tt
told_all (turn ∷ turns) old new all whole = (told_turn old all.0 turn.asked turn.reply all.1 (whole_all turns all.0 new all.2 whole), told_all turns all.0 new all.2 whole)

breaks_on : (turn : Turn) (turns : List Turn) (old mid new : SiteValue) (is : Bool) → mid.broken ≡ is → TakesFrom old mid turn.asked turn.reply → (mid.broken ≡ false → (request : Request) × IsFirstBroken turns request) → old.broken ≡ false →
    (request : Request) × IsFirstBroken (turn ∷ turns) request
breaks_on turn turns old mid new true is one later whole =
    let here : (request : Request) × IsToldBroken request turn = breaks_turn old mid turn.asked turn.reply one whole is in (here.0, inl here.1)
breaks_on turn turns old mid new false is one later whole =
    let then : (request : Request) × IsFirstBroken turns request = later is in
    (then.0, inr (told_turn old mid turn.asked turn.reply one is, then.1))

breaks_all : (turns : List Turn) (old new : SiteValue) → TakesAllFrom old new turns → old.broken ≡ false → new.broken ≡ true → (request : Request) × IsFirstBroken turns request
breaks_all [] old new all whole broken = absurd (true≢false (sym broken ∙ site_broken new old all ∙ whole))
breaks_all (turn ∷ turns) old new all whole broken =
    breaks_on turn turns old all.0 new all.0.broken refl all.1 (λ is. breaks_all turns all.0 new all.2 is broken) whole

-- all that is said of turns follows from what each does, and from the records
pub takes : (turns : List Turn) (old new : SiteValue) (before after : State) → TakesAllFrom old new turns → TurnsFollow turns old new before after → TakesTurns turns old new before after
takes turns old new before after all follows = record {
  replies = replies_all turns old new all;
  stands = stands_all turns old new all;
  config = config_all turns old new all;
  choice = choice_all turns old new all;
  told = told_all turns old new all;
  breaks = breaks_all turns old new all;
  follows = follows;
}

pub TakesAllFrom-append : (first second : List Turn) (old mid new : SiteValue) → TakesAllFrom old mid first → TakesAllFrom mid new second → TakesAllFrom old new (first ++ second)
TakesAllFrom-append [] second old mid new one other = subst (λ s. TakesAllFrom s new second) one other
TakesAllFrom-append (turn ∷ first) second old mid new one other = (one.0, one.1, TakesAllFrom-append first second one.0 mid new one.2 other)
