-- Turns one after the other.
use Rattle.std.proofs.Common.{◌≡◌, ◌∙◌, Bool, false, ℕ, List, [], ◌∷◌, ◌++◌, map, Result, Ok, Err, inl, inr, refl, sym, ap, ap₂, subst, subst₂, append_assoc, append-nil}
use Rattle.std.proofs.lemmas.Grind.{flat_map-append}
use Rattle.std.proofs.lemmas.List.{map-append}
use Rattle.std.specs.List.{AllByRecursion}
use Rattle.mvd_dots.specs.declared.refusals.Refusal.{Refusal}
use Rattle.mvd_dots.specs.declared.refusals.Refusal.TheVariants.{Memory}
use Rattle.mvd_keys.specs.Writes.{Stands, Write}
use Rattle.mvd_wire.specs.declared.request.Request.{Request}
use Rattle.mvd_wire.specs.declared.request.Request.TheVariants.{Put, Delete, Push}
use Rattle.mvd_wire.specs.declared.reply.Reply.{Reply}
use Rattle.mvd_wire.specs.declared.reply.Reply.TheVariants.{Written, Done, Refused}
use Rattle.mvd_wire.specs.Replies.{is_short}
use Rattle.mvd_site.specs.Config.{ConfigValue}
use Rattle.mvd_site.specs.Known.{Adds}
use Rattle.mvd_site.specs.Sites.{SiteStands, SiteValue}
use Rattle.mvd_replica.specs.Turns.{AddsAt, AllTold, AreFrames, TurnEvent, IsNoBye, MayTell, Replies, RepliesOne, StandsOn, TellsTurns, Turn, known_after_turns}
use Rattle.mvd_replica.specs.Steps.{IsSent}

pub record Split (events : List TurnEvent) (first second : List Turn) : Type 0 where
  pub before : List TurnEvent
  pub after : List TurnEvent
  pub all : events ≡ before ++ after
  pub one : TellsTurns before first
  pub other : TellsTurns after second

pub split : (first second : List Turn) (events : List TurnEvent) → TellsTurns events (first ++ second) → Split events first second
split [] second events tells = record { before = []; after = events; all = refl; one = record { told = refl; fits = tt }; other = tells }
split (t ∷ first) second [] tells = absurd (let none : ◌≡◌ {A = List Turn} [] (t ∷ (first ++ second)) = tells.told in cc)
split (t ∷ first) second (e ∷ es) tells =
    let all : ◌≡◌ {A = List Turn} (e.turn ∷ map (λ event. event.turn) es) (t ∷ (first ++ second)) = tells.told in
    let head : e.turn ≡ t = cc in
    let rest : map (λ event. event.turn) es ≡ first ++ second = cc in
    let later : Split es first second = split first second es (record { told = rest; fits = tells.fits.1 }) in
    record {
      before = e ∷ later.before;
      after = later.after;
      all = ap (λ l. e ∷ l) later.all;
      one = record { told = λ i. head i ∷ later.one.told i; fits = (tells.fits.0, later.one.fits) };
      other = later.other;
    }

AllTold-append : (config : ConfigValue) (known : List Write) (first middle after : Bool) (es fs : List TurnEvent) → AllTold config known first es middle → AllTold config (known ++ known_after_turns es) middle fs after →
    AllTold config known first (es ++ fs) after
AllTold-append config known first middle after [] fs one other = subst₂ (λ W b. AllTold config W b fs after) (append-nil known) (sym one) other
AllTold-append config known first middle after (e ∷ es) fs one other = (
  one.0,
  one.1,
  AllTold-append config (known ++ e.added) one.0 middle after es fs one.2 (subst (λ W. AllTold config W middle fs after) (sym (append_assoc known e.added (known_after_turns es))) other),
)

pub Replies-append : (old mid new : SiteValue) (first second : List Turn) → mid.config ≡ old.config → Replies old mid first → Replies mid new second → Replies old new (first ++ second)
Replies-append old mid new first second same one other known events stands tells =
    let p : Split events first second = split first second events tells in
    let grown : known_after_turns events ≡ known_after_turns p.before ++ known_after_turns p.after = ap known_after_turns p.all ∙ flat_map-append (λ (e : TurnEvent). e.added) p.before p.after in
    let regrouped : known ++ known_after_turns events ≡ (known ++ known_after_turns p.before) ++ known_after_turns p.after = ap (λ l. known ++ l) grown ∙ sym (append_assoc known (known_after_turns p.before) (known_after_turns p.after)) in
    let past : AllTold old.config known old.broken p.before mid.broken × SiteStands mid (known ++ known_after_turns p.before) = one known p.before stands p.one in
    let now : AllTold mid.config (known ++ known_after_turns p.before) mid.broken p.after new.broken × SiteStands new ((known ++ known_after_turns p.before) ++ known_after_turns p.after) = other (known ++ known_after_turns p.before) p.after past.1 p.other in (
      subst (λ es. AllTold old.config known old.broken es new.broken) (sym p.all)
          (AllTold-append old.config known old.broken mid.broken new.broken p.before p.after past.0 (subst (λ c. AllTold c (known ++ known_after_turns p.before) mid.broken p.after new.broken) same now.0)),
      subst (SiteStands new) (sym regrouped) now.1,
    )

pub Replies-none : (site : SiteValue) → Replies site site []
Replies-none site known [] stands tells = (refl, subst (SiteStands site) (sym (append-nil known)) stands)
Replies-none site known (e ∷ es) stands tells = absurd (let some : ◌≡◌ {A = List Turn} (e.turn ∷ map (λ event. event.turn) es) [] = tells.told in cc)

pub Replies-one : (old new : SiteValue) (turn : Turn) → RepliesOne old new turn → Replies old new (turn ∷ [])
Replies-one old new turn one known [] stands tells = absurd (let none : ◌≡◌ {A = List Turn} [] (turn ∷ []) = tells.told in cc)
Replies-one old new turn one known (e ∷ []) stands tells =
    let all : ◌≡◌ {A = List Turn} (e.turn ∷ []) (turn ∷ []) = tells.told in
    let same : e.turn ≡ turn = cc in
    let same_added : known ++ known_after_turns (e ∷ []) ≡ known ++ e.added = ap (λ l. known ++ l) (append-nil e.added) in
    let adds : AddsAt turn.asked turn.reply e.added = subst (λ (t : Turn). AddsAt t.asked t.reply e.added) same tells.fits.0 in (
      (new.broken, subst (λ (t : Turn). MayTell old.config known old.broken t.asked t.reply new.broken) (sym same) (one.replies known stands), refl),
      subst (SiteStands new) (sym same_added) (one.stands known e.added stands adds),
    )
Replies-one old new turn one known (e ∷ f ∷ es) stands tells = absurd (let all : ◌≡◌ {A = List Turn} (e.turn ∷ f.turn ∷ map (λ event. event.turn) es) (turn ∷ []) = tells.told in cc)

-- ---- the states themselves

pub StandsOn-append : (old mid new : SiteValue) (first second : List Turn) → StandsOn old mid first → StandsOn mid new second → StandsOn old new (first ++ second)
StandsOn-append old mid new first second one other known events stands tells =
    let p : Split events first second = split first second events tells in
    let grown : known_after_turns events ≡ known_after_turns p.before ++ known_after_turns p.after = ap known_after_turns p.all ∙ flat_map-append (λ (e : TurnEvent). e.added) p.before p.after in
    let regrouped : known ++ known_after_turns events ≡ (known ++ known_after_turns p.before) ++ known_after_turns p.after = ap (λ l. known ++ l) grown ∙ sym (append_assoc known (known_after_turns p.before) (known_after_turns p.after)) in
    subst (Stands new.states) (sym regrouped) (other (known ++ known_after_turns p.before) p.after (one known p.before stands p.one) p.other)

pub StandsOn-none : (site : SiteValue) → StandsOn site site []
StandsOn-none site known [] stands tells = subst (Stands site.states) (sym (append-nil known)) stands
StandsOn-none site known (e ∷ es) stands tells = absurd (let some : ◌≡◌ {A = List Turn} (e.turn ∷ map (λ event. event.turn) es) [] = tells.told in cc)

pub StandsOn-one : (old new : SiteValue) (turn : Turn) → RepliesOne old new turn → StandsOn old new (turn ∷ [])
StandsOn-one old new turn one known [] stands tells = absurd (let none : ◌≡◌ {A = List Turn} [] (turn ∷ []) = tells.told in cc)
StandsOn-one old new turn one known (e ∷ []) stands tells =
    let all : ◌≡◌ {A = List Turn} (e.turn ∷ []) (turn ∷ []) = tells.told in
    let same : e.turn ≡ turn = cc in
    let same_added : known ++ known_after_turns (e ∷ []) ≡ known ++ e.added = ap (λ l. known ++ l) (append-nil e.added) in
    let adds : AddsAt turn.asked turn.reply e.added = subst (λ (t : Turn). AddsAt t.asked t.reply e.added) same tells.fits.0 in
    subst (Stands new.states) (sym same_added) (one.keeps known e.added stands adds)
StandsOn-one old new turn one known (e ∷ f ∷ es) stands tells = absurd (let all : ◌≡◌ {A = List Turn} (e.turn ∷ f.turn ∷ map (λ event. event.turn) es) (turn ∷ []) = tells.told in cc)

-- ---- want of memory in place of a long reply

-- a reply that takes memory adds nothing
Adds-long : (request : Request) (reply : Reply) (added : List Write) → is_short reply ≡ false → added ≡ [] → Adds request reply added
Adds-long (Put key seen document) (Written dot) added long none = absurd cc
Adds-long (Delete key seen) Done added long none = absurd cc
Adds-long (Push key pushed) Done added long none = absurd cc
Adds-long request reply added long none = none

Adds-memory : (request : Request) (refusal : Refusal) (added : List Write) → Adds request (Refused refusal) added → added ≡ []
Adds-memory (Put key seen document) refusal added adds = adds
Adds-memory (Delete key seen) refusal added adds = adds
Adds-memory (Push key pushed) refusal added adds = adds
Adds-memory request refusal added adds = adds

Adds-refused : (request : Request) (refusal : Refusal) → Adds request (Refused refusal) []
Adds-refused (Put key seen document) refusal = refl
Adds-refused (Delete key seen) refusal = refl
Adds-refused (Push key pushed) refusal = refl
Adds-refused request refusal = refl

pub AddsAt-Refused : (asked : Result Request Refusal) (refusal : Refusal) (added : List Write) → AddsAt asked (Refused refusal) added → added ≡ []
AddsAt-Refused (Ok request) refusal added adds = Adds-memory request refusal added adds
AddsAt-Refused (Err fault) refusal added adds = adds

pub AddsAt-Refused-none : (asked : Result Request Refusal) (refusal : Refusal) → AddsAt asked (Refused refusal) []
AddsAt-Refused-none (Ok request) refusal = Adds-refused request refusal
AddsAt-Refused-none (Err fault) refusal = refl

AddsAt-long : (asked : Result Request Refusal) (reply : Reply) (added : List Write) → is_short reply ≡ false → added ≡ [] → AddsAt asked reply added
AddsAt-long (Ok request) reply added long none = Adds-long request reply added long none
AddsAt-long (Err fault) reply added long none = none

pub MayTell-memory : (config : ConfigValue) (known : List Write) (before after : Bool) (asked : Result Request Refusal) → after ≡ before → MayTell config known before asked (Refused Memory) after
MayTell-memory config known before after (Ok request) same = inr (refl, same)
MayTell-memory config known before after (Err fault) same = inr (refl, same)

pub RepliesOne-sent : (old new : SiteValue) (asked : Result Request Refusal) (reply sent : Reply) → IsSent reply sent → (is_short reply ≡ false → new.broken ≡ old.broken) →
    RepliesOne old new (record { asked = asked; reply = reply }) → RepliesOne old new (record { asked = asked; reply = sent })
RepliesOne-sent old new asked reply sent (inl same) still one = subst (λ r. RepliesOne old new (record { asked = asked; reply = r })) (sym same) one
RepliesOne-sent old new asked reply sent (inr other) still one =
    subst (λ r. RepliesOne old new (record { asked = asked; reply = r })) (sym other.1) (record {
      replies = λ known stands. MayTell-memory old.config known old.broken new.broken asked (still other.0);
      stands = λ known added stands adds. one.stands known added stands (AddsAt-long asked reply added other.0 (AddsAt-Refused asked Memory added adds));
      keeps = λ known added stands adds. one.keeps known added stands (AddsAt-long asked reply added other.0 (AddsAt-Refused asked Memory added adds));
    })

-- ---- the frames, and a choice that fits

pub AreFrames-append : (first second : List Turn) (bytes mid rest : List ℕ) → AreFrames first bytes mid → AreFrames second mid rest → AreFrames (first ++ second) bytes rest
AreFrames-append [] second bytes mid rest one other = subst (λ b. AreFrames second b rest) (sym one) other
AreFrames-append (t ∷ first) second bytes mid rest one other = (one.0, one.1, one.2, one.3, AreFrames-append first second one.1 mid rest one.4 other)

pub GoesOn-append : (first second : List Turn) → AllByRecursion IsNoBye first → AllByRecursion IsNoBye second → AllByRecursion IsNoBye (first ++ second)
GoesOn-append [] second one other = other
GoesOn-append (t ∷ first) second one other = (one.0, GoesOn-append first second one.1 other)

abbrev pub HasChoice : List Turn → Type 0
HasChoice turns = (events : List TurnEvent) × TellsTurns events turns

pub HasChoice-none : HasChoice []
HasChoice-none = ([], record { told = refl; fits = tt })

abbrev Fits : TurnEvent → Type 0
Fits event = AddsAt event.turn.asked event.turn.reply event.added

fits_both : (es fs : List TurnEvent) → AllByRecursion Fits es → AllByRecursion Fits fs → AllByRecursion Fits (es ++ fs)
fits_both [] fs one other = other
fits_both (e ∷ es) fs one other = (one.0, fits_both es fs one.1 other)

pub HasChoice-append : (first second : List Turn) → HasChoice first → HasChoice second → HasChoice (first ++ second)
HasChoice-append first second one other = (
  one.0 ++ other.0,
  record {
    told = map-append (λ (e : TurnEvent). e.turn) one.0 other.0 ∙ ap₂ (λ a b. a ++ b) one.1.told other.1.told;
    fits = fits_both one.0 other.0 one.1.fits other.1.fits;
  },
)

HasChoice-one : (turn : Turn) (added : List Write) → AddsAt turn.asked turn.reply added → HasChoice (turn ∷ [])
HasChoice-one turn added adds = let event : TurnEvent = record { turn = turn; added = added } in (event ∷ [], record { told = refl; fits = (adds, tt) })

pub HasChoice-sent : (asked : Result Request Refusal) (reply sent : Reply) → IsSent reply sent → ((added : List Write) × AddsAt asked reply added) → HasChoice (record { asked = asked; reply = sent } ∷ [])
HasChoice-sent asked reply sent (inl same) one = HasChoice-one (record { asked = asked; reply = sent }) one.0 (subst (λ r. AddsAt asked r one.0) (sym same) one.1)
HasChoice-sent asked reply sent (inr other) one =
    HasChoice-one (record { asked = asked; reply = sent }) [] (subst (λ r. AddsAt asked r []) (sym other.1) (AddsAt-Refused-none asked Memory))
