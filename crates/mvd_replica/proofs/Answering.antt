-- One request to a replica.
use Rattle.std.proofs.Common.{◌≡◌, ◌≢◌, ◌⊎◌, ◌∙◌, Bool, true, false, List, [], ◌++◌, Result, Ok, Err, refl, sym, ap, subst, inl, inr, true≢false}
use Rattle.mvd_dots.specs.declared.refusals.Refusal.{Refusal}
use Rattle.mvd_dots.specs.declared.refusals.Refusal.TheVariants.{Broken, Memory}
use Rattle.mvd_keys.specs.Writes.{Stands, Write}
use Rattle.mvd_wire.specs.declared.request.Request.{Request}
use Rattle.mvd_wire.specs.declared.request.Request.TheVariants.{Bye}
use Rattle.mvd_wire.specs.declared.reply.Reply.{Reply}
use Rattle.mvd_wire.specs.declared.reply.Reply.TheVariants.{Refused}
use Rattle.mvd_wire.specs.Replies.{CanBeSent, is_short}
use Rattle.mvd_site.specs.Config.{ConfigValue}
use Rattle.mvd_site.specs.Known.{Adds}
use Rattle.mvd_site.specs.Sites.{SiteStands, SiteValue}
use Rattle.mvd_site.proofs.Outcomes.{memory_or_not, refused_fits}
use Rattle.mvd_site.proofs.Pushes.{refusal_is}
use Rattle.mvd_site.proofs.Steps.{Stands-nothing}
use Rattle.mvd_replica.specs.Sides.{AnswersFromStored}
use Rattle.mvd_replica.specs.Turns.{AnswersStored, IsToldElse, MayTell}
use Rattle.mvd_replica.specs.Steps.{RepliesTo}
use Rattle.mvd_replica.proofs.Sides.{broke_by}
use Rattle.mvd_replica.proofs.Replying.{AddsAt-Refused, AddsAt-Refused-none, MayTell-memory}

-- ---- a frame

stays : (site : SiteValue) (known added : List Write) → SiteStands site known → added ≡ [] → SiteStands site (known ++ added)
stays site known added stands none whole = Stands-nothing site.states known added (stands whole) none

may_refuse : (config : ConfigValue) (known : List Write) (broken : Bool) (asked : Result Request Refusal) (refusal : Refusal) → (refusal ≢ Memory → asked ≡ Err refusal) → (refusal ≡ Memory) ⊎ (refusal ≢ Memory) →
    MayTell config known broken asked (Refused refusal) broken
may_refuse config known broken asked refusal exact (inl memory) = subst (λ r. MayTell config known broken asked (Refused r) broken) (sym memory) (MayTell-memory config known broken broken asked refl)
may_refuse config known broken asked refusal exact (inr other) =
    let fault : asked ≡ Err refusal = exact other in
    subst (λ a. MayTell config known broken a (Refused refusal) broken) (sym fault) (inl (refl, refl))

-- one that does not decode is no request that is told 22
refused_else : (asked : Result Request Refusal) (refusal : Refusal) → (refusal ≢ Memory → asked ≡ Err refusal) → IsToldElse (record { asked = asked; reply = Refused refusal })
refused_else asked refusal exact request told =
    let is : refusal ≡ Broken = refusal_is refusal Broken told.1 in
    let other : refusal ≢ Memory = λ memory. (let bad : Broken ≡ Memory = sym is ∙ memory in absurd cc) in
    let bad : ◌≡◌ {A = Result Request Refusal} (Ok request) (Err refusal) = sym told.0 ∙ exact other in
    absurd cc

-- one that does not decode
pub refused_frame : (site : SiteValue) (asked : Result Request Refusal) (refusal : Refusal) → (refusal ≢ Memory → asked ≡ Err refusal) → (asked ≡ Ok Bye → ◌≡◌ {A = Result Request Refusal} (Err refusal) (Ok Bye)) →
    RepliesTo asked site site (Refused refusal)
refused_frame site asked refusal exact bye = record {
  one = record {
    replies = λ known stands. may_refuse site.config known site.broken asked refusal exact (memory_or_not refusal);
    stands = λ known added stands adds. stays site known added stands (AddsAt-Refused asked refusal added adds);
    keeps = λ known added stands adds. Stands-nothing site.states known added stands (AddsAt-Refused asked refusal added adds);
  };
  fits = refused_fits refusal;
  goes_on = λ is. (let no : ◌≡◌ {A = Result Request Refusal} (Err refusal) (Ok Bye) = bye is in absurd cc);
  choice = ([], AddsAt-Refused-none asked refusal);
  config = refl;
  long = λ _. refl;
  told = λ _. refused_else asked refusal exact;
  breaks = λ whole broken. absurd (true≢false (sym broken ∙ whole));
}

-- a reply that takes memory is told by a site that is not broken, and was not
long_is_whole : (old new : SiteValue) (reply : Reply) (before after : Bool) → old.broken ≡ before → new.broken ≡ after → (new.broken ≡ true → reply ≡ Refused Broken) → (old.broken ≡ true → new ≡ old) → is_short reply ≡ false → new.broken ≡ old.broken
long_is_whole old new reply before true was is told stays long =
    let broken : reply ≡ Refused Broken = told is in absurd (true≢false (ap is_short (sym broken) ∙ long))
long_is_whole old new reply true false was is told stays long = ap (λ (s : SiteValue). s.broken) (stays was)
long_is_whole old new reply false false was is told stays long = is ∙ sym was

-- a site that is broken afterwards has the states that it had
broken_states : (old new : SiteValue) (request : Request) (reply : Reply) (was : Bool) → old.broken ≡ was → new.broken ≡ true → AnswersFromStored old new request reply → (old.broken ≡ true → new ≡ old) → new.states ≡ old.states
broken_states old new request reply true was broken answers stays = ap (λ (s : SiteValue). s.states) (stays was)
broken_states old new request reply false was broken answers stays = ap (λ (s : SiteValue). s.states) (broke_by old new request reply was broken answers).site

-- what the states stand for after a request, also where the site is broken
pub keeps_states : (old new : SiteValue) (request : Request) (reply : Reply) (is : Bool) → new.broken ≡ is → AnswersStored old new request reply → AnswersFromStored old new request reply → (new.broken ≡ true → reply ≡ Refused Broken) →
    (old.broken ≡ true → new ≡ old) → (known added : List Write) → Stands old.states known → Adds request reply added → Stands new.states (known ++ added)
keeps_states old new request reply false is one answers told stays known added stands adds = one.stands known added (λ _. stands) adds is
keeps_states old new request reply true is one answers told stays known added stands adds =
    let none : added ≡ [] = AddsAt-Refused (Ok request) Broken added (subst (λ r. Adds request r added) (told is) adds) in
    subst (λ m. Stands m (known ++ added)) (sym (broken_states old new request reply old.broken refl is answers stays)) (Stands-nothing old.states known added stands none)

-- and one that does
pub replied : (old new : SiteValue) (asked : Result Request Refusal) (request : Request) (reply : Reply) → asked ≡ Ok request → AnswersStored old new request reply → AnswersFromStored old new request reply → CanBeSent reply → (request ≡ Bye → ⊥) →
    ((added : List Write) × Adds request reply added) → new.config ≡ old.config → (new.broken ≡ true → reply ≡ Refused Broken) → (reply ≡ Refused Broken → new.broken ≡ true) → (old.broken ≡ true → new ≡ old) → RepliesTo asked old new reply
replied old new asked request reply is one answers fits no_bye some config told breaks stays =
    subst (λ a. RepliesTo a old new reply) (sym is) (record {
      one = record { replies = λ known stands. inl (one.replies known stands); stands = one.stands; keeps = keeps_states old new request reply new.broken refl one answers told stays };
      fits = fits;
      goes_on = λ bye. no_bye cc;
      choice = some;
      config = config;
      long = long_is_whole old new reply old.broken new.broken refl refl told stays;
      told = λ whole other bad. true≢false (sym (breaks bad.1) ∙ whole);
      breaks = λ _. told;
    })

-- the request that a frame decoded to
pub asked_as : (asked read : Result Request Refusal) (decoded request : Request) → asked ≡ read → read ≡ Ok decoded → request ≡ decoded → asked ≡ Ok request
asked_as asked read decoded request same is made = same ∙ is ∙ ap (λ (r : Request). Ok r) (sym made)
