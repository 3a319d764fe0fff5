-- A run, one request after another.
use Rattle.std.proofs.Common.{◌≡◌, Bool, false, List, [], ◌∷◌, ◌++◌, map, refl, sym, ap, ◌∙◌, subst, subst₂, append_assoc, append-nil}
use Rattle.std.proofs.lemmas.List.{map-append}
use Rattle.std.proofs.lemmas.Grind.{flat_map-append}
use Rattle.std.specs.List.{AllByRecursion}
use Rattle.mvd_keys.specs.Writes.{Write, Wrote, Deleted, writes_for}
use Rattle.mvd_keys.proofs.Sets.{AreOf-writes_for, state-writes_for}
use Rattle.mvd_wire.specs.declared.request.Request.{Request}
use Rattle.mvd_wire.specs.declared.request.Request.TheVariants.{Put, Delete, Push}
use Rattle.mvd_wire.specs.declared.reply.Reply.{Reply}
use Rattle.mvd_wire.specs.declared.reply.Reply.TheVariants.{Written, Done}
use Rattle.mvd_kept.specs.Config.{ConfigValue}
use Rattle.mvd_kept.specs.Known.{Adds, AllReplied, KnownEvent, IsValidRequest, MayReply, Tells, known_after}
use Rattle.mvd_kept.specs.Sites.{AnswersFromNothing, AnswersOne, SiteStands, SiteValue}

-- the last of events, and those before it
pub record Parted (events : List KnownEvent) (requests : List Request) (request : Request) (replies : List Reply) (reply : Reply) : Type 0 where
  pub before : List KnownEvent
  pub last : KnownEvent
  pub all : events ≡ before ++ last ∷ []
  pub tells : Tells before requests replies
  pub asked : last.request ≡ request
  pub told : last.reply ≡ reply
  pub adds : Adds last.request last.reply last.added

abbrev Fits : KnownEvent → Type 0
Fits event = Adds event.request event.reply event.added

not_nothing : {X : Type 0} (ys : List X) (y : X) → ◌≡◌ {A = List X} [] (ys ++ y ∷ []) → ⊥
not_nothing [] y e = cc
not_nothing (b ∷ ys) y e = cc

push_inj : {X : Type 0} (xs ys : List X) (x y : X) → xs ++ x ∷ [] ≡ ys ++ y ∷ [] → (xs ≡ ys) × (x ≡ y)
push_inj [] [] x y e = (refl, cc)
push_inj [] (b ∷ ys) x y e = absurd (not_nothing ys y cc)
push_inj (a ∷ xs) [] x y e = absurd (not_nothing xs x cc)
push_inj {X = X} (a ∷ xs) (b ∷ ys) x y e =
    let rest : xs ++ x ∷ [] ≡ ys ++ y ∷ [] = cc in
    let first : ◌≡◌ {A = X} a b = cc in
    let both : (xs ≡ ys) × (x ≡ y) = push_inj xs ys x y rest in
    ((λ i. first i ∷ both.0 i), both.1)

last_of : (e : KnownEvent) (es : List KnownEvent) → (before : List KnownEvent) × (last : KnownEvent) × (e ∷ es ≡ before ++ last ∷ [])
last_of e [] = ([], e, refl)
last_of e (f ∷ es) = let later : (before : List KnownEvent) × (last : KnownEvent) × (f ∷ es ≡ before ++ last ∷ []) = last_of f es in (e ∷ later.0, later.1, ap (λ l. e ∷ l) later.2)

fits_before : (es fs : List KnownEvent) → AllByRecursion Fits (es ++ fs) → AllByRecursion Fits es × AllByRecursion Fits fs
fits_before [] fs h = (tt, h)
fits_before (e ∷ es) fs h = let later : AllByRecursion Fits es × AllByRecursion Fits fs = fits_before es fs h.1 in ((h.0, later.0), later.1)

pub parted : (events : List KnownEvent) (requests : List Request) (request : Request) (replies : List Reply) (reply : Reply) → Tells events (requests ++ request ∷ []) (replies ++ reply ∷ []) → Parted events requests request replies reply
parted [] requests request replies reply tells = absurd (not_nothing requests request tells.asked)
parted (e ∷ es) requests request replies reply tells =
    let part : (before : List KnownEvent) × (last : KnownEvent) × (e ∷ es ≡ before ++ last ∷ []) = last_of e es in
    let asked : (map (λ v. v.request) part.0 ≡ requests) × (part.1.request ≡ request) =
    push_inj _ _ _ _ (sym (map-append (λ (v : KnownEvent). v.request) part.0 (part.1 ∷ [])) ∙ ap (map (λ (v : KnownEvent). v.request)) (sym part.2) ∙ tells.asked) in
    let told : (map (λ v. v.reply) part.0 ≡ replies) × (part.1.reply ≡ reply) =
    push_inj _ _ _ _ (sym (map-append (λ (v : KnownEvent). v.reply) part.0 (part.1 ∷ [])) ∙ ap (map (λ (v : KnownEvent). v.reply)) (sym part.2) ∙ tells.told) in
    let fits : AllByRecursion Fits part.0 × AllByRecursion Fits (part.1 ∷ []) = fits_before part.0 (part.1 ∷ []) (subst (AllByRecursion Fits) part.2 tells.fits) in
    record { before = part.0; last = part.1; all = part.2; tells = record { asked = asked.0; told = told.0; fits = fits.0 }; asked = asked.1; told = told.1; adds = fits.1.0 }

pub known_after-push : (before : List KnownEvent) (last : KnownEvent) → known_after (before ++ last ∷ []) ≡ known_after before ++ last.added
known_after-push before last = flat_map-append (λ (v : KnownEvent). v.added) before (last ∷ []) ∙ ap (λ l. known_after before ++ l) (append-nil last.added)

pub AllReplied-push : (config : ConfigValue) (known : List Write) (first middle after : Bool) (before : List KnownEvent) (last : KnownEvent) → AllReplied config known first before middle →
    MayReply config (known ++ known_after before) middle last.request last.reply after → AllReplied config known first (before ++ last ∷ []) after
AllReplied-push config known first middle after [] last so_far here =
    (after, subst₂ (λ W b. MayReply config W b last.request last.reply after) (append-nil known) (sym so_far) here, refl)
AllReplied-push config known first middle after (e ∷ es) last so_far here = (
  so_far.0,
  so_far.1,
  AllReplied-push config (known ++ e.added) so_far.0 middle after es last so_far.2
      (subst (λ W. MayReply config W middle last.request last.reply after) (sym (append_assoc known e.added (known_after es))) here),
)

pub AnswersAll-push : (config : ConfigValue) (old new : SiteValue) (requests : List Request) (request : Request) (replies : List Reply) (reply : Reply) →
    old.config ≡ config → AnswersFromNothing config old requests replies → AnswersOne old new request reply → AnswersFromNothing config new (requests ++ request ∷ []) (replies ++ reply ∷ [])
AnswersAll-push config old new requests request replies reply same so_far one events tells =
    let p = parted events requests request replies reply tells in
    let grown : known_after events ≡ known_after p.before ++ p.last.added = ap known_after p.all ∙ known_after-push p.before p.last in
    let past : AllReplied config [] false p.before old.broken × SiteStands old (known_after p.before) = so_far p.before p.tells in
    let adds : Adds request reply p.last.added = subst₂ (λ q r. Adds q r p.last.added) p.asked p.told p.adds in
    let here : MayReply config (known_after p.before) old.broken p.last.request p.last.reply new.broken =
    subst₂ (λ q r. MayReply config (known_after p.before) old.broken q r new.broken) (sym p.asked) (sym p.told) (subst (λ c. MayReply c (known_after p.before) old.broken request reply new.broken) same (one.replies (known_after p.before) past.1)) in
    (subst (λ es. AllReplied config [] false es new.broken) (sym p.all) (AllReplied-push config [] false old.broken new.broken p.before p.last past.0 here), subst (SiteStands new) (sym grown) (one.stands (known_after p.before) p.last.added past.1 adds))

pub AnswersAll-none : (config : ConfigValue) (site : SiteValue) → site.broken ≡ false → SiteStands site [] → AnswersFromNothing config site [] []
AnswersAll-none config site whole stands [] tells = (sym whole, stands)
AnswersAll-none config site whole stands (e ∷ es) tells = cc (tells.asked)

-- ---- a choice that fits

pub fitting : (request : Request) (reply : Reply) → IsValidRequest request → (added : List Write) × Adds request reply added
fitting (Put key seen document) (Written dot) valid = (Wrote key dot seen document ∷ [], refl)
fitting (Delete key seen) Done valid = (Deleted key seen ∷ [], refl)
fitting (Push key pushed) Done valid = (writes_for key pushed, (AreOf-writes_for key pushed, state-writes_for key pushed valid))
fitting request reply valid = ([], refl)

fits_both : (es fs : List KnownEvent) → AllByRecursion Fits es → AllByRecursion Fits fs → AllByRecursion Fits (es ++ fs)
fits_both [] fs left right = right
fits_both (e ∷ es) fs left right = (left.0, fits_both es fs left.1 right)

abbrev pub HasChoice : List Request → List Reply → Type 0
HasChoice requests replies = (events : List KnownEvent) × Tells events requests replies

pub HasChoice-push : (requests : List Request) (request : Request) (replies : List Reply) (reply : Reply) → HasChoice requests replies → (added : List Write) × Adds request reply added → HasChoice (requests ++ request ∷ []) (replies ++ reply ∷ [])
HasChoice-push requests request replies reply so_far one =
    let last : KnownEvent = record { request = request; reply = reply; added = one.0 } in (
      so_far.0 ++ last ∷ [],
      record {
        asked = map-append (λ (v : KnownEvent). v.request) so_far.0 (last ∷ []) ∙ ap (λ l. l ++ request ∷ []) so_far.1.asked;
        told = map-append (λ (v : KnownEvent). v.reply) so_far.0 (last ∷ []) ∙ ap (λ l. l ++ reply ∷ []) so_far.1.told;
        fits = fits_both so_far.0 (last ∷ []) so_far.1.fits (one.1, tt);
      },
    )
