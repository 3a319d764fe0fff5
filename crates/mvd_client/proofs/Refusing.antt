-- What is noted of the refusals of a stored site, and what it may refuse with by that.
use Rattle.std.proofs.Common.{◌≡◌, ◌<◌, ◌+◌, ◌++◌, ◌∷◌, ◌∙◌, [], List, Result, Ok, Err, ap, append_assoc, get_or, inl, length, refl, sym, subst, take, ℕ}
use Rattle.std.specs.Prelude.{Contains}
use Rattle.std.proofs.lemmas.List.{take_more}
use Rattle.std.proofs.lemmas.List.Elements.{Contains-append_left, Contains-append_right, Contains-push}
use Rattle.mvd_client.specs.Refusals.{StaysNoted, StoredRefuses, refused_in}
use Rattle.mvd_dots.specs.declared.refusals.Refusal.{Refusal}
use Rattle.mvd_peer.specs.Windows.{EachTold}
use Rattle.mvd_replica.specs.Sides.{ReplicaRefuses}
use Rattle.mvd_site.specs.Sites.{SiteValue}

-- ---- what is noted

refused_append : {A : Type 0} (told more : List (Result A Refusal)) → refused_in (told ++ more) ≡ refused_in told ++ refused_in more
refused_append [] more = refl
refused_append (Ok answer ∷ told) more = refused_append told more
refused_append (Err refusal ∷ told) more = ap (λ l. (refusal, tt) ∷ l) (refused_append told more)

-- one more answer of a window
pub refused_more : {A : Type 0} (told : List (Result A Refusal)) (i : ℕ) (answer d : Result A Refusal) (before mid after : List (Refusal × Unit {0})) → i < length told → answer ≡ get_or told i d → mid ≡ before ++ refused_in (take i told) → after ≡ mid ++ refused_in (answer ∷ []) → after ≡ before ++ refused_in (take (i + 1) told)
refused_more told i answer d before mid after low at was now =
    let longer : take (i + 1) told ≡ take i told ++ answer ∷ [] = take_more told i d low ∙ ap (λ y. take i told ++ y ∷ []) (sym at) in
    now ∙ ap (λ m. m ++ refused_in (answer ∷ [])) was ∙ append_assoc before (refused_in (take i told)) (refused_in (answer ∷ []))
    ∙ ap (λ more. before ++ more) (sym (refused_append (take i told) (answer ∷ [])) ∙ ap refused_in (sym longer))

pub stays_noted : (old more new : List (Refusal × Unit {0})) → new ≡ old ++ more → StaysNoted old new
stays_noted old more new is refusal was = subst (λ xs. Contains xs refusal) (sym is) (Contains-append_left old more refusal was)

-- ---- what it may refuse with

each_held : {A : Type 0} (P : Type 0) (site : SiteValue) (noted : List (Refusal × Unit {0})) (told : List (Result A Refusal)) → EachTold P (ReplicaRefuses site) told → ((refusal : Refusal × Unit {0}) → Contains (refused_in told) refusal → Contains noted refusal) → EachTold P (StoredRefuses site noted) told
each_held P site noted [] may held = tt
each_held P site noted (Ok answer ∷ told) may held = (may.0, each_held P site noted told may.1 held)
each_held P site noted (Err refusal ∷ told) may held = (
  (may.0, inl (held (refusal, tt) (Contains-append_left ((refusal, tt) ∷ []) (refused_in told) (refusal, tt) (Contains-push [] (refusal, tt))))),
  each_held P site noted told may.1 (λ other is. held other (Contains-append_right ((refusal, tt) ∷ []) (refused_in told) other is)),
)

-- each refusal of a window is one that the side then may refuse with
pub each_refused : {A : Type 0} (P : Type 0) (site : SiteValue) (old new : List (Refusal × Unit {0})) (told : List (Result A Refusal)) → EachTold P (ReplicaRefuses site) told → new ≡ old ++ refused_in told → EachTold P (StoredRefuses site new) told
each_refused P site old new told may is = each_held P site new told may (λ refusal was. subst (λ xs. Contains xs refusal) (sym is) (Contains-append_right old (refused_in told) refusal was))
