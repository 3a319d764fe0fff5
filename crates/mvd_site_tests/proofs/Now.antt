-- Changes that a site prepared.
use Rattle.std.proofs.Common.{◌≡◌, true, false, Result, Ok, Err, refl, subst}
use Rattle.mvd_dots.specs.declared.refusals.Refusal.{Refusal}
use Rattle.mvd_dots.specs.declared.refusals.Refusal.TheVariants.{Broken}
use Rattle.mvd_wire.specs.declared.request.Request.{Request}
use Rattle.mvd_kept.specs.Change.{ChangeValue}
use Rattle.mvd_kept.specs.Prepared.{IsChangeNow, PreparesFrom, PreparesFromStates}
use Rattle.mvd_kept.specs.Sites.{SiteValue}
use Rattle.mvd_kept.specs.declared.prepared.Prepared.{Prepared}
use Rattle.mvd_kept.specs.declared.prepared.Prepared.TheVariants.{Change}

-- a change that a site prepared is one now
pub is_now : (site : SiteValue) (request : Request) (prepared : Prepared) (change : ChangeValue) → PreparesFromStates site request (Ok prepared) →
    (site.broken ≡ true → ◌≡◌ {A = Result Prepared Refusal} (Ok prepared) (Err Broken)) → prepared ≡ Change change → IsChangeNow site change
is_now site request prepared change states broken is =
    elim site.broken as (λ b. site.broken ≡ b → IsChangeNow site change) [
      | true ↦ λ so. let never : ◌≡◌ {A = Result Prepared Refusal} (Ok prepared) (Err Broken) = broken so in cc
      | false ↦ λ whole. (request, subst (λ p. PreparesFrom site.config site.states request (Ok p)) is (states whole))
    ] refl
