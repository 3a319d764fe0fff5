-- One reply more in an inbox.
use Rattle.std.proofs.Common.{◌≡◌, ◌≤◌, ◌+◌, ◌∙◌, inl, inr, List, [], ◌∷◌, ◌++◌, Option, Some, ap, arith, length, length-append, sym, subst}
use Rattle.std.specs.Prelude.{◌≢◌, All, Result}
use Rattle.std.proofs.lemmas.List.Elements.{All-push}
use Rattle.mvd_dots.specs.declared.refusals.Refusal.{Refusal}
use Rattle.mvd_wire.specs.declared.reply.Reply.{Reply}
use Rattle.mvd_wire.specs.declared.request.Request.{Request}
use Rattle.mvd_remote.specs.LinkWindows.{IsKeptOf, IsOfKind}
use Rattle.mvd_remote.proofs.Holding.{kept_kind}
use Rattle.mvd_meet.specs.Inboxes.{AreFewOut, count_due, out_of}
use Rattle.mvd_meet.specs.KeptInbox.{AreOfSort}
use Rattle.mvd_meet.specs.Posts.{kind_of}
use Rattle.mvd_meet.specs.declared.asked.Due.{Due}

pub sort_more : (due : Option Due) (d : Due) (replies us : List (Result Reply Refusal)) (told kept : Result Reply Refusal) → due ≡ Some d → AreOfSort due replies → us ≡ replies ++ kept ∷ [] → IsKeptOf told kept → IsOfKind (kind_of d.sort) told → AreOfSort due us
sort_more due d replies us told kept is all longer k kind =
    subst (λ x. AreOfSort x us) (sym is)
    (subst (λ (rs : List (Result Reply Refusal)). All (IsOfKind (kind_of d.sort)) rs) (sym longer)
    (All-push (IsOfKind (kind_of d.sort)) replies kept (subst (λ x. AreOfSort x replies) is all) (kept_kind (kind_of d.sort) told kept k kind)))

-- so one is out less
module _ (due : Option Due) (replies us : List (Result Reply Refusal)) (kept : Result Reply Refusal) (later : List Request) (longer : us ≡ replies ++ kept ∷ []) where
  one_more : length us ≡ length replies + 1
  one_more = ap (λ (rs : List (Result Reply Refusal)). length rs) longer ∙ length-append replies (kept ∷ [])

  pub due_still : out_of (record { asked = due; came = replies; later = later }) ≢ 0 → length us + length later ≤ count_due due
  due_still out = let more = one_more in omega (arith, more, out)

  pub few_still : AreFewOut (record { asked = due; came = replies; later = later }) → AreFewOut (record { asked = due; came = us; later = later })
  few_still (inl pushes) = inl pushes
  few_still (inr few) = let more = one_more in inr (omega (arith, more, few))
