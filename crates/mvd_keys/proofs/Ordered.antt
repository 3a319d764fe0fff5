-- The order of states.
use Rattle.std.proofs.Common.{◌≡◌, Bool, false, Option, Some, None, refl, sym, ap, ◌∙◌}
use Rattle.std.specs.FinMap.{get}
use Rattle.std.specs.FinSet.{contains}
use Rattle.mvd_keys.specs.State.{IsValid, State, Text, clashes, differ, join}
use Rattle.mvd_keys.specs.Order.{Includes}
use Rattle.mvd_keys.proofs.Joins.{apart_of, join_commutes, join_groups}
use Rattle.mvd_keys.proofs.Sets.{same_document}
use Rattle.mvd_keys.proofs.StatesOfWrites.{get-join, join_at}

pub includes_on : (s t u : State) → IsValid s → IsValid t → IsValid u → Includes t s → Includes u t → Includes u s
includes_on s t u a b c p q = ap (join s) (sym q) ∙ sym (join_groups s t u a b c) ∙ ap (λ x. join x u) p ∙ q

joins_to : (f g : Option Text) (c e : Bool) → join_at f c g e ≡ g → differ f g ≡ false
joins_to None g c e h = refl
joins_to (Some x) None c e h = refl
joins_to (Some x) (Some y) c e h = ap (differ (Some x)) (sym h) ∙ same_document x x refl

pub included_apart : (s t : State) → Includes t s → clashes s t ≡ false
included_apart s t is = apart_of s t (λ q. joins_to (get s.siblings q) (get t.siblings q) (contains s.context q) (contains t.context q)
    (sym (get-join s t q) ∙ ap (λ (u : State). get u.siblings q) is))

pub included_both : (s t : State) → IsValid s → IsValid t → Includes t s → Includes s t → s ≡ t
included_both s t p q is back = sym back ∙ sym (join_commutes s t p q (included_apart s t is)) ∙ is
