-- Joins of the states of a key that two sides hold.
use Rattle.std.proofs.Common.{◌≡◌, ℕ, Bool, true, false, ◌&&◌, ◌==◌, List, refl, sym, ap, ◌∙◌, Some, None}
use Rattle.std.specs.Prelude.{unwrap_or}
use Rattle.std.specs.Cmp.{unsigned_Decides}
use Rattle.std.specs.FinMap.{get, empty_of_len, len, len-empty}
use Rattle.std.specs.FinSet as set
use Rattle.mvd_dots.specs.Dot.{dot_cmp}
use Rattle.mvd_keys.specs.State.{State, IsValid, Text, clashes, empty_state, join}
use Rattle.mvd_keys.specs.Writes.{is_empty}
use Rattle.mvd_keys.proofs.Joins.{join_commutes, join_groups, join_repeats}
use Rattle.mvd_keys.proofs.Lists.{IsValid-empty}
use Rattle.mvd_site.specs.Held.{AreHeld, States, state_at}
use Rattle.mvd_peer.specs.PushedStates.{is_nothing}

both_true : (a b : Bool) → (a && b) ≡ true → (a ≡ true) × (b ≡ true)
both_true true true e = (refl, refl)
both_true true false e = absurd (cc)
both_true false b e = absurd (cc)

-- there is one state that nobody has written
pub nothing_is : (s : State) → is_nothing s ≡ true → s ≡ empty_state
nothing_is s h =
    let parts = both_true (len s.siblings == 0) (is_empty s.context) h in
    let siblings = empty_of_len s.siblings ((unsigned_Decides (len s.siblings) 0).0 parts.0) in
    let context = set.empty_of_len s.context ((unsigned_Decides (set.len s.context) 0).0 parts.1) in
    λ i. record { siblings = siblings i; context = context i }

-- each state of a side in form is valid, the empty one too
pub valid_at : (m : States) → AreHeld m → (key : List ℕ) → IsValid (state_at m key)
valid_at m form key =
    elim (get m key) as (λ o. get m key ≡ o → IsValid (unwrap_or o empty_state)) [
      | None ↦ λ _. IsValid-empty
      | Some s ↦ λ e. form.valid key s e
    ] refl

-- what was joined, joined again, changes nothing
pub join_absorbs : (s t : State) → IsValid s → IsValid t → clashes s t ≡ false → join t (join s t) ≡ join s t
join_absorbs s t p q apart =
    let turned = join_commutes s t p q apart in
    sym (join_groups t s t q p q) ∙ ap (λ u. join u t) (sym turned) ∙ join_groups s t t p q q ∙ ap (join s) (join_repeats t q)

-- nothing is written in the empty state
pub nothing_empty : is_nothing empty_state ≡ true
nothing_empty = λ i. (len-empty dot_cmp Text i == 0) && (set.len-empty dot_cmp i == 0)
