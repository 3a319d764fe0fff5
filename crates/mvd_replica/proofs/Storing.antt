-- What is stored of the states.
use Rattle.std.proofs.Common.{◌≡◌, ◌∙◌, true, false, cond, Some, option_map, refl, sym, ap, subst}
use Rattle.std.specs.Ordering.{eq_by_cmp}
use Rattle.std.specs.FinMap.{get, get-insert, insert}
use Rattle.mvd_keys.specs.Key.{key_cmp}
use Rattle.mvd_keys.proofs.KeyOrder.{key_total}
use Rattle.mvd_keys.specs.State.{State}
use Rattle.mvd_keys.specs.Writes.{Key}
use Rattle.mvd_wire.specs.Codecs.{spell_state, IsInForm}
use Rattle.mvd_records.specs.States.{StoredStates as Stored}
use Rattle.mvd_site.specs.Held.{States}
use Rattle.mvd_site.specs.Sites.{SiteValue}
use Rattle.sqlite.specs.Effect.{Database}
use Rattle.mvd_replica.specs.Holds.{AreSpelled, HoldsSite, HoldsStates, SpellStates}

some_is : (s t : State) → Some s ≡ Some t → s ≡ t
some_is s t e = cc

-- one key's state, put in on both sides
pub spelled_insert : (stored : Stored) (states : States) (key : Key) (after : State) → SpellStates stored states → SpellStates (insert stored key (spell_state after)) (insert states key after)
spelled_insert stored states key after spelled other =
    get-insert key_total stored key (spell_state after) other
    ∙ elim (eq_by_cmp key_cmp other key) as (λ b. cond b (Some (spell_state after)) (get stored other) ≡ option_map spell_state (cond b (Some after) (get states other))) [
      | true ↦ refl
      | false ↦ spelled other
    ]
    ∙ ap (option_map spell_state) (sym (get-insert key_total states key after other))

-- the states with one that has a spelling put in
pub spelled_with : (states : States) (key : Key) (after : State) → AreSpelled states → IsInForm after → AreSpelled (insert states key after)
spelled_with states key after fits fit other s found =
    elim (eq_by_cmp key_cmp other key) as (λ b. cond b (Some after) (get states other) ≡ Some s → IsInForm s) [
      | true ↦ λ is. subst IsInForm (some_is after s is) fit
      | false ↦ λ is. fits other s is
    ] (sym (get-insert key_total states key after other) ∙ found)

-- records that agree with a site that is not broken hold its states
pub holds_states : (site : SiteValue) (db : Database) → site.broken ≡ false → AreSpelled site.states → HoldsSite site db → HoldsStates site.config.site site.states db
holds_states site db whole fits holds = record { records = holds.records; alone = holds.alone; spelled = holds.spelled whole; fits = fits }
