use Rattle.std.proofs.Common.{◌≡◌, List, None, true, sym, ap, ◌∙◌, subst}
use Rattle.std.specs.FinMap.{from_entries}
use Rattle.std.specs.List.{AllByRecursion}
use Rattle.std.specs.Map.{update_all}
use Rattle.std.specs.Ordering.{eq_by_cmp}
use Rattle.std.proofs.lemmas.Iterator.{items_from_drains}
use Rattle.std.proofs.lemmas.Iterator.Adapters.{YieldsList-from_vec}
use Rattle.std.proofs.lemmas.List.{map-id}
use Rattle.mvd_keys.specs.Key.{is_key, key_cmp}
use Rattle.mvd_keys.specs.State.{IsValid}
use Rattle.mvd_keys.proofs.Parts.{holds}
use Rattle.mvd_kept.specs.Held.{AreHeld}
use Rattle.mvd_kept.proofs.HeldMaps.{held_all}
use Rattle.mvd_kept.proofs.Opened.{Entry, made_at_once}
use Rattle.mvd_kept.proofs.held.Held.of.Goals as goal

-- the map that is made has just these entries
made : (c : goal.In_ok-states) → from_entries {R = key_cmp} c.in_ok-states.states.entries ≡ from_entries c.args.states.items
made c =
    let ran = c.in_ok-states.ensures.ran in
    let road = YieldsList-from_vec {s = ran.0} c.args.states.items ran.2.0 (ran.2.1 ∙ c.args.states.ok.0) in
    let taken : ran.1 ≡ c.args.states.items = sym (map-id ran.1) ∙ items_from_drains ran.1 ran.3 road in
    made_at_once c.args.states.items c.in_ok-states.states.entries (holds _ c.requires.rising)
    (λ q. ran.4.0 q ∙ ap (λ (es : List Entry). update_all (eq_by_cmp key_cmp) (λ _. None) es q) taken)

all_held : (c : goal.In_ok-states) → AreHeld (from_entries c.args.states.items)
all_held c =
    let valid = subst (AllByRecursion (λ e. IsValid e.1 × (is_key e.0 ≡ true))) c.deref.ensures.value c.are_valid.ensures in
    held_all c.args.states.items c.requires.held valid c.requires.spelled

pub invariant_of-result : goal.invariant_of-result
invariant_of-result c = subst AreHeld (sym (made c)) (all_held c)

pub returns-clause-held : goal.returns-clause-held
returns-clause-held c = made c

pub returns-clause-kept : goal.returns-clause-kept
returns-clause-kept c = subst AreHeld (sym (made c)) (all_held c)
