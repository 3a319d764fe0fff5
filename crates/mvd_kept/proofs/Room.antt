-- A site has few keys, and few siblings of each.
use Rattle.std.proofs.Common.{◌≡◌, ℕ, zero, suc, ◌+◌, ◌*◌, ◌≤◌, ◌^◌, Bool, true, false, cond, take, is_some, IfSome, subst, List, [], ◌∷◌, length, Some, sym, ◌∙◌, arith}
use Rattle.std.specs.List.{AllByRecursion}
use Rattle.std.proofs.lemmas.Bool.{ltb-false}
use Rattle.std.specs.Prelude.{flat_map}
use Rattle.std.proofs.lemmas.List.{length-append, length-take}
use Rattle.std.proofs.lemmas.List.Concat.{flat_map-cons}
use Rattle.std.specs.FinMap.{entries, find, from_entries, get, get-from_entries, len, len-empty, len-entries, len-insert}
use Rattle.std.specs.Ordering.{eq_by_cmp}
use Rattle.mvd_keys.proofs.KeyOrder.{key_total}
use Rattle.mvd_dots.specs.Dot.{DotValue}
use Rattle.mvd_keys.specs.Key.{key_cmp}
use Rattle.mvd_keys.specs.State.{State, Text}
use Rattle.mvd_keys.specs.Writes.{Key}
use Rattle.mvd_rows.specs.Changes.{IsRoomy}
use Rattle.mvd_wire.specs.Codecs.{spell_state, spell_sibling, state_limit}
use Rattle.mvd_wire.proofs.Spellings.{length_sibling, length_state}
use Rattle.mvd_kept.specs.Answer.{is_too_large}
use Rattle.mvd_kept.specs.Held.{AreHeld, IsHeldState, States}

sixteen_each : (es : List (DotValue × Text)) → 16 * length es ≤ length (flat_map spell_sibling es)
sixteen_each [] = omega arith
sixteen_each (e ∷ es) = rw (flat_map-cons, length-append) (omega (arith, length_sibling e, sixteen_each es))

-- a state that is not too long has no more siblings than its length leaves room for
pub few_siblings : (s : State) → is_too_large s ≡ false → len s.siblings ≤ 2 ^ 17
few_siblings s short =
    let small : length (spell_state s) ≤ state_limit = ltb-false state_limit (length (spell_state s)) short in
    omega (arith, small, length_state s, sixteen_each (entries s.siblings), len-entries s.siblings)

pub is_roomy : (states : States) (most : ℕ) → AreHeld states → len states ≤ most → most ≤ 1000000 → IsRoomy states
is_roomy states most kept few low = record {
  keys = omega (arith, few, low);
  siblings = λ key s found. few_siblings s (kept.held key s found).short;
}

-- ---- of entries

up : (b : Bool) (n m : ℕ) → n ≤ m → cond b n (n + 1) ≤ m + 1
up true n m low = omega (arith, low)
up false n m low = omega (arith, low)

len_entries : (es : List (Key × State)) → len (from_entries {R = key_cmp} es) ≤ length es
len_entries [] = subst (λ n. n ≤ 0) (sym (len-empty key_cmp State)) (omega arith)
len_entries (e ∷ es) =
    let more = len-insert key_total (from_entries es) e.0 e.1 in
    let few = up (is_some (get (from_entries {R = key_cmp} es) e.0)) (len (from_entries {R = key_cmp} es)) (length es) (len_entries es) in
    omega (arith, more, few)

held_found : (es : List (Key × State)) (i : ℕ) (key : Key) (s : State) → AllByRecursion (λ e. IsHeldState e.1) es → find key_cmp key (take i es) ≡ Some s → IsHeldState s
held_found es zero key s all found = cc
held_found [] (suc i) key s all found = cc
held_found (e ∷ es) (suc i) key s all found =
    elim (eq_by_cmp key_cmp key e.0) as (λ b. cond b (Some e.1) (find key_cmp key (take i es)) ≡ Some s → IsHeldState s) [
      | true ↦ λ is. subst (λ o. IfSome o IsHeldState) is all.0
      | false ↦ λ rest. held_found es i key s all.1 rest
    ] found

pub roomy_entries : (es : List (Key × State)) (i : ℕ) → AllByRecursion (λ e. IsHeldState e.1) es → length es ≤ 1000000 → IsRoomy (from_entries {R = key_cmp} (take i es))
roomy_entries es i all few = record {
  keys = omega (arith, few, len_entries (take i es), length-take i es);
  siblings = λ key s found. few_siblings s (held_found es i key s all (sym (get-from_entries key_total (take i es) key) ∙ found)).short;
}
