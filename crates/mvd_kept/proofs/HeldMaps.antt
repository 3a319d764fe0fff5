-- The map that the code keeps, as a finite map.
use Rattle.std.proofs.lemmas.Bool.Decides.{nat_tests}
use Rattle.std.proofs.Common.{◌≡◌, ◌+◌, ◌≤◌, ◌==◌, ◌&&◌, not, true, false, ◌||◌, cond, List, [], ◌∷◌, map, length, Option, Some, None, is_some, refl, sym, ap, ◌∙◌, subst, arith}
use Rattle.std.specs.Ordering.{eq_by_cmp}
use Rattle.std.specs.Cmp.{eq_by_cmp_equiv}
use Rattle.std.specs.Map.{lookup}
use Rattle.std.specs.List.{IsDistinct, AllByRecursion, list_any}
use Rattle.std.specs.BTreeMap.{is_at}
use Rattle.std.specs.List.Sorted.{IsStrictlySortedBy}
use Rattle.std.proofs.lemmas.Map.Keys.{IsDistinct-from_sorted}
use Rattle.std.specs.FinMap.{FinMap, get, find, from_entries, insert, len, get-from_entries, get-empty, get-insert, len-insert, len-empty, same_map}
use Rattle.std.specs.FinMap.Entries.{is_some-find}
use Rattle.mvd_wire.specs.Codecs.{IsInForm}
use Rattle.mvd_keys.specs.Key.{is_key, key_cmp}
use Rattle.mvd_keys.specs.State.{State, IsValid}
use Rattle.mvd_keys.specs.Writes.{Key}
use Rattle.mvd_kept.specs.Config.{ConfigValue}
use Rattle.mvd_kept.specs.Held.{AreHeld, IsHeldState, States}
use Rattle.mvd_kept.specs.Sites.{has_no_room}
use Rattle.mvd_keys.proofs.KeyOrder.{key_total, key_antisymmetric, same_where_tied}

module _ {X : Type 0} where
  find_key : (es : List (Key × X)) (key : Key) → find key_cmp key es ≡ lookup (is_at (key_cmp key)) es
  find_key [] key = refl
  find_key (e ∷ es) key = ap (cond (is_at (key_cmp key) e.0) (Some e.1)) (find_key es key)

  pub get_key : (es : List (Key × X)) (key : Key) → get (from_entries {R = key_cmp} es) key ≡ lookup (is_at (key_cmp key)) es
  get_key es key = get-from_entries key_total es key ∙ find_key es key

  pub one_inserted : (es fs : List (Key × X)) (key : Key) (x : X) → ((q : Key) → lookup (is_at (key_cmp q)) fs ≡ cond (is_at (key_cmp key) q) (Some x) (lookup (is_at (key_cmp q)) es)) → from_entries {R = key_cmp} fs ≡ insert (from_entries es) key x
  one_inserted es fs key x h = same_map key_total key_antisymmetric _ _ (λ q.
      get_key fs q ∙ h q ∙ ap (λ b. cond b (Some x) (lookup (is_at (key_cmp q)) es)) ((eq_by_cmp_equiv key_total).symm key q)
      ∙ sym (get-insert key_total (from_entries es) key x q ∙ ap (cond (is_at (key_cmp q) key) (Some x)) (get_key es q)))

  none_alike : (key : Key) (es : List (Key × X)) → AllByRecursion (λ y. eq_by_cmp key_cmp key y ≡ false) (map (λ e. e.0) es) → list_any (eq_by_cmp key_cmp key) (map (λ e. e.0) es) ≡ false
  none_alike key [] h = refl
  none_alike key (e ∷ es) h = ap (λ b. b || list_any (eq_by_cmp key_cmp key) (map (λ e. e.0) es)) h.0 ∙ none_alike key es h.1

  len-distinct : (es : List (Key × X)) → IsDistinct (eq_by_cmp key_cmp) (map (λ e. e.0) es) → len (from_entries {R = key_cmp} es) ≡ length es
  unfolding IsDistinct
  len-distinct [] h = len-empty key_cmp X
  len-distinct (e ∷ es) h =
      len-insert key_total (from_entries es) e.0 e.1
      ∙ ap (λ b. cond b (len (from_entries {R = key_cmp} es)) (len (from_entries {R = key_cmp} es) + 1))
      (ap is_some (get-from_entries key_total es e.0) ∙ is_some-find key_cmp e.0 es ∙ none_alike e.0 es h.0)
      ∙ (let ih : len (from_entries {R = key_cmp} es) ≡ length es = len-distinct es h.1 in omega arith)

  pub len_sorted : (es : List (Key × X)) → IsStrictlySortedBy key_cmp (map (λ e. e.0) es) → len (from_entries {R = key_cmp} es) ≡ length es
  len_sorted es h = len-distinct es (IsDistinct-from_sorted key_cmp _ h)

  -- what holds of each value of a map, and of a value that comes in, holds of each afterwards
  pub held_inserted : (P : X → Type 0) (m : FinMap key_cmp X) (key : Key) (x : X) → ((q : Key) (y : X) → get m q ≡ Some y → P y) → P x → (q : Key) (y : X) → get (insert m key x) q ≡ Some y → P y
  held_inserted P m key x all here q y found =
      elim (eq_by_cmp key_cmp q key) as (λ b. cond b (Some x) (get m q) ≡ Some y → P y) [
        | true ↦ λ e. let same : x ≡ y = cc in subst P same here
        | false ↦ λ e. all q y e
      ] (sym (get-insert key_total m key x q) ∙ found)

-- ---- what is held

-- what holds of each key of a map, and of one that comes in, holds of each afterwards
key_inserted : (m : States) (key : Key) (s : State) → ((q : Key) (y : State) → get m q ≡ Some y → is_key q ≡ true) → is_key key ≡ true → (q : Key) (y : State) → get (insert m key s) q ≡ Some y → is_key q ≡ true
key_inserted m key s all here q y found =
    elim (eq_by_cmp key_cmp q key) as (λ b. eq_by_cmp key_cmp q key ≡ b → cond b (Some s) (get m q) ≡ Some y → is_key q ≡ true) [
      | true ↦ λ tied e. ap is_key (same_where_tied q key tied) ∙ here
      | false ↦ λ _ e. all q y e
    ] refl (sym (get-insert key_total m key s q) ∙ found)

-- no key is held in the empty map
pub held_none : (es : List (Key × State)) → es ≡ [] → AreHeld (from_entries es)
held_none es none = record {
  held = λ key s found. absurd (nothing key s found);
  valid = λ key s found. absurd (nothing key s found);
  key = λ key s found. absurd (nothing key s found);
  spelled = λ key s found. absurd (nothing key s found);
}
  where
    not_some : (s : State) → ◌≡◌ {A = Option State} None (Some s) → ⊥
    not_some s e = cc

    nothing : (key : Key) (s : State) → get (from_entries {R = key_cmp} es) key ≡ Some s → ⊥
    nothing key s found = not_some s (sym (get-empty key_cmp key) ∙ ap (λ l. get (from_entries {R = key_cmp} l) key) (sym none) ∙ found)

-- a state that may be held, put in
pub kept_inserted : (m : States) (key : Key) (s : State) → AreHeld m → IsHeldState s → IsValid s → is_key key ≡ true → IsInForm s → AreHeld (insert m key s)
kept_inserted m key s kept here valid is spelled = record {
  held = held_inserted IsHeldState m key s kept.held here;
  valid = held_inserted IsValid m key s kept.valid valid;
  key = key_inserted m key s kept.key is;
  spelled = held_inserted IsInForm m key s kept.spelled spelled;
}

-- a key that may come in leaves no more keys than may be held
pub room_left : (config : ConfigValue) (m : States) (key : Key) (s : State) → has_no_room config m key ≡ false → len m ≤ config.max_keys → len (insert m key s) ≤ config.max_keys
room_left config m key s room few =
    subst (λ n. n ≤ config.max_keys) (sym (len-insert key_total m key s))
    (elim (is_some (get m key)) as (λ b. (not b && (len m == config.max_keys)) ≡ false → cond b (len m) (len m + 1) ≤ config.max_keys) [
      | true ↦ λ _. few
      | false ↦ λ apart. grind (arith, nat_tests)
    ] room)

-- states that may be held, of keys
pub held_all : (es : List (Key × State)) → AllByRecursion (λ e. IsHeldState e.1) es → AllByRecursion (λ e. IsValid e.1 × (is_key e.0 ≡ true)) es → AllByRecursion (λ e. IsInForm e.1) es → AreHeld (from_entries es)
held_all [] held valid spelled = held_none [] refl
held_all (e ∷ es) held valid spelled = kept_inserted (from_entries es) e.0 e.1 (held_all es held.1 valid.1 spelled.1) held.0 valid.0.0 valid.0.1 spelled.0
