-- The states and the digests of the keys held are those of the writes known.
use Rattle.std.proofs.Common.{◌≡◌, Bool, true, false, not, ◌||◌, cond, List, [], ◌∷◌, map, Some, None, refl, sym, ap, ◌∙◌}
use Rattle.std.specs.List.{list_any}
use Rattle.std.specs.Ordering.{eq_by_cmp}
use Rattle.std.specs.FinMap.{find, get-from_entries, same_map}
use Rattle.std.specs.FinSet.{items, contains-items}
use Rattle.mvd_keys.specs.Key.{key_cmp}
use Rattle.mvd_keys.specs.State.{State}
use Rattle.mvd_keys.specs.Writes.{Key, Stands, Write, context, is_empty, keys, state}
use Rattle.mvd_keys.proofs.Held.{contains-keys}
use Rattle.mvd_keys.proofs.KeyOrder.{key_antisymmetric, key_total, same_where_tied}
use Rattle.mvd_kept.specs.Answer.{states_of}
use Rattle.mvd_kept.specs.Held.{States}

find_keys : (f : Key → State) (ks : List Key) (q : Key) → find key_cmp q (map (λ k. (k, f k)) ks) ≡ cond (list_any (eq_by_cmp key_cmp q) ks) (Some (f q)) None
find_keys f [] q = refl
find_keys f (k ∷ ks) q =
    elim (eq_by_cmp key_cmp q k) as (λ b. eq_by_cmp key_cmp q k ≡ b → cond b (Some (f k)) (find key_cmp q (map (λ k. (k, f k)) ks)) ≡ cond (b || list_any (eq_by_cmp key_cmp q) ks) (Some (f q)) None) [
      | true ↦ λ tied. ap (λ x. Some (f x)) (sym (same_where_tied q k tied))
      | false ↦ λ _. find_keys f ks q
    ] refl

turned : (b : Bool) (s : State) → cond (not b) (Some s) None ≡ cond b None (Some s)
turned true s = refl
turned false s = refl

-- the states which follow from writes stand for them
pub states_of-stands : (W : List Write) → Stands (states_of W) W
unfolding states_of
states_of-stands W = record {
  at = λ q.
      get-from_entries key_total (map (λ k. (k, state k W)) (items (keys W))) q ∙ find_keys (λ k. state k W) (items (keys W)) q
      ∙ ap (λ b. cond b (Some (state q W)) None) (sym (contains-items (keys W) q) ∙ contains-keys W q)
      ∙ turned (is_empty (context q W)) (state q W);
}

-- and a map that stands for the writes is theirs
pub states-stands : (m : States) (W : List Write) → Stands m W → m ≡ states_of W
states-stands m W stands = same_map key_total key_antisymmetric _ _ (λ q. stands.at q ∙ sym ((states_of-stands W).at q))
