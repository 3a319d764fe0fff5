-- Places by keys that are borrowed.
use Rattle.std.proofs.Common.{◌≡◌, ◌∙◌, ℕ, cond, List, [], ◌∷◌, map, Some, None, refl, sym, ap}
use Rattle.std.specs.Borrow.{Bor}
use Rattle.std.specs.BTreeMap.{is_at}
use Rattle.std.specs.Cmp.{eq_by_cmp_equiv}
use Rattle.std.specs.FinMap.{find, get, get-from_entries, get-insert, insert, same_map}
use Rattle.std.specs.Map.{lookup}
use Rattle.mvd_keys.specs.Key.{key_cmp}
use Rattle.mvd_keys.specs.Writes.{Key}
use Rattle.mvd_keys.proofs.KeyOrder.{key_antisymmetric, key_total}
use Rattle.mvd_replica.specs.Behind.{places_of}

abbrev pub Lent : Type 0
Lent = List (Bor Key × ℕ)

find_lent : (es : Lent) (key : Key) → find key_cmp key (map (λ e. (e.0.now, e.1)) es) ≡ lookup (is_at (λ (k : Bor Key). key_cmp key k.now)) es
find_lent [] key = refl
find_lent (e ∷ es) key = ap (cond (is_at (key_cmp key) e.0.now) (Some e.1)) (find_lent es key)

-- the place of a key
pub get_lent : (es : Lent) (key : Key) → get (places_of es) key ≡ lookup (is_at (λ (k : Bor Key). key_cmp key k.now)) es
get_lent es key = get-from_entries key_total (map (λ e. (e.0.now, e.1)) es) key ∙ find_lent es key

-- with one more
pub lent_inserted : (es fs : Lent) (key : Bor Key) (at : ℕ) →
    ((q : Bor Key) → lookup (is_at (λ (k : Bor Key). key_cmp q.now k.now)) fs ≡ cond (is_at (λ (k : Bor Key). key_cmp key.now k.now) q) (Some at) (lookup (is_at (λ (k : Bor Key). key_cmp q.now k.now)) es)) →
    places_of fs ≡ insert (places_of es) key.now at
lent_inserted es fs key at h = same_map key_total key_antisymmetric _ _ (λ q.
    let own : Bor Key = record { ref_ptr = key.ref_ptr; now = q } in
    get_lent fs q ∙ h own ∙ ap (λ b. cond b (Some at) (lookup (is_at (λ (k : Bor Key). key_cmp q k.now)) es)) ((eq_by_cmp_equiv key_total).symm key.now q)
    ∙ sym (get-insert key_total (places_of es) key.now at q ∙ ap (cond (is_at (key_cmp q) key.now) (Some at)) (get_lent es q)))
