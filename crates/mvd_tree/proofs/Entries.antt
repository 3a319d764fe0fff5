-- Entries in order: where a key stands, and what they are once it is put in or taken out.
use Rattle.std.proofs.Common.{◌≡◌, ◌≢◌, ℕ, zero, suc, ◌<◌, ◌≤◌, Bool, true, false, cond, ◌&&◌, List, [], ◌∷◌, length, drop, get_or, set, refl, sym, ap, subst, ◌∙◌, arith, Some, None, Option, T, not}
use Rattle.std.specs.List.{insert, remove}
use Rattle.std.specs.declared.cmp.Ordering.{Ordering}
use Rattle.std.specs.declared.cmp.Ordering.TheVariants.{Less, Equal, Greater}
use Rattle.std.specs.Ordering.{nat_cmp, is_lt, is_eq, eq_by_cmp, ordering_reverse}
use Rattle.std.specs.Cmp.{tied_itself}
use Rattle.std.specs.Cmp.Lexicographic.{slice_cmp, nat_list_cmp_total}
use Rattle.std.specs.FinMap.{get, entries, empty, from_sorted, is_sorted, put, retain_keys, get-empty, get-from_sorted, entries-from_sorted, entries_sorted, entries-insert, get-retain_keys, get-entries, get-remove, same_map, same_entries_map}
use Rattle.std.specs.FinMap as map
use Rattle.std.specs.FinMap.Entries.{below_all, where_key, is_sorted-where_key, find-where_key, by_order}
use Rattle.mvd_tree.specs.HashTree.{KeyDigests}
use Rattle.mvd_tree.specs.Page.{is_after}
use Rattle.mvd_tree.specs.Split.{Splits}
use Rattle.mvd_tree.proofs.Under.{keys_same}

abbrev pub Entry : Type 0
Entry = List ℕ × List ℕ

abbrev pub order : List ℕ → List ℕ → Ordering
order = slice_cmp nat_cmp

pub less : (o : Ordering) → T (is_lt o) → o ≡ Less
less Less h = refl
less Equal h = absurd h
less Greater h = absurd h

pub front : (a b : Bool) → T (a && b) → T a
front true b h = tt
front false b h = absurd h

pub back : (a b : Bool) → T (a && b) → T b
back true b h = h
back false b h = absurd h

pub both : (a b : Bool) → T a → T b → T (a && b)
both true b p q = q
both false b p q = p

pub turned : (k l : List ℕ) (o : Ordering) → order k l ≡ o → order l k ≡ ordering_reverse o
turned k l o e = nat_list_cmp_total.antisymm l k ∙ ap ordering_reverse e

-- a key below another is below all that the other is below
below_less : (k l : List ℕ) (es : List Entry) → order k l ≡ Less → T (below_all order l es) → T (below_all order k es)
below_less k l [] p h = tt
below_less k l (e ∷ es) p h =
    both _ _ (subst (λ o. T (is_lt o)) (sym (nat_list_cmp_total.trans k l e.0 p (less _ (front _ _ h)))) tt) (below_less k l es p (back _ _ h))

-- what is found of an order that is not below the key
at_least : (k l : List ℕ) → is_lt (order l k) ≡ false → order l k ≢ Equal → order k l ≡ Less
at_least k l =
    elim (order l k) as (λ o. order l k ≡ o → is_lt o ≡ false → o ≢ Equal → order k l ≡ Less) [
      | Less ↦ λ _ h n. absurd (cc)
      | Equal ↦ λ _ h n. absurd (n refl)
      | Greater ↦ λ e _ _. turned l k Greater e
    ] refl

is_below : (k l : List ℕ) → is_lt (order l k) ≡ true → order k l ≡ Greater
is_below k l h = turned l k Less (less _ (subst T (sym h) tt))

-- the count of the lower keys, and whether the next key is the one, split the entries
pub splits : (k : List ℕ) (es : List Entry) (i : ℕ) (held : Bool) → T (is_sorted order es) → i ≤ length es
    → ((j : ℕ) (d : Entry) → j < i → is_lt (order (get_or es j d).0 k) ≡ true)
    → ((j : ℕ) (d : Entry) → i ≤ j → j < length es → is_lt (order (get_or es j d).0 k) ≡ false)
    → (held ≡ true → (i < length es) × ((d : Entry) → order (get_or es i d).0 k ≡ Equal))
    → (held ≡ false → i < length es → (d : Entry) → order (get_or es i d).0 k ≢ Equal)
    → Splits k es i held
splits k [] zero true s n b f on off = absurd (omega (arith, (on refl).0))
splits k [] zero false s n b f on off = refl
splits k [] (suc i) held s n b f on off = absurd (omega arith)
splits k (e ∷ es) zero true s n b f on off =
    let same : k ≡ e.0 = sym (keys_same e.0 k ((on refl).1 e)) in
    (same, subst (λ l. T (below_all order l es)) (sym same) (front _ _ s))
splits k (e ∷ es) zero false s n b f on off =
    let p = at_least k e.0 (f 0 e (omega arith) (omega arith)) (off refl (omega arith) e) in
    both _ _ (subst (λ o. T (is_lt o)) (sym p) tt) (below_less k e.0 es p (front _ _ s))
splits k (e ∷ es) (suc i) held s n b f on off = (
  is_below k e.0 (b 0 e (omega arith)),
  splits k es i held (back _ _ s) (omega arith) (λ j d h. b (suc j) d (omega arith)) (λ j d h l. f (suc j) d (omega arith) (omega arith)) (λ h. (omega (arith, (on h).0), (on h).1)) (λ h l. off h (omega arith)),
)

-- the entry that is put in
pub put_absent : (k v : List ℕ) (es : List Entry) (i : ℕ) → Splits k es i false → put order k v es ≡ insert es i (k, v)
put_absent k v [] zero h = refl
put_absent k v [] (suc i) h = absurd h
put_absent k v (e ∷ es) zero h = ap (λ o. by_order o ((k, v) ∷ e ∷ es) ((e.0, v) ∷ es) (e ∷ put order k v es)) (less _ (front _ _ h))
put_absent k v (e ∷ es) (suc i) h = ap (λ o. by_order o ((k, v) ∷ e ∷ es) ((e.0, v) ∷ es) (e ∷ put order k v es)) h.0 ∙ ap (λ fs. e ∷ fs) (put_absent k v es i h.1)

-- the entry that is altered
pub put_held : (k v : List ℕ) (es : List Entry) (i : ℕ) (x : Entry) → x ≡ get_or es i x → Splits k es i true → put order k v es ≡ set es i (x.0, v)
put_held k v [] zero x p h = absurd (cc)
put_held k v [] (suc i) x p h = absurd h
put_held k v (e ∷ es) zero x p h =
    ap (λ o. by_order o ((k, v) ∷ e ∷ es) ((e.0, v) ∷ es) (e ∷ put order k v es)) (ap (order k) (sym h.0) ∙ tied_itself nat_list_cmp_total k)
    ∙ (λ i. ((sym p i).0, v) ∷ es)
put_held k v (e ∷ es) (suc i) x p h = ap (λ o. by_order o ((k, v) ∷ e ∷ es) ((e.0, v) ∷ es) (e ∷ put order k v es)) h.0 ∙ ap (λ fs. e ∷ fs) (put_held k v es i x p h.1)

-- the keys that come after, when all do
all_after : (k : List ℕ) (es : List Entry) → T (below_all order k es) → where_key order (λ x. is_lt (order k x)) es ≡ es
all_after k [] h = refl
all_after k (e ∷ es) h = ap (λ o. cond (is_lt o) (e ∷ where_key order (λ x. is_lt (order k x)) es) (where_key order (λ x. is_lt (order k x)) es)) (less _ (front _ _ h)) ∙ ap (λ fs. e ∷ fs) (all_after k es (back _ _ h))

pub after_absent : (k : List ℕ) (es : List Entry) (i : ℕ) → Splits k es i false → where_key order (is_after (Some k)) es ≡ drop i es
after_absent k [] zero h = refl
after_absent k [] (suc i) h = absurd h
after_absent k (e ∷ es) zero h = all_after k (e ∷ es) h
after_absent k (e ∷ es) (suc i) h = ap (λ o. cond (is_lt o) (e ∷ where_key order (is_after (Some k)) es) (where_key order (is_after (Some k)) es)) h.0 ∙ after_absent k es i h.1

pub after_held : (k : List ℕ) (es : List Entry) (i : ℕ) → Splits k es i true → where_key order (is_after (Some k)) es ≡ drop (suc i) es
after_held k [] zero h = absurd (cc)
after_held k [] (suc i) h = absurd h
after_held k (e ∷ es) zero h = ap (λ o. cond (is_lt o) (e ∷ where_key order (is_after (Some k)) es) (where_key order (is_after (Some k)) es)) (ap (order k) (sym h.0) ∙ tied_itself nat_list_cmp_total k) ∙ all_after k es h.1
after_held k (e ∷ es) (suc i) h = ap (λ o. cond (is_lt o) (e ∷ where_key order (is_after (Some k)) es) (where_key order (is_after (Some k)) es)) h.0 ∙ after_held k es i h.1

abbrev other : List ℕ → List ℕ → Bool
other k x = not (eq_by_cmp order k x)

abbrev others : List ℕ → List Entry → List Entry
others k es = where_key order (other k) es

-- the keys but one, where it is not there
all_other : (k : List ℕ) (es : List Entry) → T (below_all order k es) → others k es ≡ es
all_other k [] h = refl
all_other k (e ∷ es) h = ap (λ o. cond (not (is_eq o)) (e ∷ others k es) (others k es)) (less _ (front _ _ h)) ∙ ap (λ fs. e ∷ fs) (all_other k es (back _ _ h))

pub others_absent : (k : List ℕ) (es : List Entry) (i : ℕ) → Splits k es i false → others k es ≡ es
others_absent k [] zero h = refl
others_absent k [] (suc i) h = absurd h
others_absent k (e ∷ es) zero h = all_other k (e ∷ es) h
others_absent k (e ∷ es) (suc i) h = ap (λ o. cond (not (is_eq o)) (e ∷ others k es) (others k es)) h.0 ∙ ap (λ fs. e ∷ fs) (others_absent k es i h.1)

pub others_held : (k : List ℕ) (es : List Entry) (i : ℕ) → Splits k es i true → others k es ≡ remove es i
others_held k [] zero h = absurd (cc)
others_held k [] (suc i) h = absurd h
others_held k (e ∷ es) zero h = ap (λ o. cond (not (is_eq o)) (e ∷ others k es) (others k es)) (ap (order k) (sym h.0) ∙ tied_itself nat_list_cmp_total k) ∙ all_other k es h.1
others_held k (e ∷ es) (suc i) h = ap (λ o. cond (not (is_eq o)) (e ∷ others k es) (others k es)) h.0 ∙ ap (λ fs. e ∷ fs) (others_held k es i h.1)

-- the entries whose keys pass a test
pub entries-retain_keys : (m : KeyDigests) (p : List ℕ → Bool) → entries (retain_keys m p) ≡ where_key order p (entries m)
entries-retain_keys m p =
    let alike : (q x : List ℕ) → order q x ≡ Equal → p x ≡ p q = λ q x e. ap p (sym (keys_same q x e)) in
    let sorted = is_sorted-where_key order p (entries m) (entries_sorted m) in
    ap entries (same_map nat_list_cmp_total keys_same (retain_keys m p) (from_sorted (where_key order p (entries m))) (λ q.
    get-retain_keys m p q (alike q) ∙ ap (λ o. cond (p q) o None) (get-entries m q) ∙ sym (get-from_sorted order _ q sorted ∙ find-where_key order p q (alike q) (entries m))))
    ∙ entries-from_sorted order _ sorted

flipped : {A : Type 0} (o : Ordering) (x : Option A) → cond (not (is_eq (ordering_reverse o))) x None ≡ cond (is_eq o) None x
flipped Less x = refl
flipped Equal x = refl
flipped Greater x = refl

retain_others : (m : KeyDigests) (k : List ℕ) → map.remove m k ≡ retain_keys m (other k)
retain_others m k =
    same_map nat_list_cmp_total keys_same _ _ (λ q.
    get-remove nat_list_cmp_total m k q
    ∙ sym (get-retain_keys m (other k) q (λ x e. ap (other k) (sym (keys_same q x e))) ∙ ap (λ o. cond (not (is_eq o)) (get m q) None) (nat_list_cmp_total.antisymm k q) ∙ flipped (order q k) (get m q)))

pub entries-remove : (m : KeyDigests) (k : List ℕ) → entries (map.remove m k) ≡ others k (entries m)
entries-remove m k = ap entries (retain_others m k) ∙ entries-retain_keys m (other k)

-- a map by its entries
pub empty_bucket : from_sorted {X = List ℕ} {R = order} [] ≡ empty
empty_bucket = same_map nat_list_cmp_total keys_same _ _ (λ q. get-from_sorted order [] q tt ∙ sym (get-empty order q))

pub from_entries_of : (es : List Entry) (m : KeyDigests) → entries m ≡ es → T (is_sorted order es) × (from_sorted es ≡ m)
from_entries_of es m e =
    let sorted = subst (λ fs. T (is_sorted order fs)) e (entries_sorted m) in
    (sorted, same_entries_map (from_sorted es) m (entries-from_sorted order es sorted ∙ sym e))

-- the entries of a map that was made of them
pub entries_of : (es : List Entry) (m : KeyDigests) → T (is_sorted order es) → from_sorted es ≡ m → entries m ≡ es
entries_of es m sorted is = ap entries (sym is) ∙ entries-from_sorted order es sorted

-- the entries once a key is put in
pub after_put : (es fs : List Entry) (m : KeyDigests) (k v : List ℕ) → T (is_sorted order es) → from_sorted es ≡ m → put order k v es ≡ fs → T (is_sorted order fs) × (from_sorted fs ≡ map.insert m k v)
after_put es fs m k v sorted is e =
    from_entries_of fs (map.insert m k v) (entries-insert nat_list_cmp_total m k v ∙ ap (put order k v) (entries_of es m sorted is) ∙ e)

-- the entries once a key is taken out
pub after_remove : (es fs : List Entry) (m : KeyDigests) (k : List ℕ) → T (is_sorted order es) → from_sorted es ≡ m → others k es ≡ fs → T (is_sorted order fs) × (from_sorted fs ≡ map.remove m k)
after_remove es fs m k sorted is e =
    from_entries_of fs (map.remove m k) (entries-remove m k ∙ ap (others k) (entries_of es m sorted is) ∙ e)

every_key : (es : List Entry) → where_key order (is_after None) es ≡ es
every_key [] = refl
every_key (e ∷ es) = ap (λ fs. e ∷ fs) (every_key es)

-- the entries after a key, or after none
pub rest_after : (es fs : List Entry) (m : KeyDigests) (after : Option (List ℕ)) → T (is_sorted order es) → from_sorted es ≡ m → where_key order (is_after after) es ≡ fs → entries (retain_keys m (is_after after)) ≡ fs
rest_after es fs m after sorted is e =
    entries-retain_keys m (is_after after) ∙ ap (where_key order (is_after after)) (entries_of es m sorted is) ∙ e

pub rest_after_none : (es : List Entry) (m : KeyDigests) → T (is_sorted order es) → from_sorted es ≡ m → entries (retain_keys m (is_after None)) ≡ es
rest_after_none es m sorted is = rest_after es es m None sorted is (every_key es)

less_at : (k : List ℕ) (es : List Entry) → T (below_all order k es) → (j : ℕ) (d : Entry) → j < length es → order k (get_or es j d).0 ≡ Less
less_at k [] h j d l = absurd (omega arith)
less_at k (e ∷ es) h zero d l = less _ (front _ _ h)
less_at k (e ∷ es) h (suc j) d l = less_at k es (back _ _ h) j d (omega arith)

-- the entries with lower keys stand before the others
pub lower_first : (k : List ℕ) (es : List Entry) → T (is_sorted order es) → (i j : ℕ) (d : Entry) → i ≤ j → j < length es → is_lt (order (get_or es j d).0 k) ≡ true → is_lt (order (get_or es i d).0 k) ≡ true
lower_first k [] s i j d a b h = absurd (omega arith)
lower_first k (e ∷ es) s zero zero d a b h = h
lower_first k (e ∷ es) s zero (suc j) d a b h =
    let p = less_at e.0 es (front _ _ s) j d (omega arith) in
    ap is_lt (nat_list_cmp_total.trans e.0 (get_or es j d).0 k p (less _ (subst T (sym h) tt)))
lower_first k (e ∷ es) s (suc i) zero d a b h = absurd (omega arith)
lower_first k (e ∷ es) s (suc i) (suc j) d a b h = lower_first k es (back _ _ s) i j d (omega arith) (omega arith) h

-- entries rise where each is below the next
pub rises_by_pairs : (es : List Entry) → ((k : ℕ) (d : Entry) → suc k < length es → is_lt (order (get_or es k d).0 (get_or es (suc k) d).0) ≡ true) → T (is_sorted order es)
rises_by_pairs [] h = tt
rises_by_pairs (e ∷ []) h = tt
rises_by_pairs (e ∷ f ∷ es) h =
    let rest = rises_by_pairs (f ∷ es) (λ k d l. h (suc k) d (omega arith)) in
    let first = subst T (sym (h 0 e (omega arith))) tt in
    both _ _ (both _ _ first (below_less e.0 f.0 es (less _ first) (front _ _ rest))) rest

-- and only there
pub pairs_rise : (es : List Entry) → T (is_sorted order es) → (k : ℕ) (d : Entry) → suc k < length es → is_lt (order (get_or es k d).0 (get_or es (suc k) d).0) ≡ true
pairs_rise [] s k d l = absurd (omega arith)
pairs_rise (e ∷ es) s zero d l = ap is_lt (less_at e.0 es (front _ _ s) 0 d (omega arith))
pairs_rise (e ∷ es) s (suc k) d l = pairs_rise es (back _ _ s) k d (omega arith)
