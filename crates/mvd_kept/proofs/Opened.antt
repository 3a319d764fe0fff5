-- The map of rising entries, and a set of writes that it stands for.
use Rattle.std.proofs.Common.{◌≡◌, false, cond, List, [], ◌∷◌, ◌++◌, Some, None, refl, sym, ap, ◌∙◌, subst, T, is_some, arith, ℕ, ◌+◌, zero, suc, ◌<◌, length, map, take, drop, get_or}
use Rattle.std.proofs.Math.Seq.{split_at}
use Rattle.std.proofs.lemmas.List.{map-id, take_more}
use Rattle.std.specs.List.{AllByRecursion, IsDistinct}
use Rattle.std.specs.declared.cmp.Ordering.{Ordering}
use Rattle.std.specs.declared.cmp.Ordering.TheVariants.{Less, Equal, Greater}
use Rattle.std.specs.Ordering.{eq_by_cmp, is_eq, is_lt}
use Rattle.std.specs.Map.{lookup, update_all}
use Rattle.std.specs.BTreeMap.{is_at}
use Rattle.std.proofs.lemmas.Map.Made.{update_all_none}
use Rattle.std.specs.Cmp.{eq_by_cmp_equiv}
use Rattle.std.specs.FinMap.{get, find, from_entries, from_entries_push, get-from_entries, insert, is_sorted, len, len-empty, len-insert, same_map}
use Rattle.std.specs.FinMap.Entries.{below_all}
use Rattle.mvd_keys.specs.Key.{key_cmp}
use Rattle.mvd_keys.specs.State.{State}
use Rattle.mvd_keys.specs.Writes.{Key, Stands, Write}
use Rattle.mvd_keys.proofs.KeyOrder.{key_antisymmetric, key_total}
use Rattle.mvd_keys.proofs.Rising.{first_true, second_true}
use Rattle.mvd_keys.proofs.Standing.{Stands-for}
use Rattle.mvd_kept.specs.Held.{AreHeld, States}
use Rattle.mvd_kept.proofs.HeldMaps.{get_key}

abbrev pub Entry : Type 0
Entry = Key × State

less_is_no_tie : (o : Ordering) → T (is_lt o) → is_eq o ≡ false
less_is_no_tie Less h = refl
less_is_no_tie Equal h = absurd h
less_is_no_tie Greater h = absurd h

-- a key below all is not found
find_below : (key : Key) (es : List Entry) → T (below_all key_cmp key es) → find key_cmp key es ≡ None
find_below key [] h = refl
find_below key (e ∷ es) h =
    ap (λ b. cond b (Some e.1) (find key_cmp key es)) (less_is_no_tie (key_cmp key e.0) (first_true _ _ h)) ∙ find_below key es (second_true (is_lt (key_cmp key e.0)) _ h)

-- the head of a part is above a key below all of the list
below_part : (key : Key) (es : List Entry) (e : Entry) (fs : List Entry) → T (below_all key_cmp key (es ++ e ∷ fs)) → T (is_lt (key_cmp key e.0))
below_part key [] e fs h = first_true _ _ h
below_part key (x ∷ es) e fs h = below_part key es e fs (second_true (is_lt (key_cmp key x.0)) _ h)

-- of rising entries, a later key is not found among those before it
pub find_before : (es : List Entry) (e : Entry) (fs : List Entry) → T (is_sorted key_cmp (es ++ e ∷ fs)) → find key_cmp e.0 es ≡ None
find_before [] e fs h = refl
find_before (x ∷ es) e fs h =
    ap (λ b. cond b (Some x.1) (find key_cmp e.0 es))
    ((eq_by_cmp_equiv key_total).symm e.0 x.0 ∙ less_is_no_tie (key_cmp x.0 e.0) (below_part x.0 es e fs (first_true _ _ h)))
    ∙ find_before es e fs (second_true (below_all key_cmp x.0 (es ++ e ∷ fs)) _ h)

-- ---- the states of rising entries

missing : (e : Entry) (es : List Entry) → T (is_sorted key_cmp (e ∷ es)) → get (from_entries {R = key_cmp} es) e.0 ≡ None
missing e es rises = get-from_entries key_total es e.0 ∙ find_below e.0 es (first_true _ _ rises)

-- a map of states that may be held stands for a set of writes
pub stands_held : (m : States) → AreHeld m → (known : List Write) × Stands m known
stands_held m kept = Stands-for m (λ key s found. (kept.valid key s found, (kept.held key s found).seen))

-- ---- one entry after the other

-- of rising entries, to put in the next is to have one more
pub one_more : (all done : List Entry) (e : Entry) → T (is_sorted key_cmp all) → map (λ x. x) done ≡ take (length done) all → length done < length all → e ≡ get_or all (length done) e →
    insert (from_entries {R = key_cmp} done) e.0 e.1 ≡ from_entries (done ++ e ∷ [])
one_more all done e rises so_far low is =
    let same : done ≡ take (length done) all = sym (map-id done) ∙ so_far in
    let whole : all ≡ done ++ e ∷ drop (suc (length done)) all = split_at all (length done) e low ∙ ap (λ x. take (length done) all ++ x ∷ drop (suc (length done)) all) (sym is) ∙ ap (λ l. l ++ e ∷ drop (suc (length done)) all) (sym same) in
    sym (from_entries_push key_total key_antisymmetric done e.0 e.1 (find_before done e (drop (suc (length done)) all) (subst (λ l. T (is_sorted key_cmp l)) whole rises)))

-- the map of rising entries has as many keys
pub rising_len : (es : List Entry) → T (is_sorted key_cmp es) → len (from_entries {R = key_cmp} es) ≡ length es
rising_len [] rises = len-empty key_cmp State
rising_len (e ∷ es) rises =
    len-insert key_total (from_entries es) e.0 e.1
    ∙ ap (λ o. cond (is_some o) (len (from_entries {R = key_cmp} es)) (len (from_entries {R = key_cmp} es) + 1)) (missing e es rises)
    ∙ (let rest : len (from_entries {R = key_cmp} es) ≡ length es = rising_len es (second_true (below_all key_cmp e.0 es) _ rises) in omega arith)

-- a rising entry is of none of the keys before it
pub fresh_at : (es : List Entry) (i : ℕ) (e : Entry) → T (is_sorted key_cmp es) → i < length es → e ≡ get_or es i e → get (from_entries {R = key_cmp} (take i es)) e.0 ≡ None
fresh_at es i e rises low is =
    get-from_entries key_total (take i es) e.0
    ∙ find_before (take i es) e (drop (suc i) es) (subst (λ l. T (is_sorted key_cmp l)) (split_at es i e low ∙ ap (λ x. take i es ++ x ∷ drop (suc i) es) (sym is)) rises)

-- to put it in is to have one entry more
pub next_at : (es : List Entry) (i : ℕ) (e : Entry) → T (is_sorted key_cmp es) → i < length es → e ≡ get_or es i e → insert (from_entries {R = key_cmp} (take i es)) e.0 e.1 ≡ from_entries (take (i + 1) es)
next_at es i e rises low is =
    sym (from_entries_push key_total key_antisymmetric (take i es) e.0 e.1
    (find_before (take i es) e (drop (suc i) es) (subst (λ l. T (is_sorted key_cmp l)) (split_at es i e low ∙ ap (λ x. take i es ++ x ∷ drop (suc i) es) (sym is)) rises)))
    ∙ ap (λ l. from_entries {R = key_cmp} l) (sym (take_more es i e low ∙ ap (λ x. take i es ++ x ∷ []) (sym is)))

-- what holds of each, holds of one of them
pub each_at : (P : Entry → Type 0) (es : List Entry) (i : ℕ) (e : Entry) → AllByRecursion P es → i < length es → e ≡ get_or es i e → P e
each_at P [] i e all low is = absurd (omega (arith, low))
each_at P (x ∷ es) zero e all low is = subst P (sym is) all.0
each_at P (x ∷ es) (suc i) e all low is = each_at P es i e all.1 (omega (arith, low)) is

each_pushed : (P : Entry → Type 0) (es : List Entry) (e : Entry) → AllByRecursion P es → P e → AllByRecursion P (es ++ e ∷ [])
each_pushed P [] e all here = (here, tt)
each_pushed P (x ∷ es) e all here = (all.0, each_pushed P es e all.1 here)

-- and what holds of each so far and of the next, holds of each then
pub each_more : (P : Entry → Type 0) (es : List Entry) (i : ℕ) (e : Entry) → AllByRecursion P (take i es) → i < length es → e ≡ get_or es i e → P e → AllByRecursion P (take (i + 1) es)
each_more P es i e all low is here =
    subst (AllByRecursion P) (sym (take_more es i e low ∙ ap (λ x. take i es ++ x ∷ []) (sym is))) (each_pushed P (take i es) e all here)

-- ---- all entries at once

below_distinct : (key : Key) (es : List Entry) → T (below_all key_cmp key es) → AllByRecursion (λ y. eq_by_cmp key_cmp key y ≡ false) (map (λ e. e.0) es)
below_distinct key [] h = tt
below_distinct key (e ∷ es) h = (less_is_no_tie (key_cmp key e.0) (first_true _ _ h), below_distinct key es (second_true (is_lt (key_cmp key e.0)) _ h))

-- rising keys are distinct
rising_distinct : (es : List Entry) → T (is_sorted key_cmp es) → IsDistinct (eq_by_cmp key_cmp) (map (λ e. e.0) es)
unfolding IsDistinct
rising_distinct [] h = tt
rising_distinct (e ∷ es) h = (below_distinct e.0 es (first_true _ _ h), rising_distinct es (second_true (below_all key_cmp e.0 es) _ h))

-- the map of rising entries, where they were all put in at once
pub made_at_once : (es fs : List Entry) → T (is_sorted key_cmp es) → ((q : Key) → lookup (is_at (key_cmp q)) fs ≡ update_all (eq_by_cmp key_cmp) (λ _. None) es q) → from_entries {R = key_cmp} fs ≡ from_entries es
made_at_once es fs rises h = same_map key_total key_antisymmetric _ _ (λ q.
    get_key fs q ∙ h q ∙ update_all_none (eq_by_cmp_equiv key_total) (eq_by_cmp key_cmp) (λ x y. refl) es q (rising_distinct es rises) ∙ sym (get_key es q))
