-- The kept keys in conflict are those of the states.
use Rattle.std.proofs.Common.{◌≡◌, ℕ, ◌≤◌, suc, nat_lt, Bool, true, false, T, ◌&&◌, cond, if◌then◌else◌, List, [], ◌∷◌, map, filter, length, take, Option, Some, None, is_some, option_map, true≢false, refl, sym, ap, ap₂, ◌∙◌, arith, unwrap_or, lt-ltb, le-leb, true-eqb, nat_eq, Bor, ◌<◌}
use borrow.Author.Tests.{lt-leb}
use Rattle.std.proofs.lemmas.List.{length-map}
use Rattle.std.proofs.lemmas.List.Sums.{length-filter, count_by-le-length}
use Rattle.std.specs.Map.Iter.{TakesFirst, deref_pair}
use Rattle.std.specs.Map.{lookup}
use Rattle.std.specs.BTreeMap as tree
use Rattle.std.specs.BTreeMap.Range.{entries_between}
use Rattle.std.specs.declared.ops.Bound.TheVariants.{Unbounded}
use Rattle.std.specs.Option.{option_eq}
use Rattle.std.specs.Ordering.{eq_by_cmp, is_lt}
use Rattle.std.specs.Cmp.{eq_by_cmp_equiv}
use Rattle.std.specs.FinMap.{FinMap, empty, entries, entries_sorted, find, get, get-empty, get-entries, get-insert, insert, is_sorted, len, len-empty, len-entries}
use Rattle.std.specs.FinMap.Entries.{below_all, same_entries}
use Rattle.mvd_dots.specs.Dot.{dot_cmp}
use Rattle.mvd_keys.specs.Key.{key_cmp}
use Rattle.mvd_keys.specs.State.{State, Text, empty_state, pairs_of}
use Rattle.mvd_keys.specs.declared.siblings.Sibling.{Sibling}
use Rattle.mvd_keys.specs.Writes.{Key}
use Rattle.mvd_keys.proofs.KeyOrder.{key_total, key_antisymmetric, same_where_tied}
use Rattle.mvd_rows.specs.Becomes.{Becomes}
use Rattle.mvd_rows.specs.Changes.{state_in}
use Rattle.mvd_rows.specs.Pages.{IsPageOf, start_of}
use Rattle.mvd_rows.specs.Siblings.{conflicts_answer, conflicts_in, is_after_key, is_conflict, sibling_count, sibling_counts}
use Rattle.mvd_rows.specs.Stands.{AreConflictsOf, if_conflict}
use Rattle.mvd_rows.specs.declared.conflicts.Conflicts.{Conflicts}
use Rattle.mvd_rows.proofs.Sorted.{both, find-filter, first, kept, second, sorted-filter}
use Rattle.mvd_rows.proofs.Trees.{find_is, sorted_is}

abbrev Entry : Type 0
Entry = Key × ℕ

-- how many siblings a key has
abbrev siblings_of : FinMap key_cmp State → Key → ℕ
siblings_of states key = len (state_in states key).siblings

-- ---- none of no states

none_empty : len (empty_state).siblings ≡ 0
none_empty = len-empty dot_cmp Text

pub no_conflicts : (conflicts : Conflicts) → tree.IsEmpty conflicts.keys.map → AreConflictsOf conflicts empty
no_conflicts conflicts none = record {
  at = λ k. ap (lookup (tree.is_at (key_cmp k))) none ∙ sym (ap (λ o. if_conflict (len (unwrap_or o empty_state).siblings)) (get-empty key_cmp k) ∙ ap if_conflict none_empty);
}

-- ---- one key changes

siblings_after : (states : FinMap key_cmp State) (key : Key) (s : State) (q : Key) → siblings_of (insert states key s) q ≡ cond (eq_by_cmp key_cmp q key) (len s.siblings) (siblings_of states q)
siblings_after states key s q =
    ap (λ o. len (unwrap_or o empty_state).siblings) (get-insert key_total states key s q)
    ∙ elim (eq_by_cmp key_cmp q key) as (λ b. len (unwrap_or (cond b (Some s) (get states q)) empty_state).siblings ≡ cond b (len s.siblings) (siblings_of states q)) [ true ↦ refl | false ↦ refl ]

-- the key's own number is put in or taken out
changes : (old new : Conflicts) (states : FinMap key_cmp State) (key : Key) (s : State) (value : Option ℕ) → AreConflictsOf old states → Becomes key_cmp old.keys.map new.keys.map key value →
    value ≡ if_conflict (len s.siblings) → AreConflictsOf new (insert states key s)
changes old new states key s value are becomes is = record {
  at = λ q. becomes.at q
      ∙ ap (λ v. cond (tree.is_at (key_cmp key) q) v (tree.get key_cmp old.keys.map q)) is
      ∙ ap₂ (λ b o. cond b (if_conflict (len s.siblings)) o) ((eq_by_cmp_equiv key_total).symm key q) (are.at q)
      ∙ elim (eq_by_cmp key_cmp q key) as (λ b. cond b (if_conflict (len s.siblings)) (if_conflict (siblings_of states q)) ≡ if_conflict (cond b (len s.siblings) (siblings_of states q))) [ true ↦ refl | false ↦ refl ]
      ∙ sym (ap if_conflict (siblings_after states key s q));
}

same_counts : (a b : Option ℕ) → true ≡ option_eq nat_eq a b → a ≡ b
same_counts None None e = refl
same_counts None (Some y) e = absurd (true≢false e)
same_counts (Some x) None e = absurd (true≢false e)
same_counts (Some x) (Some y) e = ap Some (true-eqb x y e)

-- the key's number is what it was
pub stays : (conflicts : Conflicts) (states : FinMap key_cmp State) (key : Key) (old s : State) (count before : Option ℕ) → AreConflictsOf conflicts states → state_in states key ≡ old →
    count ≡ if_conflict (len s.siblings) → before ≡ if_conflict (len old.siblings) → true ≡ option_eq nat_eq count before → AreConflictsOf conflicts (insert states key s)
stays conflicts states key old s count before are is new_is old_is same = record {
  at = λ q. are.at q
      ∙ elim (eq_by_cmp key_cmp q key) as (λ b. eq_by_cmp key_cmp q key ≡ b → if_conflict (siblings_of states q) ≡ if_conflict (cond b (len s.siblings) (siblings_of states q))) [
        | true ↦ λ tied. ap (λ k. if_conflict (siblings_of states k)) (same_where_tied q key tied) ∙ ap (λ (x : State). if_conflict (len x.siblings)) is
            ∙ sym old_is ∙ sym (same_counts count before same) ∙ new_is
        | false ↦ λ _. refl
      ] refl
      ∙ sym (ap if_conflict (siblings_after states key s q));
}

-- it is put in
pub comes : (old new : Conflicts) (states : FinMap key_cmp State) (key : Key) (s : State) (number : Option ℕ) (count : ℕ) → AreConflictsOf old states → number ≡ if_conflict (len s.siblings) →
    number ≡ Some count → Becomes key_cmp old.keys.map new.keys.map key (Some count) → AreConflictsOf new (insert states key s)
comes old new states key s number count are is some becomes = changes old new states key s (Some count) are becomes (sym some ∙ is)

-- it is taken out
pub goes : (old new : Conflicts) (states : FinMap key_cmp State) (key : Key) (s : State) (number : Option ℕ) → AreConflictsOf old states → number ≡ if_conflict (len s.siblings) →
    number ≡ None → Becomes key_cmp old.keys.map new.keys.map key None → AreConflictsOf new (insert states key s)
goes old new states key s number are is none becomes = changes old new states key s None are becomes (sym none ∙ is)

-- ---- how many siblings a state has

size_is : (s : State) (siblings : List Sibling) → pairs_of siblings ≡ entries s.siblings → length siblings ≡ len s.siblings
size_is s siblings e = sym (length-map _ _) ∙ ap length e ∙ sym (len-entries s.siblings)

pub few_siblings : (s : State) (siblings : List Sibling) → pairs_of siblings ≡ entries s.siblings → length siblings < 2 → None ≡ if_conflict (len s.siblings)
few_siblings s siblings e h =
    let size = size_is s siblings e in
    sym (ap (λ b. if b then Some (len s.siblings) else None) (lt-leb 2 (len s.siblings) (omega arith)))

pub many_siblings : (s : State) (siblings : List Sibling) → pairs_of siblings ≡ entries s.siblings → 2 ≤ length siblings → Some (length siblings) ≡ if_conflict (len s.siblings)
many_siblings s siblings e h =
    let size = size_is s siblings e in
    ap Some size ∙ sym (ap (λ b. if b then Some (len s.siblings) else None) (le-leb 2 (len s.siblings) (omega arith)))

-- ---- all of them

abbrev number : Option State → Option ℕ
number o = option_map (λ (s : State). len s.siblings) o

find-numbered : (q : Key) (es : List (Key × State)) → find key_cmp q (map sibling_count es) ≡ number (find key_cmp q es)
find-numbered q [] = refl
find-numbered q (e ∷ es) = elim (eq_by_cmp key_cmp q e.0) as (λ b. cond b (Some (len e.1.siblings)) (find key_cmp q (map sibling_count es)) ≡ number (cond b (Some e.1) (find key_cmp q es))) [
  | true ↦ refl
  | false ↦ find-numbered q es
]

below-numbered : (x : Key) (es : List (Key × State)) → T (below_all key_cmp x es) → T (below_all key_cmp x (map sibling_count es))
below-numbered x [] h = tt
below-numbered x (e ∷ es) h = both _ _ (first _ _ h) (below-numbered x es (second (is_lt (key_cmp x e.0)) _ h))

sorted-numbered : (es : List (Key × State)) → T (is_sorted key_cmp es) → T (is_sorted key_cmp (map sibling_count es))
sorted-numbered [] h = tt
sorted-numbered (e ∷ es) h = both _ _ (below-numbered e.0 es (first _ _ h)) (sorted-numbered es (second (below_all key_cmp e.0 es) _ h))

conflict-found : (q : Key) (o : Option State) → kept (λ (e : Entry). is_conflict e.1) q (number o) ≡ if_conflict (len (unwrap_or o empty_state).siblings)
conflict-found q None = sym (ap if_conflict none_empty)
conflict-found q (Some s) = refl

conflicts_sorted : (states : FinMap key_cmp State) → T (is_sorted key_cmp (conflicts_in states))
unfolding conflicts_in sibling_counts
conflicts_sorted states = sorted-filter key_total (λ e. is_conflict e.1) (map sibling_count (entries states)) (sorted-numbered (entries states) (entries_sorted states))

find-conflicts : (states : FinMap key_cmp State) (q : Key) → find key_cmp q (conflicts_in states) ≡ if_conflict (siblings_of states q)
unfolding conflicts_in sibling_counts
find-conflicts states q =
    find-filter key_total key_antisymmetric (λ e. is_conflict e.1) q (map sibling_count (entries states)) (sorted-numbered (entries states) (entries_sorted states))
    ∙ ap (kept (λ e. is_conflict e.1) q) (find-numbered q (entries states) ∙ ap number (sym (get-entries states q)))
    ∙ conflict-found q (get states q)

-- the kept keys are the keys in conflict, in their order
conflicts_are : (conflicts : Conflicts) (states : FinMap key_cmp State) → AreConflictsOf conflicts states → tree.IsOrdered key_cmp conflicts.keys.map → conflicts.keys.map.entries ≡ conflicts_in states
conflicts_are conflicts states are ordered = same_entries key_cmp key_total key_antisymmetric conflicts.keys.map.entries (conflicts_in states)
    (sorted_is key_cmp conflicts.keys.map.entries ordered) (conflicts_sorted states)
    (λ q. sym (find_is key_cmp q conflicts.keys.map.entries) ∙ are.at q ∙ sym (find-conflicts states q))

pub count_is : (conflicts : Conflicts) (states : FinMap key_cmp State) → AreConflictsOf conflicts states → tree.IsOrdered key_cmp conflicts.keys.map → length conflicts.keys.map.entries ≡ length (conflicts_in states)
count_is conflicts states are ordered = ap length (conflicts_are conflicts states are ordered)

-- no more than all keys
pub few_conflicts : (states : FinMap key_cmp State) → length (conflicts_in states) ≤ len states
unfolding conflicts_in sibling_counts
few_conflicts states =
    let e = length-filter (λ (x : Entry). is_conflict x.1) (map sibling_count (entries states)) in
    let f = count_by-le-length (λ (x : Entry). is_conflict x.1) (map sibling_count (entries states)) in
    let g : length (map sibling_count (entries states)) ≡ length (entries states) = length-map _ _ in
    let h = len-entries states in
    omega arith

-- ---- a page of them

and-yes : (b : Bool) → (b && true) ≡ b
and-yes true = refl
and-yes false = refl

between_is : (after : Option Key) (es : List Entry) → entries_between key_cmp (start_of after) Unbounded es ≡ filter (λ e. is_after_key after e.0) es
between_is None [] = refl
between_is None (e ∷ es) = ap (λ xs. e ∷ xs) (between_is None es)
between_is (Some k) [] = refl
between_is (Some k) (e ∷ es) = ap₂ (λ b xs. cond b (e ∷ xs) xs) (and-yes (is_lt (key_cmp k e.0))) (between_is (Some k) es)

pub conflicts_page_is : (conflicts : Conflicts) (states : FinMap key_cmp State) (after : Option Key) (keys : List Entry) (more : Bool) → AreConflictsOf conflicts states → tree.IsOrdered key_cmp conflicts.keys.map →
    IsPageOf (entries_between key_cmp (start_of after) Unbounded conflicts.keys.map.entries) keys more →
    ◌≡◌ {A = List Entry × Bool} (conflicts_answer states after) (keys, more)
conflicts_page_is conflicts states after keys more are ordered page =
    let all = between_is after conflicts.keys.map.entries ∙ ap (filter (λ e. is_after_key after e.0)) (conflicts_are conflicts states are ordered) in
    let one = page.first ∙ ap (take 1000) all in
    let two = page.left ∙ ap (λ xs. nat_lt 1000 (length xs)) all in
    λ i. (sym one i, sym two i)

-- whether a walk gives one more
pub first_left : (rest : List Entry) (given : Option (Bor Key × Bor ℕ)) (left : List Entry) → TakesFirst deref_pair rest given left → is_some given ≡ nat_lt 0 (length rest)
first_left rest None left h = sym (ap (λ xs. nat_lt 0 (length xs)) h.0)
first_left rest (Some x) left h = sym (ap (λ xs. nat_lt 0 (length xs)) h ∙ lt-ltb 0 (suc (length left)) (omega arith))
