-- What is visible in a map of key states, key by key, and that it is what the writes make visible that the map stands for.
use Rattle.std.proofs.Common.{◌≡◌, ℕ, ◌+◌, ◌*◌, ◌^◌, ◌≤◌, Bool, true, false, T, ◌&&◌, cond, List, [], ◌∷◌, ◌++◌, map, flat_map, length, length-append, Option, Some, None, unwrap_or, refl, sym, ap, ap₂, ◌∙◌, arith}
use Rattle.std.specs.Ordering.{eq_by_cmp}
use Rattle.std.specs.Option.{option_or}
use Rattle.std.proofs.lemmas.List.{length-map}
use Rattle.std.specs.FinMap.{FinMap, get, find, insert, len, entries, entries_sorted, is_sorted, from_entries, contains_key, get-empty, get-entries, get-insert, get-from_entries, len-entries, len-insert, len-empty, same_map}
use Rattle.std.specs.FinMap.Entries.{below_all}
use Rattle.mvd_dots.specs.Dot.{dot_cmp, DotValue}
use Rattle.mvd_keys.specs.Key.{key_cmp}
use Rattle.mvd_keys.specs.State.{Text, State, IsValid, empty_state}
use Rattle.mvd_keys.specs.Writes.{Key, Write, Stands, context, held, is_empty, siblings, state}
use Rattle.mvd_keys.proofs.KeyOrder.{key_total, tied_itself_key}
use Rattle.mvd_keys.proofs.Lists.{state_of_empty}
use Rattle.mvd_keys.proofs.Sets.{IsValid-state}
use Rattle.mvd_rows.specs.Changes.{HasSiblings, IsRoomy, state_in}
use Rattle.mvd_rows.specs.Marks.{spot_cmp, spots_total, spots_exact}
use Rattle.mvd_rows.specs.Visible.{siblings_at, spot, visible, visible_in}
use Rattle.mvd_rows.specs.declared.marks.Spot.{Spot}
use Rattle.mvd_rows.proofs.Held.{get-visible}
use Rattle.mvd_rows.proofs.Sorted.{none_below, found_later, first, second}
use Rattle.mvd_rows.proofs.Spots.{spots_tied}

abbrev sibling_in : Option State → DotValue → Option Text
sibling_in None dot = None
sibling_in (Some s) dot = get s.siblings dot

abbrev Held : Type 0
Held = List (Key × State)

abbrev all_of : Held → List (Spot × Text)
all_of es = flat_map (λ e. siblings_at e.0 e.1.siblings) es

find_more : (q : Spot) (es fs : List (Spot × Text)) → find spot_cmp q (es ++ fs) ≡ option_or (find spot_cmp q es) (find spot_cmp q fs)
find_more q [] fs = refl
find_more q (e ∷ es) fs = elim (eq_by_cmp spot_cmp q e.0) as (λ b. cond b (Some e.1) (find spot_cmp q (es ++ fs)) ≡ option_or (cond b (Some e.1) (find spot_cmp q es)) (find spot_cmp q fs)) [ true ↦ refl | false ↦ find_more q es fs ]

-- the siblings of one key
find_own : (key k : Key) (dot : DotValue) (ps : List (DotValue × Text)) → find spot_cmp (spot key dot) (map (λ e. (spot k e.0, e.1)) ps) ≡ cond (eq_by_cmp key_cmp key k) (find dot_cmp dot ps) None
find_own key k dot [] = elim (eq_by_cmp key_cmp key k) as (λ b. ◌≡◌ {A = Option Text} None (cond b None None)) [ true ↦ refl | false ↦ refl ]
find_own key k dot (e ∷ ps) =
    ap₂ (λ b o. cond b (Some e.1) o) (spots_tied (spot key dot) (spot k e.0)) (find_own key k dot ps)
    ∙ elim (eq_by_cmp key_cmp key k) as (λ b. cond (b && eq_by_cmp dot_cmp dot e.0) (Some e.1) (cond b (find dot_cmp dot ps) None) ≡ cond b (cond (eq_by_cmp dot_cmp dot e.0) (Some e.1) (find dot_cmp dot ps)) None) [ true ↦ refl | false ↦ refl ]

or_none : (o : Option Text) → option_or o None ≡ o
or_none None = refl
or_none (Some x) = refl

find_all : (key : Key) (dot : DotValue) (es : Held) → T (is_sorted key_cmp es) → find spot_cmp (spot key dot) (all_of es) ≡ sibling_in (find key_cmp key es) dot
find_all key dot [] sorted = refl
find_all key dot (e ∷ es) sorted =
    let rest = find_all key dot es (second (below_all key_cmp e.0 es) _ sorted) in
    find_more (spot key dot) (siblings_at e.0 e.1.siblings) (all_of es)
    ∙ ap₂ option_or (find_own key e.0 dot (entries e.1.siblings) ∙ ap (λ o. cond (eq_by_cmp key_cmp key e.0) o None) (sym (get-entries e.1.siblings dot))) rest
    ∙ elim (eq_by_cmp key_cmp key e.0) as (λ b. eq_by_cmp key_cmp key e.0 ≡ b → option_or (cond b (get e.1.siblings dot) None) (sibling_in (find key_cmp key es) dot) ≡ sibling_in (cond b (Some e.1) (find key_cmp key es)) dot) [
      | true ↦ λ tied. ap (λ o. option_or (get e.1.siblings dot) (sibling_in o dot)) (none_below key_total key e.0 es tied (first _ _ sorted)) ∙ or_none (get e.1.siblings dot)
      | false ↦ λ _. refl
    ] refl

pub get-visible_in : (states : FinMap key_cmp State) (key : Key) (dot : DotValue) → get (visible_in states) (spot key dot) ≡ sibling_in (get states key) dot
unfolding visible_in
get-visible_in states key dot =
    get-from_entries spots_total (all_of (entries states)) (spot key dot) ∙ find_all key dot (entries states) (entries_sorted states)
    ∙ ap (λ o. sibling_in o dot) (sym (get-entries states key))

-- ---- one key's siblings

sibling_of : (o : Option State) (dot : DotValue) → sibling_in o dot ≡ get (unwrap_or o empty_state).siblings dot
sibling_of None dot = sym (get-empty dot_cmp dot)
sibling_of (Some s) dot = refl

pub siblings_are : (states : FinMap key_cmp State) (key : Key) (s : State) → state_in states key ≡ s → HasSiblings (visible_in states) key (entries s.siblings)
siblings_are states key s is = record {
  at = λ dot. get-visible_in states key dot ∙ sibling_of (get states key) dot ∙ ap (λ (x : State). get x.siblings dot) is ∙ get-entries s.siblings dot;
}

pub get-changed : (states : FinMap key_cmp State) (key : Key) (s : State) (q : Spot) →
    get (visible_in (insert states key s)) q ≡ cond (eq_by_cmp key_cmp q.key key) (find dot_cmp q.dot (entries s.siblings)) (get (visible_in states) q)
get-changed states key s q =
    get-visible_in (insert states key s) q.key q.dot
    ∙ ap (λ o. sibling_in o q.dot) (get-insert key_total states key s q.key)
    ∙ elim (eq_by_cmp key_cmp q.key key) as (λ b. sibling_in (cond b (Some s) (get states q.key)) q.dot ≡ cond b (find dot_cmp q.dot (entries s.siblings)) (get (visible_in states) q)) [
      | true ↦ get-entries s.siblings q.dot
      | false ↦ sym (get-visible_in states q.key q.dot)
    ]

-- ---- how many

up : (b : Bool) (n m : ℕ) → n ≤ m → cond b n (n + 1) ≤ 1 + m
up true n m h = omega arith
up false n m h = omega arith

len_of_entries : (es : List (Spot × Text)) → len (from_entries {R = spot_cmp} es) ≤ length es
len_of_entries [] = let e = len-empty spot_cmp Text in omega arith
len_of_entries (e ∷ es) =
    let ih = len_of_entries es in
    let h = up (contains_key (from_entries {R = spot_cmp} es) e.0) (len (from_entries {R = spot_cmp} es)) (length es) ih in
    let i = len-insert spots_total (from_entries es) e.0 e.1 in
    omega arith

few_in : (es : Held) → T (is_sorted key_cmp es) → ((key : Key) (s : State) → find key_cmp key es ≡ Some s → len s.siblings ≤ 2 ^ 17) → length (all_of es) ≤ length es * 2 ^ 17
few_in [] sorted few = omega arith
few_in (e ∷ es) sorted few =
    let own = few e.0 e.1 (ap (λ b. cond b (Some e.1) (find key_cmp e.0 es)) (tied_itself_key e.0)) in
    let size : length (siblings_at e.0 e.1.siblings) ≡ length (entries e.1.siblings) = length-map _ _ in
    let known = len-entries e.1.siblings in
    let rest = few_in es (second (below_all key_cmp e.0 es) _ sorted) (λ key s found. few key s (found_later key_total key e es s sorted found)) in
    let sum = length-append (siblings_at e.0 e.1.siblings) (all_of es) in
    omega arith

pub few_visible : (states : FinMap key_cmp State) → IsRoomy states → len (visible_in states) ≤ 2 ^ 37
unfolding visible_in
few_visible states roomy =
    let some = len_of_entries (all_of (entries states)) in
    let all = few_in (entries states) (entries_sorted states) (λ key s found. roomy.siblings key s (get-entries states key ∙ found)) in
    let keys = roomy.keys in
    let known = len-entries states in
    omega arith

-- ---- of a set of writes

none_seen : (s : State) → IsValid s → is_empty s.context ≡ true → (dot : DotValue) → get s.siblings dot ≡ None
none_seen s valid none dot = ap (λ (x : State). get x.siblings dot) (state_of_empty s none valid) ∙ get-empty dot_cmp dot

held_sibling : (key : Key) (W : List Write) (dot : DotValue) → sibling_in (held key W) dot ≡ get (siblings key W) dot
held_sibling key W dot = elim (is_empty (context key W)) as (λ b. is_empty (context key W) ≡ b → sibling_in (cond b None (Some (state key W))) dot ≡ get (siblings key W) dot) [
  | true ↦ λ none. sym (none_seen (state key W) (IsValid-state key W) none dot)
  | false ↦ λ _. refl
] refl

pub visible_of_writes : (states : FinMap key_cmp State) (W : List Write) → Stands states W → visible_in states ≡ visible W
visible_of_writes states W stands = same_map spots_total spots_exact _ _ (λ q.
    get-visible_in states q.key q.dot ∙ ap (λ o. sibling_in o q.dot) (stands.at q.key) ∙ held_sibling q.key W q.dot ∙ sym (get-visible W q.key q.dot))
