-- What stands at a key is of the key's own writes; the maps that stand for writes.
use Rattle.std.proofs.Common.{◌≡◌, true, false, not, T, cond, List, [], ◌∷◌, ◌++◌, map, filter_map, Option, Some, None, refl, sym, ap, ◌∙◌, append-nil, true≢false}
use Rattle.std.specs.Ordering.{eq_by_cmp, is_lt}
use Rattle.std.specs.FinMap.{FinMap, get, entries, entries_sorted, is_sorted, find, from_entries, get-entries, retain_keys, same_map}
use Rattle.std.specs.FinMap.Entries.{below_all}
use Rattle.std.specs.FinSet.{contains, from_list, union}
use Rattle.mvd_keys.specs.Key.{key_cmp}
use Rattle.mvd_keys.specs.State.{IsValid, State}
use Rattle.mvd_keys.specs.Writes.{Key, Agree, AreOf, SameWrites, Stands, Write, context, context_of, covered, held, is_empty, key_of, put_of, siblings, state, union_all, writes_for, writes_of}
use Rattle.mvd_keys.proofs.KeyOrder.{key_total, key_antisymmetric, same_where_tied, tied_itself_key}
use Rattle.mvd_keys.proofs.Held.{below_apart, and_left, and_right, held_none}
use Rattle.mvd_keys.proofs.Sets.{AreOf-writes_for, state-SameWrites, state-writes_for}
use Rattle.mvd_keys.proofs.StatesOfWrites.{writes_of-append, writes_of_other, writes_of_own}

-- ---- the key's own writes

pub AreOf-writes_of : (key : Key) (W : List Write) → AreOf key (writes_of key W)
AreOf-writes_of key [] = tt
AreOf-writes_of key (w ∷ W) = elim (eq_by_cmp key_cmp key (key_of w)) as (λ b. eq_by_cmp key_cmp key (key_of w) ≡ b → AreOf key (cond b (w ∷ writes_of key W) (writes_of key W))) [
  | true ↦ λ tied. (sym (same_where_tied key (key_of w) tied), AreOf-writes_of key W)
  | false ↦ λ _. AreOf-writes_of key W
] refl

pub writes_of_twice : (key : Key) (W : List Write) → writes_of key (writes_of key W) ≡ writes_of key W
writes_of_twice key W = writes_of_own key (writes_of key W) (AreOf-writes_of key W)

-- the same writes of the key make the same state there
pub state-same_writes_of : (key : Key) (V W : List Write) → writes_of key V ≡ writes_of key W → state key V ≡ state key W
unfolding covered context siblings
state-same_writes_of key V W same = ap (λ ws. record {
  siblings = retain_keys (from_entries (filter_map put_of ws)) (λ dot. not (contains (union_all (map context_of ws)) dot));
  context = union (union_all (map context_of ws)) (from_list (map (λ put. put.0) (filter_map put_of ws)));
}) same

pub state-own : (key : Key) (W : List Write) → state key W ≡ state key (writes_of key W)
state-own key W = sym (state-same_writes_of key (writes_of key W) W (writes_of_twice key W))

pub held-same : (key : Key) (V W : List Write) → state key V ≡ state key W → held key V ≡ held key W
held-same key V W same = ap (λ (s : State). cond (is_empty s.context) None (Some s)) same

-- ---- one map for a set of writes

pub Stands-SameWrites : (m : FinMap key_cmp State) (V W : List Write) → Stands m V → SameWrites V W → Agree V → Stands m W
Stands-SameWrites m V W stands same agree = record { at = λ key. stands.at key ∙ held-same key V W (state-SameWrites key V W same agree) }

pub Stands-one : (m n : FinMap key_cmp State) (W : List Write) → Stands m W → Stands n W → m ≡ n
Stands-one m n W one other = same_map key_total key_antisymmetric m n (λ key. one.at key ∙ sym (other.at key))

-- ---- a set of writes for a map

abbrev Entry : Type 0
Entry = Key × State

abbrev IsSeen : State → Type 0
IsSeen s = IsValid s × (is_empty s.context ≡ false)

-- those for each state
abbrev pub writes_for_all : List Entry → List Write
writes_for_all [] = []
writes_for_all (e ∷ es) = writes_for e.0 e.1 ++ writes_for_all es

-- a key below all is found nowhere, and none of the writes is of it
find_below : (key : Key) (es : List Entry) → T (below_all key_cmp key es) → find key_cmp key es ≡ None
find_below key [] h = refl
find_below key (e ∷ es) h =
    ap (λ b. cond b (Some e.1) (find key_cmp key es)) (below_apart (key_cmp key e.0) (and_left _ _ h)) ∙ find_below key es (and_right (is_lt (key_cmp key e.0)) _ h)

apart_keys : (key other : Key) → eq_by_cmp key_cmp key other ≡ false → key ≡ other → ⊥
apart_keys key other apart e = true≢false (sym (tied_itself_key key) ∙ ap (eq_by_cmp key_cmp key) e ∙ apart)

skip_first : (key : Key) (e : Entry) (es : List Entry) → eq_by_cmp key_cmp key e.0 ≡ false → writes_of key (writes_for_all (e ∷ es)) ≡ writes_of key (writes_for_all es)
skip_first key e es apart =
    writes_of-append key (writes_for e.0 e.1) (writes_for_all es)
    ∙ ap (λ ws. ws ++ writes_of key (writes_for_all es)) (writes_of_other key e.0 (writes_for e.0 e.1) (apart_keys key e.0 apart) (AreOf-writes_for e.0 e.1))

none_below : (key : Key) (es : List Entry) → T (below_all key_cmp key es) → writes_of key (writes_for_all es) ≡ []
none_below key [] h = refl
none_below key (e ∷ es) h = skip_first key e es (below_apart (key_cmp key e.0) (and_left _ _ h)) ∙ none_below key es (and_right (is_lt (key_cmp key e.0)) _ h)

-- of rising entries only the first is of the first key
take_first : (e : Entry) (es : List Entry) → T (below_all key_cmp e.0 es) → writes_of e.0 (writes_for_all (e ∷ es)) ≡ writes_for e.0 e.1
take_first e es h =
    writes_of-append e.0 (writes_for e.0 e.1) (writes_for_all es)
    ∙ (λ i. writes_of_own e.0 (writes_for e.0 e.1) (AreOf-writes_for e.0 e.1) i ++ none_below e.0 es h i)
    ∙ append-nil (writes_for e.0 e.1)

first_held : (e : Entry) (es : List Entry) → T (below_all key_cmp e.0 es) → IsSeen e.1 → held e.0 (writes_for_all (e ∷ es)) ≡ Some e.1
first_held e es h seen =
    let is : state e.0 (writes_for_all (e ∷ es)) ≡ e.1 =
    state-same_writes_of e.0 (writes_for_all (e ∷ es)) (writes_for e.0 e.1) (take_first e es h ∙ sym (writes_of_own e.0 (writes_for e.0 e.1) (AreOf-writes_for e.0 e.1)))
    ∙ state-writes_for e.0 e.1 seen.0 in
    ap (λ (s : State). cond (is_empty s.context) None (Some s)) is ∙ ap (λ b. cond b None (Some e.1)) seen.1

no_state : (s : State) → ◌≡◌ {A = Option State} None (Some s) → ⊥
no_state s e = cc

-- what is found in the rest is found in the whole
find_later : (e : Entry) (es : List Entry) → T (below_all key_cmp e.0 es) → (key : Key) (s : State) → find key_cmp key es ≡ Some s → find key_cmp key (e ∷ es) ≡ Some s
find_later e es h key s found = elim (eq_by_cmp key_cmp key e.0) as (λ b. eq_by_cmp key_cmp key e.0 ≡ b → cond b (Some e.1) (find key_cmp key es) ≡ Some s) [
  | true ↦ λ tied. absurd (no_state s (sym (find_below e.0 es h) ∙ ap (λ k. find key_cmp k es) (sym (same_where_tied key e.0 tied)) ∙ found))
  | false ↦ λ _. found
] refl

find_first : (e : Entry) (es : List Entry) → find key_cmp e.0 (e ∷ es) ≡ Some e.1
find_first e es = ap (λ b. cond b (Some e.1) (find key_cmp e.0 es)) (tied_itself_key e.0)

found_held : (es : List Entry) → T (is_sorted key_cmp es) → ((key : Key) (s : State) → find key_cmp key es ≡ Some s → IsSeen s) → (key : Key) → find key_cmp key es ≡ held key (writes_for_all es)
found_held [] rises seen key = sym (held_none key)
found_held (e ∷ es) rises seen key =
    let below : T (below_all key_cmp e.0 es) = and_left _ _ rises in
    let rest : T (is_sorted key_cmp es) = and_right (below_all key_cmp e.0 es) _ rises in
    elim (eq_by_cmp key_cmp key e.0) as (λ b. eq_by_cmp key_cmp key e.0 ≡ b → cond b (Some e.1) (find key_cmp key es) ≡ held key (writes_for_all (e ∷ es))) [
      | true ↦ λ tied. sym (ap (λ k. held k (writes_for_all (e ∷ es))) (same_where_tied key e.0 tied) ∙ first_held e es below (seen e.0 e.1 (find_first e es)))
      | false ↦ λ apart.
          found_held es rest (λ k s found. seen k s (find_later e es below k s found)) key
          ∙ held-same key (writes_for_all es) (writes_for_all (e ∷ es)) (state-same_writes_of key (writes_for_all es) (writes_for_all (e ∷ es)) (sym (skip_first key e es apart)))
    ] refl

-- each map of valid states that have seen a dot stands for a set of writes
pub Stands-for : (m : FinMap key_cmp State) → ((key : Key) (s : State) → get m key ≡ Some s → IsSeen s) → (W : List Write) × Stands m W
Stands-for m seen = (
  writes_for_all (entries m),
  record { at = λ key. get-entries m key ∙ found_held (entries m) (entries_sorted m) (λ k s found. seen k s (get-entries m k ∙ found)) key },
)
