-- The keys that begin with a prefix stand together: in order, they are those from the prefix on, until the first that does not begin with it.
use Rattle.std.proofs.Common.{◌≡◌, ◌^◌, append_assoc, ◌≤◌, ℕ, suc, nat_le, nat_lt, Bool, true, false, ◌&&◌, ◌==◌, eqb-true, eq-eqb, lt-ltb, Result, Ok, Err, cond, if◌then◌else◌, List, [], ◌∷◌, ◌++◌, map, filter, length, take, Option, Some, None, refl, sym, ap, ◌∙◌, subst, true≢false, arith, Ordering, Less, Equal, Greater, T}
use Rattle.std.proofs.lemmas.List.{length-map}
use Rattle.std.specs.List.{AllByRecursion, list_all}
use Rattle.std.specs.List.Sorted.{IsStrictlySortedBy}
use Rattle.std.specs.Map.{keys_of}
use Rattle.std.specs.Ordering.{is_gt, is_le, is_lt, nat_cmp, ordering_reverse, ordering_then}
use Rattle.std.specs.Cmp.{nat_cmp_total, tied_itself}
use Rattle.std.specs.FinMap.{FinMap, entries, entries_sorted, from_entries, get, get-entries, get-from_entries, is_sorted, len, len-entries, nat_cmp-IsAntisymmetric}
use Rattle.std.specs.FinMap.Entries.{below_all, same_entries}
use Rattle.std.specs.BTreeMap.Range.{entries_between, is_from_start, range_contains}
use Rattle.std.specs.declared.ops.Bound.{Bound}
use Rattle.std.specs.declared.ops.Bound.TheVariants.{Unbounded}
use Rattle.mvd_docs.specs.Name.{is_graphic}
use Rattle.mvd_dots.specs.declared.refusals.Refusal.{Refusal}
use Rattle.mvd_dots.specs.declared.refusals.Refusal.TheVariants.{BadKey}
use Rattle.mvd_keys.specs.Key.{key_cmp, key_of_text}
use Rattle.mvd_keys.specs.State.{State, pairs_of}
use Rattle.mvd_keys.specs.declared.siblings.Sibling.{Sibling}
use Rattle.mvd_keys.specs.Writes.{Key}
use Rattle.mvd_keys.proofs.KeyOrder.{key_antisymmetric, key_total}
use Rattle.mvd_rows.specs.Siblings.{begins_with, is_after_key, keys_answer, sibling_count, sibling_counts}
use Rattle.mvd_rows.specs.Pages.{IsPageOf}
use Rattle.mvd_tree.proofs.KeyDigests.{Each, got_each}
use Rattle.mvd_wire.specs.Prefix.{is_prefix}
use Rattle.mvd_kept.specs.Held.{AreHeld, States}
use Rattle.mvd_kept.specs.Walk.{first_of, is_at_prefix, walk_start, while_begins}
use Rattle.mvd_kept.proofs.Room.{few_siblings}

abbrev Entry : Type 0
Entry = Key × State

-- ---- by one letter

both_are : (a b : Bool) → T a → T b → T (a && b)
both_are true b h k = k
both_are false b h k = h

both_true : (a b : Bool) → (a && b) ≡ true → (a ≡ true) × (b ≡ true)
both_true true true h = (refl, refl)
both_true true false h = absurd (true≢false (sym h))
both_true false b h = absurd (true≢false (sym h))

-- from a letter to it again there is no other
heads : (b c : ℕ) (x y : Ordering) → is_gt (ordering_then (nat_cmp b c) x) ≡ false → is_gt (ordering_then (nat_cmp c b) y) ≡ false → (b ≡ c) × (is_gt x ≡ false) × (is_gt y ≡ false)
heads b c x y low high =
    elim (nat_cmp b c) as (λ r. nat_cmp b c ≡ r → is_gt (ordering_then r x) ≡ false → is_gt (ordering_then (ordering_reverse r) y) ≡ false → (b ≡ c) × (is_gt x ≡ false) × (is_gt y ≡ false)) [
      | Less ↦ λ is l h. absurd (true≢false h)
      | Equal ↦ λ is l h. (nat_cmp-IsAntisymmetric b c is, l, h)
      | Greater ↦ λ is l h. absurd (true≢false l)
    ] refl low (subst (λ r. is_gt (ordering_then r y) ≡ false) (nat_cmp_total.antisymm c b) high)

-- ---- a prefix and a key

-- what stands from a prefix to a key that begins with it, begins with it
between_begins : (prefix key other : List ℕ) → begins_with prefix other ≡ true → is_gt (key_cmp prefix key) ≡ false → is_gt (key_cmp key other) ≡ false → begins_with prefix key ≡ true
between_begins [] key other is low high = refl
between_begins (b ∷ prefix) [] other is low high = absurd (true≢false low)
between_begins (b ∷ prefix) (c ∷ key) [] is low high = absurd (true≢false (sym is))
between_begins (b ∷ prefix) (c ∷ key) (d ∷ other) is low high =
    let rest : ((b == d) ≡ true) × (begins_with prefix other ≡ true) = both_true (b == d) (begins_with prefix other) is in
    let here = heads b c (key_cmp prefix key) (key_cmp key other) low (subst (λ n. is_gt (ordering_then (nat_cmp c n) (key_cmp key other)) ≡ false) (sym (eqb-true b d rest.0)) high) in
    ap (λ t. (b == c) && t) (between_begins prefix key other rest.1 here.1 here.2) ∙ ap (λ t. t && true) (eq-eqb b c here.0)

-- a key stands not before what it begins with
begins_low : (prefix key : List ℕ) → begins_with prefix key ≡ true → is_gt (key_cmp prefix key) ≡ false
begins_low [] [] is = refl
begins_low [] (c ∷ key) is = refl
begins_low (b ∷ prefix) [] is = absurd (true≢false (sym is))
begins_low (b ∷ prefix) (c ∷ key) is =
    let rest : ((b == c) ≡ true) × (begins_with prefix key ≡ true) = both_true (b == c) (begins_with prefix key) is in
    ap (λ n. is_gt (ordering_then (nat_cmp b n) (key_cmp prefix key))) (sym (eqb-true b c rest.0))
    ∙ ap (λ r. is_gt (ordering_then r (key_cmp prefix key))) (tied_itself nat_cmp_total b) ∙ begins_low prefix key rest.1

-- ---- a prefix as a key

low_is_some : (after prefix : List ℕ) → is_lt (key_cmp after prefix) ≡ true → nat_lt 0 (length prefix) ≡ true
low_is_some [] [] is = absurd (true≢false (sym is))
low_is_some (b ∷ after) [] is = absurd (true≢false (sym is))
low_is_some after (c ∷ prefix) is = lt-ltb 0 (suc (length prefix)) (omega arith)

-- a prefix at which a walk begins has a letter
pub begins_some : (prefix : List ℕ) (after : Option Key) → is_at_prefix prefix after ≡ true → nat_lt 0 (length prefix) ≡ true
begins_some prefix None is = is
begins_some prefix (Some after) is = low_is_some after prefix is

-- and so it is a key
pub prefix_is_key : (prefix : List ℕ) → is_prefix prefix ≡ true → nat_lt 0 (length prefix) ≡ true → key_of_text prefix ≡ Ok prefix
prefix_is_key prefix is some =
    let both = both_true (nat_le (length prefix) 128) (list_all is_graphic prefix) is in
    λ i. if some i && both.0 i && both.1 i then Ok prefix else Err BadKey

-- ---- the walk

not_gt : (r : Ordering) → is_le r ≡ true → is_gt r ≡ false
not_gt Less h = refl
not_gt Equal h = refl
not_gt Greater h = absurd (true≢false (sym h))

le_is : (r : Ordering) → is_gt r ≡ false → is_le r ≡ true
le_is Less h = refl
le_is Equal h = refl
le_is Greater h = absurd (true≢false h)

less_is : (r : Ordering) → is_lt r ≡ true → r ≡ Less
less_is Less h = refl
less_is Equal h = absurd (true≢false (sym h))
less_is Greater h = absurd (true≢false (sym h))

-- below, and not after, is below
below_low : (a b c : List ℕ) → key_cmp a b ≡ Less → is_gt (key_cmp b c) ≡ false → key_cmp a c ≡ Less
below_low a b c first second =
    elim (key_cmp b c) as (λ r. key_cmp b c ≡ r → is_gt r ≡ false → key_cmp a c ≡ Less) [
      | Less ↦ λ is _. key_total.trans a b c first is
      | Equal ↦ λ is _. subst (λ x. key_cmp a x ≡ Less) (key_antisymmetric b c is) first
      | Greater ↦ λ _ h. absurd (true≢false h)
    ] refl second

-- from where the walk begins, only keys that stand from the prefix on
low_empty : (prefix key : List ℕ) → nat_lt 0 (length prefix) ≡ false → is_gt (key_cmp prefix key) ≡ false
low_empty [] [] none = refl
low_empty [] (b ∷ key) none = refl
low_empty (b ∷ prefix) key none = absurd (true≢false (sym (lt-ltb 0 (suc (length prefix)) (omega arith)) ∙ none))

low_after : (prefix key after : List ℕ) → is_lt (key_cmp after prefix) ≡ false → is_lt (key_cmp after key) ≡ true → is_gt (key_cmp prefix key) ≡ false
low_after prefix key after late is =
    elim (key_cmp prefix key) as (λ r. key_cmp prefix key ≡ r → is_gt r ≡ false) [
      | Less ↦ λ _. refl
      | Equal ↦ λ _. refl
      | Greater ↦ λ beyond. absurd (true≢false
          (sym (ap is_lt (key_total.trans after key prefix (less_is _ is) (key_total.antisymm key prefix ∙ ap ordering_reverse beyond))) ∙ late))
    ] refl

from_low : (prefix key : List ℕ) (after : Option Key) → is_from_start key_cmp (walk_start (first_of prefix after) after) key ≡ true → is_gt (key_cmp prefix key) ≡ false
from_low prefix key None is =
    elim (nat_lt 0 (length prefix)) as (λ b. nat_lt 0 (length prefix) ≡ b → is_from_start key_cmp (walk_start (if b then Some prefix else None) None) key ≡ true → is_gt (key_cmp prefix key) ≡ false) [
      | true ↦ λ _ from. not_gt (key_cmp prefix key) from
      | false ↦ λ none _. low_empty prefix key none
    ] refl is
from_low prefix key (Some after) is =
    elim (is_lt (key_cmp after prefix)) as (λ b. is_lt (key_cmp after prefix) ≡ b → is_from_start key_cmp (walk_start (if b then Some prefix else None) (Some after)) key ≡ true → is_gt (key_cmp prefix key) ≡ false) [
      | true ↦ λ _ from. not_gt (key_cmp prefix key) from
      | false ↦ λ late from. low_after prefix key after late from
    ] refl is

-- of those that begin with the prefix, it begins with the first that is after the key
from_after : (prefix key : List ℕ) (after : Option Key) → begins_with prefix key ≡ true → is_from_start key_cmp (walk_start (first_of prefix after) after) key ≡ is_after_key after key
from_after prefix key None is =
    elim (nat_lt 0 (length prefix)) as (λ b. is_from_start key_cmp (walk_start (if b then Some prefix else None) None) key ≡ true) [
      | true ↦ le_is _ (begins_low prefix key is)
      | false ↦ refl
    ]
from_after prefix key (Some after) is =
    elim (is_lt (key_cmp after prefix)) as (λ b. is_lt (key_cmp after prefix) ≡ b → is_from_start key_cmp (walk_start (if b then Some prefix else None) (Some after)) key ≡ is_lt (key_cmp after key)) [
      | true ↦ λ before. le_is _ (begins_low prefix key is) ∙ sym (ap is_lt (below_low after prefix key (less_is _ before) (begins_low prefix key is)))
      | false ↦ λ _. refl
    ] refl

abbrev wanted : List ℕ → Option Key → Entry → Bool
wanted prefix after e = begins_with prefix e.0 && is_after_key after e.0

-- beyond a key that does not begin with it, none does
not_beyond : (prefix key other : List ℕ) → key_cmp key other ≡ Less → is_gt (key_cmp prefix key) ≡ false → begins_with prefix key ≡ false → begins_with prefix other ≡ false
not_beyond prefix key other below low is =
    elim (begins_with prefix other) as (λ b. begins_with prefix other ≡ b → b ≡ false) [
      | true ↦ λ also. absurd (true≢false (sym (between_begins prefix key other also low (ap is_gt below)) ∙ is))
      | false ↦ λ _. refl
    ] refl

none_beyond : (prefix : List ℕ) (after : Option Key) (key : Key) (es : List Entry) → AllByRecursion (λ k. key_cmp key k ≡ Less) (keys_of es) → is_gt (key_cmp prefix key) ≡ false → begins_with prefix key ≡ false → filter (wanted prefix after) es ≡ []
none_beyond prefix after key [] all low is = refl
none_beyond prefix after key (e ∷ es) all low is =
    ap (λ b. cond (b && is_after_key after e.0) (e ∷ filter (wanted prefix after) es) (filter (wanted prefix after) es)) (not_beyond prefix key e.0 all.0 low is)
    ∙ none_beyond prefix after key es all.1 low is

-- the keys that begin with a prefix and stand after a key, are those from the start of the walk on, until the first that does not begin with it
walked : (prefix : List ℕ) (after : Option Key) (es : List Entry) → IsStrictlySortedBy key_cmp (keys_of es) →
    while_begins prefix (entries_between key_cmp (walk_start (first_of prefix after) after) Unbounded es) ≡ map sibling_count (filter (wanted prefix after) es)
unfolding IsStrictlySortedBy
walked prefix after [] sorted = refl
walked prefix after (e ∷ es) sorted =
    let rest = walked prefix after es sorted.1 in
    let from = is_from_start key_cmp (walk_start (first_of prefix after) after) e.0 in
    let later = entries_between key_cmp (walk_start (first_of prefix after) after) Unbounded es in
    let kept = filter (wanted prefix after) es in
    elim (begins_with prefix e.0) as (λ b. begins_with prefix e.0 ≡ b → while_begins prefix (cond (from && true) (e ∷ later) later) ≡ map sibling_count (cond (b && is_after_key after e.0) (e ∷ kept) kept)) [
      | true ↦ λ is. ap (λ f. while_begins prefix (cond (f && true) (e ∷ later) later)) (from_after prefix e.0 after is)
          ∙ elim (is_after_key after e.0) as (λ a. while_begins prefix (cond (a && true) (e ∷ later) later) ≡ map sibling_count (cond a (e ∷ kept) kept)) [
            | true ↦ ap (λ b. if b then sibling_count e ∷ while_begins prefix later else []) is ∙ ap (λ l. sibling_count e ∷ l) rest
            | false ↦ rest
          ]
      | false ↦ λ is. elim from as (λ f. from ≡ f → while_begins prefix (cond (f && true) (e ∷ later) later) ≡ map sibling_count kept) [
        | true ↦ λ low. ap (λ b. if b then sibling_count e ∷ while_begins prefix later else []) is ∙ sym (ap (map sibling_count) (none_beyond prefix after e.0 es sorted.0 (from_low prefix e.0 after low) is))
        | false ↦ λ _. rest
      ] refl
    ] refl

-- so it is not refused
pub never_refused : {P : Type 0} (prefix : List ℕ) (after : Option Key) (text : List ℕ) (refusal : Refusal) → text ≡ prefix → is_prefix prefix ≡ true → is_at_prefix prefix after ≡ true → key_of_text text ≡ Err refusal → P
never_refused prefix after text refusal same is at refused =
    let wrong : ◌≡◌ {A = Result (List ℕ) Refusal} (Ok prefix) (Err refusal) = sym (prefix_is_key prefix is (begins_some prefix after at)) ∙ ap key_of_text (sym same) ∙ refused in
    absurd (cc wrong)

-- ---- as the map of the states has it

less_keys : (key : Key) (es : List Entry) → AllByRecursion (λ k. key_cmp key k ≡ Less) (keys_of es) → T (below_all key_cmp key es)
less_keys key [] all = tt
less_keys key (e ∷ es) all = both_are _ _ (subst (λ r. T (is_lt r)) (sym all.0) tt) (less_keys key es all.1)

rising : (es : List Entry) → IsStrictlySortedBy key_cmp (keys_of es) → T (is_sorted key_cmp es)
unfolding IsStrictlySortedBy
rising [] sorted = tt
rising (e ∷ es) sorted = both_are _ _ (less_keys e.0 es sorted.0) (rising es sorted.1)

-- the entries of a map that is kept in order are those that are kept
pub entries_kept : (es : List Entry) → IsStrictlySortedBy key_cmp (keys_of es) → entries (from_entries {R = key_cmp} es) ≡ es
entries_kept es sorted =
    same_entries key_cmp key_total key_antisymmetric (entries (from_entries {R = key_cmp} es)) es (entries_sorted (from_entries es)) (rising es sorted)
    (λ q. sym (get-entries (from_entries {R = key_cmp} es) q) ∙ get-from_entries key_total es q)

wanted_counts : (prefix : List ℕ) (after : Option Key) (es : List Entry) →
    map sibling_count (filter (wanted prefix after) es) ≡ filter (λ (c : Key × ℕ). begins_with prefix c.0 && is_after_key after c.0) (map sibling_count es)
wanted_counts prefix after [] = refl
wanted_counts prefix after (e ∷ es) =
    elim (wanted prefix after e) as (λ b. map sibling_count (cond b (e ∷ filter (wanted prefix after) es) (filter (wanted prefix after) es))
    ≡ cond b (sibling_count e ∷ filter (λ (c : Key × ℕ). begins_with prefix c.0 && is_after_key after c.0) (map sibling_count es)) (filter (λ (c : Key × ℕ). begins_with prefix c.0 && is_after_key after c.0) (map sibling_count es))) [
      | true ↦ ap (λ l. sibling_count e ∷ l) (wanted_counts prefix after es)
      | false ↦ wanted_counts prefix after es
    ]

-- a page of what is walked is a page of the keys
pub keys_page : (prefix : List ℕ) (after : Option Key) (es : List Entry) (m : FinMap key_cmp State) (page : List (Key × ℕ)) (more : Bool) → IsStrictlySortedBy key_cmp (keys_of es) → from_entries es ≡ m →
    IsPageOf (while_begins prefix (entries_between key_cmp (walk_start (first_of prefix after) after) Unbounded (entries m))) page more →
    keys_answer m prefix after ≡ (page, more)
unfolding sibling_counts
keys_page prefix after es m page more sorted is taken =
    let are : entries m ≡ es = ap (λ n. entries n) (sym is) ∙ entries_kept es sorted in
    let all = ap (λ l. while_begins prefix (entries_between key_cmp (walk_start (first_of prefix after) after) Unbounded l)) are ∙ walked prefix after es sorted
    ∙ wanted_counts prefix after es ∙ ap (λ l. filter (λ (c : Key × ℕ). begins_with prefix c.0 && is_after_key after c.0) (map sibling_count l)) (sym are) in
    let first = taken.first ∙ ap (take 1000) all in
    let left = taken.left ∙ ap (λ l. nat_lt 1000 (length l)) all in
    λ i. (sym first i, sym left i)

-- ---- one by one

-- so many siblings are counted
abbrev pub IsCountable : Entry → Type 0
IsCountable e = len e.1.siblings ≤ 2 ^ 17

pub walk_ends : (prefix : List ℕ) (rest : List Entry) → rest ≡ [] → while_begins prefix rest ≡ []
walk_ends prefix rest none = ap (while_begins prefix) none

pub walk_beyond : (prefix : List ℕ) (rest more : List Entry) (key : Key) (s : State) → rest ≡ (key, s) ∷ more → begins_with prefix key ≡ false → while_begins prefix rest ≡ []
walk_beyond prefix rest more key s is beyond = ap (while_begins prefix) is ∙ ap (λ b. if b then sibling_count (key, s) ∷ while_begins prefix more else []) beyond

pub walk_more : (prefix : List ℕ) (rest more : List Entry) (key : Key) (s : State) → rest ≡ (key, s) ∷ more → begins_with prefix key ≡ true → while_begins prefix rest ≡ (key, len s.siblings) ∷ while_begins prefix more
walk_more prefix rest more key s is begin = ap (while_begins prefix) is ∙ ap (λ b. if b then sibling_count (key, s) ∷ while_begins prefix more else []) begin

pub one_more : (all taken left new : List (Key × ℕ)) (item copied : Key × ℕ) (more : List (Key × ℕ)) → all ≡ taken ++ left → left ≡ item ∷ more → new ≡ taken ++ copied ∷ [] → item ≡ copied → all ≡ new ++ more
one_more all taken left new item copied more e f g h = e ∙ ap (λ xs. taken ++ xs) (f ∙ ap (λ m. m ∷ more) h) ∙ sym (append_assoc taken (copied ∷ []) more) ∙ ap (λ xs. xs ++ more) (sym g)

pub more_left : (prefix : List ℕ) (rest more : List Entry) (key : Key) (s : State) (b : Bool) → rest ≡ (key, s) ∷ more → begins_with prefix key ≡ b → b ≡ nat_lt 0 (length (while_begins prefix rest))
more_left prefix rest more key s true is begin = sym (ap (λ xs. nat_lt 0 (length xs)) (walk_more prefix rest more key s is begin) ∙ lt-ltb 0 (suc (length (while_begins prefix more))) (omega arith))
more_left prefix rest more key s false is beyond = sym (ap (λ xs. nat_lt 0 (length xs)) (walk_beyond prefix rest more key s is beyond))

-- ---- what is counted

each_filtered : (P : Entry → Type 0) (p : Entry → Bool) (es : List Entry) → AllByRecursion P es → AllByRecursion P (filter p es)
each_filtered P p [] all = tt
each_filtered P p (e ∷ es) all =
    elim (p e) as (λ b. AllByRecursion P (cond b (e ∷ filter p es) (filter p es))) [ true ↦ (all.0, each_filtered P p es all.1) | false ↦ each_filtered P p es all.1 ]

each_countable : (m : States) → AreHeld m → (es : List Entry) → Each (λ e. get m e.0 ≡ Some e.1) es → AllByRecursion IsCountable es
each_countable m held [] got = tt
each_countable m held (e ∷ es) got = (few_siblings e.1 (held.held e.0 e.1 got.0).short, each_countable m held es got.1)

-- where the walk begins
pub walk_begins : (prefix : List ℕ) (after : Option Key) (es rest : List Entry) (m : States) (start : Bound Key) → IsStrictlySortedBy key_cmp (keys_of es) → from_entries es ≡ m →
    start ≡ walk_start (first_of prefix after) after → rest ≡ entries_between key_cmp start Unbounded es → rest ≡ entries_between key_cmp (walk_start (first_of prefix after) after) Unbounded (entries m)
walk_begins prefix after es rest m start sorted is at taken =
    let are : es ≡ entries m = sym (entries_kept es sorted) ∙ ap (λ n. entries n) is in
    taken ∙ (λ i. entries_between key_cmp (at i) Unbounded (are i))

pub walk_countable : (m : States) (start : Bound Key) (rest : List Entry) → AreHeld m → rest ≡ entries_between key_cmp start Unbounded (entries m) → AllByRecursion IsCountable rest
walk_countable m start rest held is =
    subst (AllByRecursion IsCountable) (sym is) (each_filtered IsCountable (λ e. range_contains key_cmp start Unbounded e.0) (entries m) (each_countable m held (entries m) (got_each key_total m)))

pub walk_rest : (rest more : List Entry) (key : Key) (s : State) → rest ≡ (key, s) ∷ more → AllByRecursion IsCountable rest → (len s.siblings ≤ 2 ^ 17) × AllByRecursion IsCountable more
walk_rest rest more key s is all = let both = subst (AllByRecursion IsCountable) is all in (both.0, both.1)

pub as_many : (siblings : List Sibling) (s : State) → pairs_of siblings ≡ entries s.siblings → length siblings ≡ len s.siblings
as_many siblings s are = sym (length-map siblings _) ∙ ap length are ∙ sym (len-entries s.siblings)
