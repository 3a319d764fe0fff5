-- From standing for one map of key states to standing for the next.
use Rattle.std.proofs.Common.{◌≡◌, ℕ, ◌+◌, ◌-◌, ◌*◌, ◌≤◌, T, List, length, not, cond, sym, ap, ap₂, ◌∙◌, subst, arith}
use Rattle.std.specs.Ordering.{eq_by_cmp}
use Rattle.std.proofs.lemmas.List.{length-map}
use Rattle.std.proofs.lemmas.List.Sums.{length-filter, count_by-le-length}
use Rattle.std.specs.FinMap.{FinMap, find, get, insert, entries, entries_sorted, is_sorted, len, len-entries}
use Rattle.mvd_dots.specs.Dot.{dot_cmp}
use Rattle.mvd_keys.specs.Key.{key_cmp}
use Rattle.mvd_keys.specs.State.{State}
use Rattle.mvd_keys.specs.Writes.{Key}
use Rattle.mvd_rows.specs.Changes.{HasSiblings, differing, is_among, looks_each, not_among, put_in, state_in, taken_out, updates_each}
use Rattle.mvd_rows.specs.Counted.{Within, WithinUpdates}
use Rattle.mvd_rows.specs.Defs.{Definitions}
use Rattle.mvd_rows.specs.Stands.{AreConflictsOf, AreRowsOf, IsRowsOf, definitions_of}
use Rattle.mvd_rows.specs.Visible.{Visible, visible_in}
use Rattle.mvd_rows.specs.declared.changes.Rows.{Rows}
use Rattle.mvd_rows.specs.declared.conflicts.Conflicts.{Conflicts}
use Rattle.mvd_rows.specs.declared.meters.Meter.{Meter}
use Rattle.mvd_rows.proofs.ByKey.{get-changed, siblings_are}
use Rattle.mvd_rows.proofs.Changing.{Pair, changed}
use Rattle.mvd_rows.proofs.Counting.{within_less}

in_order : (s : State) (es : List Pair) → es ≡ entries s.siblings → T (is_sorted dot_cmp es)
in_order s es e = subst (λ x. T (is_sorted dot_cmp x)) (sym e) (entries_sorted s.siblings)

pub has_siblings : (states : FinMap key_cmp State) (key : Key) (old : State) (es : List Pair) → es ≡ entries old.siblings → state_in states key ≡ old → HasSiblings (visible_in states) key es
has_siblings states key old es e is = subst (HasSiblings (visible_in states) key) (sym e) (siblings_are states key old is)

pub stands_after : (rows : Rows) (conflicts : Conflicts) (after : Rows) (defs : Definitions) (states : FinMap key_cmp State) (key : Key) (old new : State) (os ns : List Pair) → os ≡ entries old.siblings → ns ≡ entries new.siblings →
    IsRowsOf rows defs states → state_in states key ≡ old → definitions_of after ≡ definitions_of rows →
    ((visible : Visible) → AreRowsOf rows.indexes.items rows.views.items visible → HasSiblings visible key os →
    AreRowsOf after.indexes.items after.views.items (put_in (taken_out visible key (not_among ns os)) key (not_among os ns))) →
    after.conflicts ≡ conflicts → (AreConflictsOf rows.conflicts states → state_in states key ≡ old → AreConflictsOf conflicts (insert states key new)) → IsRowsOf after defs (insert states key new)
stands_after rows conflicts after defs states key old new os ns old_is new_is stands is same changes kept follows = record {
  defs = same ∙ stands.defs;
  rows = (let has = has_siblings states key old os old_is is in
      subst (AreRowsOf after.indexes.items after.views.items)
      (changed (visible_in states) (visible_in (insert states key new)) key os ns (in_order old os old_is) (in_order new ns new_is) has
      (λ q. get-changed states key new q ∙ ap (λ es. cond (eq_by_cmp key_cmp q.key key) (find dot_cmp q.dot es) (get (visible_in states) q)) (sym new_is)))
      (changes (visible_in states) stands.rows has));
  conflicts = subst (λ cs. AreConflictsOf cs (insert states key new)) (sym kept) (follows stands.conflicts is);
}

dist : (a b each : ℕ) → (a + b) * each ≡ a * each + b * each
dist a b each = grind arith

mul_le : (a b each : ℕ) → a ≤ b → a * each ≤ b * each
mul_le a b each h =
    let e : b ≡ a + (b - a) = omega arith in
    let f = ap (λ n. n * each) e in
    let g = dist a (b - a) each in
    omega arith

few_among : (others es : List Pair) → length (not_among others es) ≤ length es
few_among others es =
    let e = length-filter (λ (x : Pair). not (is_among others x)) es in
    let f = count_by-le-length (λ (x : Pair). not (is_among others x)) es in
    omega arith

few_differ : (old new : State) → differing old new ≤ len old.siblings + len new.siblings
few_differ old new =
    let a = few_among (entries new.siblings) (entries old.siblings) in
    let b = few_among (entries old.siblings) (entries new.siblings) in
    let e = len-entries old.siblings in
    let f = len-entries new.siblings in
    omega arith

one_more : (u l : ℕ) (x y z : Meter) → Within 1 0 x y → Within u l y z → Within (u + 1) l x z
one_more u l x y z is more = record {
  updates = (let e = is.updates in let f = more.updates in omega arith);
  looks = (let e = is.looks in let f = more.looks in omega arith);
  least_updates = (let e = is.least_updates in let f = more.least_updates in omega arith);
  least_looks = (let e = is.least_looks in let f = more.least_looks in omega arith);
}

-- the work of a change: an update of the keys in conflict, and what the siblings cost in which the two states differ
pub differ_within : (old new : State) (os ns : List Pair) (rows : Rows) (x y z : Meter) → os ≡ entries old.siblings → ns ≡ entries new.siblings → Within 1 0 x y →
    Within ((length (not_among ns os) + length (not_among os ns)) * (length rows.indexes.items + 2 * length rows.views.items)) ((length (not_among ns os) + length (not_among os ns)) * (4 * length rows.views.items)) y z →
    Within (differing old new * updates_each (definitions_of rows) + 1) (differing old new * looks_each (definitions_of rows)) x z
differ_within old new os ns rows x y z old_is new_is one h =
    let i : length (definitions_of rows).indexes ≡ length rows.indexes.items = length-map _ _ in
    let v : length (definitions_of rows).views ≡ length rows.views.items = length-map _ _ in
    let d : length (not_among ns os) + length (not_among os ns) ≡ differing old new = ap₂ (λ xs ys. length (not_among ys xs) + length (not_among xs ys)) old_is new_is in
    let updates = ap₂ (λ a b. a * b) d (sums _ _ _ _ i v) in
    let looks = ap₂ (λ a b. a * b) d (ap (λ n. 4 * n) (sym v)) in
    one_more _ _ x y z one (within_less _ _ _ _ y z (same _ _ updates) (same _ _ looks) h)
  where
    sums : (a b m n : ℕ) → a ≡ m → b ≡ n → m + 2 * n ≡ a + 2 * b
    sums a b m n e f = omega arith

    same : (m n : ℕ) → m ≡ n → m ≤ n
    same m n e = omega arith

pub differ_updates : (u l : ℕ) (x y : Meter) → Within u l x y → WithinUpdates u x y
differ_updates u l x y is = record { updates = is.updates; least_updates = is.least_updates; least_looks = is.least_looks }

pub most_updates : (old new : State) (u l : ℕ) (x y : Meter) → Within (differing old new * u + 1) l x y → WithinUpdates ((len old.siblings + len new.siblings) * u + 1) x y
most_updates old new u l x y is = record {
  updates = more _ _ _ _ (mul_le (differing old new) (len old.siblings + len new.siblings) u (few_differ old new)) is.updates;
  least_updates = is.least_updates;
  least_looks = is.least_looks;
}
  where
    more : (x y a m : ℕ) → a ≤ m → y ≤ x + (a + 1) → y ≤ x + (m + 1)
    more x y a m h e = omega arith
