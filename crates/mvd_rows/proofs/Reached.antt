-- How far the siblings of a key went, or came.
use Rattle.std.proofs.Common.{◌≡◌, ℕ, suc, ◌<◌, drop, get_or, ◌+◌, ◌*◌, ◌≤◌, true, false, not, T, cond, List, [], ◌∷◌, length, Some, None, refl, sym, ap, ◌∙◌, subst, arith}
use Rattle.std.proofs.lemmas.List.{at_drop_more, drop_all}
use Rattle.std.specs.Ordering.{eq_by_cmp}
use Rattle.std.specs.FinMap.{get, find, remove, len, is_sorted, get-insert, get-remove}
use Rattle.mvd_dots.specs.Dot.{dot_cmp}
use Rattle.mvd_dots.proofs.Sets.{dot_total}
use Rattle.mvd_keys.specs.State.{Text, pair_of, pairs_of}
use Rattle.mvd_keys.specs.Writes.{Key}
use Rattle.mvd_keys.specs.declared.siblings.Sibling.{Sibling}
use Rattle.mvd_keys.proofs.Lists.{tied_itself_dot}
use Rattle.mvd_rows.specs.Changes.{CanMove, before, growth, is_among, moved, moved_all, not_among, taken_out}
use Rattle.mvd_rows.specs.Marks.{spot_cmp, spots_total}
use Rattle.mvd_rows.specs.Stands.{AreRowsOf}
use Rattle.mvd_rows.specs.Visible.{Visible, spot}
use Rattle.mvd_rows.specs.declared.changes.Rows.{Rows}
use Rattle.mvd_rows.specs.declared.marks.Spot.{Spot}
use Rattle.mvd_rows.specs.declared.moves.Way.{Way}
use Rattle.mvd_rows.specs.declared.moves.Way.TheVariants.{Comes, Goes}
use Rattle.mvd_rows.proofs.Changing.{Pair, len-come, len-gone}
use Rattle.mvd_rows.proofs.Sorted.{found_later, later_apart}
use Rattle.mvd_rows.proofs.Spots.{of_one_key}

-- the rows stand for what is visible now, and what is left can move
pub record Moving (way : Way) (rows : Rows) (key : Key) (others rest : List Pair) (most : ℕ) (aim : Visible) : Type 0 where
  pub now : Visible
  pub are : AreRowsOf rows.indexes.items rows.views.items now
  pub few : len now + growth way (length rest) ≤ most
  pub can : CanMove way now key others rest
  pub aims : moved_all way now key (not_among others rest) ≡ aim

pub moving_starts : (way : Way) (rows : Rows) (visible : Visible) (key : Key) (others all : List Pair) → AreRowsOf rows.indexes.items rows.views.items visible → CanMove way visible key others all →
    Moving way rows key others all (len visible + growth way (length all)) (moved_all way visible key (not_among others all))
moving_starts way rows visible key others all are can = record { now = visible; are = are; few = omega arith; can = can; aims = refl }

-- the next sibling, and the rest
pub next_is : (siblings : List Sibling) (i : ℕ) (x : Sibling) → i < length siblings → x ≡ get_or siblings i x → pairs_of (drop i siblings) ≡ pair_of x ∷ pairs_of (drop (i + 1) siblings)
next_is siblings i x h e = at_drop_more pairs_of siblings i x h ∙ ap (λ y. pair_of y ∷ pairs_of (drop (i + 1) siblings)) (sym e)

pub none_left : (siblings : List Sibling) (i : ℕ) → length siblings ≤ i → pairs_of (drop i siblings) ≡ []
none_left siblings i h = ap pairs_of (drop_all i siblings h)

-- at the spot of the first of the rest stands what must stand there
pub moving_first : (way : Way) (rows : Rows) (key : Key) (others : List Pair) (x : Pair) (rest : List Pair) (most : ℕ) (aim : Visible) (m : Moving way rows key others (x ∷ rest) most aim) → is_among others x ≡ false →
    get m.now (spot key x.0) ≡ before way x.1
moving_first way rows key others x rest most aim m apart = m.can.at x.0 x.1 (ap (λ b. cond b (Some x.1) (find dot_cmp x.0 rest)) (tied_itself_dot x.0)) apart

-- a move leaves what stands at the other spots
get-moved : (way : Way) (visible : Visible) (s q : Spot) (document : Text) → eq_by_cmp spot_cmp q s ≡ false → get (moved way visible s document) q ≡ get visible q
get-moved Comes visible s q document apart = get-insert spots_total visible s document q ∙ ap (λ b. cond b (Some document) (get visible q)) apart
get-moved Goes visible s q document apart = get-remove spots_total visible s q ∙ ap (λ b. cond b None (get visible q)) apart

len-moved : (way : Way) (visible : Visible) (s : Spot) (document : Text) (n most : ℕ) → len visible + growth way (suc n) ≤ most → len (moved way visible s document) + growth way n ≤ most
len-moved Comes visible s document n most few = let more = len-come visible s document (len visible + 1) (omega arith) in omega arith
len-moved Goes visible s document n most few = let less = len-gone visible s (len visible) (omega arith) in omega arith

less_room : (way : Way) (m n most : ℕ) → m + growth way (suc n) ≤ most → m + growth way n ≤ most
less_room Comes m n most h = omega arith
less_room Goes m n most h = h

pub enough_room : (way : Way) (m n a most : ℕ) → m + growth way n ≤ a → a ≤ most → m ≤ most
enough_room way m n a most h g = omega arith

pub moving_moves : (way : Way) (rows new : Rows) (key : Key) (others : List Pair) (x : Pair) (rest : List Pair) (most : ℕ) (aim : Visible) → T (is_sorted dot_cmp (x ∷ rest)) → is_among others x ≡ false →
    (m : Moving way rows key others (x ∷ rest) most aim) → AreRowsOf new.indexes.items new.views.items (moved way m.now (spot key x.0) x.1) → Moving way new key others rest most aim
moving_moves way rows new key others x rest most aim sorted apart m are = record {
  now = moved way m.now (spot key x.0) x.1;
  are = are;
  few = len-moved way m.now (spot key x.0) x.1 (length rest) most m.few;
  can = record {
    at = λ dot d found apart.
        get-moved way m.now (spot key x.0) (spot key dot) x.1 (of_one_key key dot x.0 ∙ later_apart dot_total dot x rest d sorted found)
        ∙ m.can.at dot d (found_later dot_total dot x rest d sorted found) apart;
  };
  aims = sym (ap (λ b. moved_all way m.now key (cond (not b) (x ∷ not_among others rest) (not_among others rest))) apart) ∙ m.aims;
}

pub moving_stays : (way : Way) (rows : Rows) (key : Key) (others : List Pair) (x : Pair) (rest : List Pair) (most : ℕ) (aim : Visible) → T (is_sorted dot_cmp (x ∷ rest)) → is_among others x ≡ true →
    Moving way rows key others (x ∷ rest) most aim → Moving way rows key others rest most aim
moving_stays way rows key others x rest most aim sorted stays m = record {
  now = m.now;
  are = m.are;
  few = less_room way (len m.now) (length rest) most m.few;
  can = record { at = λ dot d found apart. m.can.at dot d (found_later dot_total dot x rest d sorted found) apart };
  aims = sym (ap (λ b. moved_all way m.now key (cond (not b) (x ∷ not_among others rest) (not_among others rest))) stays) ∙ m.aims;
}

pub moving_ends : (way : Way) (rows : Rows) (key : Key) (others rest : List Pair) (most : ℕ) (aim : Visible) → rest ≡ [] → Moving way rows key others rest most aim → AreRowsOf rows.indexes.items rows.views.items aim
moving_ends way rows key others rest most aim none m =
    subst (AreRowsOf rows.indexes.items rows.views.items) (sym (ap (λ es. moved_all way m.now key (not_among others es)) none) ∙ m.aims) m.are

-- ---- what is counted

one_plus : (n : ℕ) → suc n ≡ 1 + n
one_plus n = omega arith

pub one_counted : (others : List Pair) (x : Pair) (rest : List Pair) → is_among others x ≡ false → length (not_among others (x ∷ rest)) ≡ 1 + length (not_among others rest)
one_counted others x rest moves = ap (λ b. length (cond (not b) (x ∷ not_among others rest) (not_among others rest))) moves ∙ one_plus _

pub none_counted : (others : List Pair) (x : Pair) (rest : List Pair) → is_among others x ≡ true → length (not_among others (x ∷ rest)) ≡ length (not_among others rest)
none_counted others x rest stays = ap (λ b. length (cond (not b) (x ∷ not_among others rest) (not_among others rest))) stays

pub len-taken_out : (visible : Visible) (key : Key) (es : List Pair) (m : ℕ) → len visible ≤ m → len (taken_out visible key es) ≤ m
len-taken_out visible key [] m h = h
len-taken_out visible key (e ∷ es) m h = len-taken_out (remove visible (spot key e.0)) key es m (len-gone visible (spot key e.0) m h)

pub same_each : (a b i v : ℕ) → a ≡ i → b ≡ v → a + 2 * b ≡ i + 2 * v
same_each a b i v e f = omega arith
