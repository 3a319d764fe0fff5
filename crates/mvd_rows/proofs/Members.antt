-- The members of a group, as a sibling comes or goes.
use Rattle.std.proofs.Common.{◌≡◌, ℕ, ◌+◌, Bool, true, false, cond, if◌then◌else◌, List, [], ◌∷◌, ◌++◌, length, length-append, filter, Option, Some, None, refl, sym, ap, ◌∙◌, Less, Equal, Greater, arith, ℤ, ◌+ℤ◌}
use Rattle.std.proofs.lemmas.Int.{ints, clamps}
use Rattle.std.proofs.lemmas.List.Elements.{filter-append, filter_map-append}
use Rattle.std.specs.List.{cons_option}
use Rattle.std.specs.Int.{int_min, int_max}
use Rattle.std.specs.Ordering.{eq_by_cmp, int_cmp, is_eq}
use Rattle.std.specs.FinMap.{get, insert, entries, find, put, entries-insert, get-entries}
use Rattle.std.specs.FinMap.Entries.{by_order}
use Rattle.mvd_keys.specs.State.{Text}
use Rattle.mvd_rows.specs.Names.{Field}
use Rattle.mvd_docs.specs.declared.term.Term.{Term}
use Rattle.mvd_rows.specs.declared.marks.Spot.{Spot}
use Rattle.mvd_docs.specs.Document.{whole_of}
use Rattle.mvd_rows.specs.Marks.{spot_cmp, spots_total}
use Rattle.mvd_rows.specs.Views.{has_term, members, wholes, total, widened, ends_of, times, row_of_members, gained, times_gained}
use Rattle.mvd_rows.specs.Visible.{Visible}

-- fs is es with one element more, at some place
pub record Gains {A : Type 0} (es fs : List A) (x : A) : Type 0 where
  pub before : List A
  pub after : List A
  pub was : es ≡ before ++ after
  pub now : fs ≡ before ++ (x ∷ after)

abbrev Entry : Type 0
Entry = Spot × Text

gains_more : (e x : Entry) (es fs : List Entry) → Gains es fs x → Gains (e ∷ es) (e ∷ fs) x
gains_more e x es fs g = record { before = e ∷ g.before; after = g.after; was = ap (λ xs. e ∷ xs) g.was; now = ap (λ xs. e ∷ xs) g.now }

Gains-put : (s : Spot) (d : Text) (es : List Entry) → find spot_cmp s es ≡ None → Gains es (put spot_cmp s d es) (s, d)
Gains-put s d [] fresh = record { before = []; after = []; was = refl; now = refl }
Gains-put s d (e ∷ es) fresh =
    elim (spot_cmp s e.0) as (λ r. cond (is_eq r) (Some e.1) (find spot_cmp s es) ≡ None → Gains (e ∷ es) (by_order r ((s, d) ∷ e ∷ es) ((e.0, d) ∷ es) (e ∷ put spot_cmp s d es)) (s, d)) [
      | Less ↦ λ _. record { before = []; after = e ∷ es; was = refl; now = refl }
      | Equal ↦ λ h. cc
      | Greater ↦ λ h. gains_more e (s, d) es (put spot_cmp s d es) (Gains-put s d es h)
    ] fresh

Gains-insert : (visible : Visible) (s : Spot) (d : Text) → get visible s ≡ None → Gains (entries visible) (entries (insert visible s d)) (s, d)
Gains-insert visible s d fresh =
    let g = Gains-put s d (entries visible) (sym (get-entries visible s) ∙ fresh) in
    record { before = g.before; after = g.after; was = g.was; now = entries-insert spots_total visible s d ∙ g.now }

-- ---- the members of a group

filter_yes : (p : Entry → Bool) (x : Entry) (es fs : List Entry) → Gains es fs x → p x ≡ true → Gains (filter p es) (filter p fs) x
filter_yes p x es fs g isin = record {
  before = filter p g.before;
  after = filter p g.after;
  was = ap (filter p) g.was ∙ filter-append p g.before g.after;
  now = ap (filter p) g.now ∙ filter-append p g.before (x ∷ g.after) ∙ ap (λ b. filter p g.before ++ cond b (x ∷ filter p g.after) (filter p g.after)) isin;
}

filter_no : (p : Entry → Bool) (x : Entry) (es fs : List Entry) → Gains es fs x → p x ≡ false → filter p fs ≡ filter p es
filter_no p x es fs g isout =
    ap (filter p) g.now ∙ filter-append p g.before (x ∷ g.after) ∙ ap (λ b. filter p g.before ++ cond b (x ∷ filter p g.after) (filter p g.after)) isout
    ∙ sym (ap (filter p) g.was ∙ filter-append p g.before g.after)

pub members_gain : (group : Field) (term : Term) (visible : Visible) (s : Spot) (d : Text) → get visible s ≡ None → has_term group term d ≡ true →
    Gains (members group term visible) (members group term (insert visible s d)) (s, d)
unfolding members
members_gain group term visible s d fresh isin = filter_yes (λ e. has_term group term e.1) (s, d) _ _ (Gains-insert visible s d fresh) isin

pub members_stay : (group : Field) (term : Term) (visible : Visible) (s : Spot) (d : Text) → get visible s ≡ None → has_term group term d ≡ false →
    members group term (insert visible s d) ≡ members group term visible
unfolding members
members_stay group term visible s d fresh isout = filter_no (λ e. has_term group term e.1) (s, d) _ _ (Gains-insert visible s d fresh) isout

-- ---- the whole numbers

wholes_gain : (sum : Field) (e : Entry) (w : ℤ) (es fs : List Entry) → Gains es fs e → whole_of sum e.1 ≡ Some w → Gains (wholes sum es) (wholes sum fs) w
wholes_gain sum e w es fs g gives = record {
  before = wholes sum g.before;
  after = wholes sum g.after;
  was = ap (wholes sum) g.was ∙ filter_map-append (λ x. whole_of sum x.1) g.before g.after;
  now = ap (wholes sum) g.now ∙ filter_map-append (λ x. whole_of sum x.1) g.before (e ∷ g.after) ∙ ap (λ o. wholes sum g.before ++ cons_option o (wholes sum g.after)) gives;
}

wholes_stay : (sum : Field) (e : Entry) (es fs : List Entry) → Gains es fs e → whole_of sum e.1 ≡ None → wholes sum fs ≡ wholes sum es
wholes_stay sum e es fs g none =
    ap (wholes sum) g.now ∙ filter_map-append (λ x. whole_of sum x.1) g.before (e ∷ g.after) ∙ ap (λ o. wholes sum g.before ++ cons_option o (wholes sum g.after)) none
    ∙ sym (ap (wholes sum) g.was ∙ filter_map-append (λ x. whole_of sum x.1) g.before g.after)

length_gains : {A : Type 0} (es fs : List A) (x : A) → Gains es fs x → length fs ≡ length es + 1
length_gains es fs x g = let e = ap length g.now ∙ length-append g.before (x ∷ g.after) in let f = ap length g.was ∙ length-append g.before g.after in omega arith

total-append : (xs ys : List ℤ) → total (xs ++ ys) ≡ total xs +ℤ total ys
total-append [] ys = omega (arith, ints)
total-append (x ∷ xs) ys = let ih = total-append xs ys in omega (arith, ints)

total_gains : (ws vs : List ℤ) (w : ℤ) → Gains ws vs w → total vs ≡ w +ℤ total ws
total_gains ws vs w g =
    let e = ap total g.now ∙ total-append g.before (w ∷ g.after) in
    let f = ap total g.was ∙ total-append g.before g.after in
    omega (arith, ints)

widened_twice : (x w : ℤ) (ends : Option (ℤ × ℤ)) → widened x (widened w ends) ≡ widened w (widened x ends)
widened_twice x w None = let e : int_min x w ≡ int_min w x = omega (arith, ints, clamps) in let f : int_max x w ≡ int_max w x = omega (arith, ints, clamps) in λ i. Some (e i, f i)
widened_twice x w (Some ends) =
    let e : int_min x (int_min w ends.0) ≡ int_min w (int_min x ends.0) = omega (arith, ints, clamps) in
    let f : int_max x (int_max w ends.1) ≡ int_max w (int_max x ends.1) = omega (arith, ints, clamps) in
    λ i. Some (e i, f i)

ends_of_between : (before after : List ℤ) (w : ℤ) → ends_of (before ++ (w ∷ after)) ≡ widened w (ends_of (before ++ after))
ends_of_between [] after w = refl
ends_of_between (x ∷ before) after w = ap (widened x) (ends_of_between before after w) ∙ widened_twice x w (ends_of (before ++ after))

ends_of_gains : (ws vs : List ℤ) (w : ℤ) → Gains ws vs w → ends_of vs ≡ widened w (ends_of ws)
ends_of_gains ws vs w g = ap ends_of g.now ∙ ends_of_between g.before g.after w ∙ ap (λ l. widened w (ends_of l)) (sym g.was)

times_swap : (a b : Bool) (n : ℕ) → (if a then (if b then n + 1 else n) + 1 else (if b then n + 1 else n)) ≡ (if b then (if a then n + 1 else n) + 1 else (if a then n + 1 else n))
times_swap true true n = refl
times_swap true false n = refl
times_swap false true n = refl
times_swap false false n = refl

times_between : (x : ℤ) (before after : List ℤ) (w : ℤ) → times x (before ++ (w ∷ after)) ≡ (if eq_by_cmp int_cmp x w then times x (before ++ after) + 1 else times x (before ++ after))
times_between x [] after w = refl
times_between x (b ∷ before) after w =
    let ih = times_between x before after w in
    ap (λ n. if eq_by_cmp int_cmp x b then n + 1 else n) ih ∙ times_swap (eq_by_cmp int_cmp x b) (eq_by_cmp int_cmp x w) (times x (before ++ after))

pub times_gains : (x : ℤ) (ws vs : List ℤ) (w : ℤ) → Gains ws vs w → times x vs ≡ times_gained (Some w) x (times x ws)
times_gains x ws vs w g = ap (times x) g.now ∙ times_between x g.before g.after w ∙ ap (λ l. times_gained (Some w) x (times x l)) (sym g.was)

-- ---- the row

row_gains_by : (sum : Field) (e : Entry) (o : Option ℤ) (es fs : List Entry) → whole_of sum e.1 ≡ o → Gains es fs e → row_of_members sum fs ≡ gained o (row_of_members sum es)
row_gains_by sum e None es fs none g = λ i. record { count = length_gains es fs e g i; sum = total (wholes_stay sum e es fs g none i); ends = ends_of (wholes_stay sum e es fs g none i) }
row_gains_by sum e (Some w) es fs gives g =
    let more = wholes_gain sum e w es fs g gives in
    λ i. record { count = length_gains es fs e g i; sum = total_gains (wholes sum es) (wholes sum fs) w more i; ends = ends_of_gains (wholes sum es) (wholes sum fs) w more i }

pub row_gains : (sum : Field) (e : Entry) (es fs : List Entry) → Gains es fs e → row_of_members sum fs ≡ gained (whole_of sum e.1) (row_of_members sum es)
row_gains sum e es fs g = row_gains_by sum e (whole_of sum e.1) es fs refl g

times_gains_by : (sum : Field) (e : Entry) (o : Option ℤ) (x : ℤ) (es fs : List Entry) → whole_of sum e.1 ≡ o → Gains es fs e → times x (wholes sum fs) ≡ times_gained o x (times x (wholes sum es))
times_gains_by sum e None x es fs none g = ap (times x) (wholes_stay sum e es fs g none)
times_gains_by sum e (Some w) x es fs gives g = times_gains x (wholes sum es) (wholes sum fs) w (wholes_gain sum e w es fs g gives)

pub wholes_times_gain : (sum : Field) (e : Entry) (x : ℤ) (es fs : List Entry) → Gains es fs e → times x (wholes sum fs) ≡ times_gained (whole_of sum e.1) x (times x (wholes sum es))
wholes_times_gain sum e x es fs g = times_gains_by sum e (whole_of sum e.1) x es fs refl g
