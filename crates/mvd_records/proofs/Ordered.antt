-- An answer that ORDER BY has put in order, of rows whose keys differ, rises.
use Rattle.std.proofs.Common.{◌≡◌, inl, inr, ℕ, suc, ◌+◌, ◌<◌, List, [], ◌∷◌, ◌&&◌, map, length, Bool, true, false, T, get_or, refl, sym, ap, subst, subst₂, ◌∙◌, arith}
use Rattle.std.specs.List.{AllByRecursion, IsDistinct}
use Rattle.std.specs.List.Sorted.{IsPermutation, IsSorted}
use Rattle.std.proofs.lemmas.List.Sorted.{IsPermutation-sym, IsPermutation-map}
use Rattle.std.proofs.lemmas.Map.Keys.{IsDistinct-IsPermutation}
use Rattle.std.proofs.lemmas.Bool.{cases_Bool}
use Rattle.std.specs.FinMap.{is_sorted}
use Rattle.std.specs.FinMap.Entries.{below_all}
use Rattle.std.specs.Ordering.{nat_cmp, eq_by_cmp, is_eq, is_lt}
use Rattle.std.specs.declared.cmp.Ordering.{Ordering}
use Rattle.std.specs.declared.cmp.Ordering.TheVariants.{Less, Equal, Greater}
use Rattle.std.specs.Cmp.Lexicographic.{nat_list_cmp_total}
use Rattle.sqlite.specs.declared.types.Value.TheVariants.{Text, Blob}
use Rattle.sqlite.specs.Order.{Row, column, bytes}
use Rattle.sqlite.specs.Query.{Output, output_cmp}
use Rattle.sqlite.specs.Tree.{rowid}
use Rattle.sqlite_value.proofs.OrderLemmas.{value_cmp-Text}
use Rattle.sqlite_trees.proofs.TreeLemmas.{above}
use Rattle.sqlite_trees.proofs.ListLemmas.{map-map}
use Rattle.sqlite_rules.specs.Lists.{Has}
use Rattle.mvd_keys.specs.Key.{is_key}
use Rattle.mvd_records.specs.Tables.{new_tree}
use Rattle.mvd_records.specs.States.{shown_row, shown_row_entry}
use Rattle.mvd_records.specs.Pairs.{ArePairs}
use Rattle.mvd_records.proofs.Rows.{key_of, order, same_key}
use Rattle.mvd_records.proofs.Rules.{AreStates}
use Rattle.mvd_records.proofs.Listed.{has_moved, output_of}
use Rattle.mvd_records.proofs.Saving.{never_below}
use Rattle.mvd_records.proofs.Texts.{load_query}

-- the order of the outputs, by their keys
abbrev pub output_order : Output → Output → Ordering
output_order = output_cmp (load_query new_tree)

abbrev key_in : Output → List ℕ
key_in o = bytes (column o.1 0)

abbrev entry_for : Output → List ℕ × List ℕ
entry_for o = shown_row_entry o.1

-- an output that shows a text
pub record IsText (o : Output) : Type 0 where
  pub key : List ℕ
  pub state : List ℕ
  pub is : o ≡ (Text key ∷ [], Text key ∷ Blob state ∷ [])

compared : (k l : List ℕ) (x y : Row) → output_order (Text k ∷ [], x) (Text l ∷ [], y) ≡ order k l
compared k l x y = then_equal _ ∙ value_cmp-Text k l
  where
    then_equal : (o : Ordering) → Rattle.std.specs.Ordering.ordering_then o Equal ≡ o
    then_equal Less = refl
    then_equal Equal = refl
    then_equal Greater = refl

pub both_left : (a b : Bool) → T (a && b) → T a
both_left true b h = tt
both_left false b h = h

pub both_right : (a b : Bool) → T (a && b) → T b
both_right true b h = h
both_right false b h = absurd h

pub both : (a b : Bool) → T a → T b → T (a && b)
both true b h k = k
both false b h k = h

below_trans : (a b : List ℕ) (es : List (List ℕ × List ℕ)) → order a b ≡ Less → T (below_all order b es) → T (below_all order a es)
below_trans a b [] less low = tt
below_trans a b (e ∷ es) less low =
    both _ _ (subst (λ o. T (is_lt o)) (sym (nat_list_cmp_total.trans a b e.0 less (less_is _ (both_left _ _ low)))) tt) (below_trans a b es less (both_right _ _ low))
  where
    less_is : (o : Ordering) → T (is_lt o) → o ≡ Less
    less_is Less h = refl
    less_is Equal h = absurd h
    less_is Greater h = absurd h

put_below : (e f : List ℕ × List ℕ) (es : List (List ℕ × List ℕ)) → order e.0 f.0 ≡ Less → T (is_sorted order (f ∷ es)) → T (is_sorted order (e ∷ f ∷ es))
put_below e f es less up = both _ _ (both _ _ (subst (λ o. T (is_lt o)) (sym less) tt) (below_trans e.0 f.0 es less (both_left _ _ up))) up

-- no output is less than the one before it
abbrev Climbs : List Output → Type 0
Climbs os = (k : ℕ) (d : Output) → k + 1 < length os → is_lt (output_order (get_or os (k + 1) d) (get_or os k d)) ≡ false

climbs_tail : (o : Output) (os : List Output) → Climbs (o ∷ os) → Climbs os
climbs_tail o os up k d low =
    let next : get_or (o ∷ os) (k + 1 + 1) d ≡ get_or os (k + 1) d = behind (k + 1) in
    let this : get_or (o ∷ os) (k + 1) d ≡ get_or os k d = behind k in
    subst₂ (λ x y. is_lt (output_order x y) ≡ false) next this (up (k + 1) d (omega arith))
  where
    behind : (i : ℕ) → get_or (o ∷ os) (i + 1) d ≡ get_or os i d
    behind i = let e : i + 1 ≡ suc i = omega arith in rw e refl

step : (o p : Output) → IsText o → IsText p → is_lt (output_order p o) ≡ false → eq_by_cmp order (key_in o) (key_in p) ≡ false → order (key_in o) (key_in p) ≡ Less
step o p a b up apart = rw (a.is, b.is) (choose (order a.key b.key) refl)
  where
    down : is_lt (order b.key a.key) ≡ false
    down = subst (λ c. is_lt c ≡ false) (compared b.key a.key (Text b.key ∷ Blob b.state ∷ []) (Text a.key ∷ Blob a.state ∷ [])) (rw (a.is, b.is) at up)

    untied : is_eq (order a.key b.key) ≡ false
    untied = rw (a.is, b.is) at apart

    choose : (c : Ordering) → order a.key b.key ≡ c → order a.key b.key ≡ Less
    choose Less e = e
    choose Equal e = absurd (let no : true ≡ false = sym (ap is_eq e) ∙ untied in cc)
    choose Greater e = absurd (let less = ap is_lt (above nat_list_cmp_total a.key b.key e) in let no : true ≡ false = sym less ∙ down in cc)

all_rise : (os : List Output) → ((o : Output) → Has os o → IsText o) → Climbs os → IsDistinct (eq_by_cmp order) (map key_in os) → T (is_sorted order (map entry_for os))
unfolding IsDistinct
all_rise [] texts up apart = tt
all_rise (o ∷ []) texts up apart = tt
all_rise (o ∷ p ∷ os) texts up apart =
    let low : 0 + 1 < length (o ∷ p ∷ os) = omega arith in
    put_below (entry_for o) (entry_for p) (map entry_for os) (step o p (texts o (inl refl)) (texts p (inr (inl refl))) (up 0 o low) apart.0.0)
    (all_rise (p ∷ os) (λ x h. texts x (inr h)) (climbs_tail o (p ∷ os) up) apart.1)

-- ---- the rows that are shown

has_mapped : {A B : Type 0} (f : A → B) (xs : List A) (y : B) → Has (map f xs) y → (x : A) × Has xs x × (y ≡ f x)
has_mapped f [] y h = absurd h
has_mapped f (x ∷ xs) y (inl is) = (x, inl refl, is)
has_mapped f (x ∷ xs) y (inr later) = let it = has_mapped f xs y later in (it.0, inr it.1, it.2)

keys_distinct : (rows : List Row) → AreStates rows → IsDistinct (eq_by_cmp order) (map key_of rows)
unfolding IsDistinct
keys_distinct rows are = go rows are.shaped.0 (λ x h. h)
  where
    go : (some : List Row) → Rattle.sqlite.specs.Tree.IsTable some → ((x : Row) → Has some x → Has rows x) → IsDistinct (eq_by_cmp order) (map key_of some)
    go [] up within = tt
    go (r ∷ some) up within = (others some up.0 (within r (inl refl)) (λ x h. within x (inr h)), go some up.1 (λ x h. within x (inr h)))
      where
        others : (more : List Row) → AllByRecursion (λ x. Rattle.sqlite.specs.Order.value_cmp (rowid r) (rowid x) ≡ Less) more → Has rows r → ((x : Row) → Has more x → Has rows x)
            → AllByRecursion (λ k. eq_by_cmp order (key_of r) k ≡ false) (map key_of more)
        others [] up here there = tt
        others (x ∷ more) up here there = (
          elim (cases_Bool (eq_by_cmp order (key_of r) (key_of x))) [
            | inl same ↦ absurd (never_below r (subst (λ y. Rattle.sqlite.specs.Order.value_cmp (rowid r) (rowid y) ≡ Less) (sym (are.one r x here (there x (inl refl)) (same_key _ _ same))) up.0))
            | inr apart ↦ apart
          ],
          others more up.1 here (λ y h. there y (inr h)),
        )

pub shown_pairs : (rows answer : List Row) (ordered : List Output) → AreStates rows → ((x : Row) → Has rows x → is_key (key_of x) ≡ true) → IsPermutation (map output_of rows) ordered → IsSorted output_order ordered
    → answer ≡ map (λ (o : Output). o.1) ordered → ArePairs answer
shown_pairs rows answer ordered are keys same up is = record {
  each = λ row there. (let o = has_mapped (λ (o : Output). o.1) ordered row (subst (λ (l : List Row). Has l row) is there) in
      let x = from o.0 o.1 in
      let it = are.entry x.0 x.1 in
      record { key = it.key; state = it.state; is = o.2 ∙ (ap (λ (p : Output). p.1) x.2 ∙ ap shown_row it.is); form = subst (λ k. is_key k ≡ true) (ap key_of it.is) (keys x.0 x.1) });
  rising = subst (λ (l : List Row). T (is_sorted order (map shown_row_entry l))) (sym is) (subst (λ (es : List (List ℕ × List ℕ)). T (is_sorted order es)) (sym (map-map shown_row_entry (λ (o : Output). o.1) ordered)) (all_rise ordered texts (λ k d low. up k d (omega arith) low)
      (IsDistinct-IsPermutation (eq_by_cmp order) flips (map key_of rows) (map key_in ordered) (subst (λ ks. IsPermutation ks (map key_in ordered)) (map-map key_in output_of rows) (IsPermutation-map key_in _ _ same)) (keys_distinct rows are))));
}
  where
    from : (o : Output) → Has ordered o → (x : Row) × Has rows x × (o ≡ output_of x)
    from o there = has_mapped output_of rows o (has_moved ordered (map output_of rows) o (IsPermutation-sym _ _ same) there)

    texts : (o : Output) → Has ordered o → IsText o
    texts o there = let x = from o there in let it = are.entry x.0 x.1 in record { key = it.key; state = it.state; is = x.2 ∙ ap output_of it.is }

    flips : (x y : List ℕ) → eq_by_cmp order x y ≡ eq_by_cmp order y x
    flips x y = subst (λ o. is_eq o ≡ is_eq (order y x)) (sym (nat_list_cmp_total.antisymm x y)) (turned (order y x))
      where
        turned : (o : Ordering) → is_eq (Rattle.std.specs.Ordering.ordering_reverse o) ≡ is_eq o
        turned Less = refl
        turned Equal = refl
        turned Greater = refl
