-- What it says that a query shows a row, or none.
use Rattle.std.proofs.Common.{◌≡◌, ◌≢◌, inl, inr, ℕ, List, [], ◌∷◌, ◌++◌, ◌&&◌, map, flat_map, length, take, drop, Bool, true, false, cond, Some, None, refl, sym, ap, subst, ◌∙◌, arith}
use Rattle.std.proofs.lemmas.List.{length-map}
use Rattle.std.proofs.lemmas.List.Sorted.{length_permutation}
use Rattle.std.proofs.lemmas.Bool.{cases_Bool, and_parts}
use Rattle.std.specs.Ordering.{nat_cmp, is_eq}
use Rattle.std.specs.Cmp.{tied_itself}
use Rattle.std.specs.Cmp.Lexicographic.{slice_cmp, nat_list_cmp_total}
use Rattle.std.specs.FinMap.{get}
use Rattle.sqlite.specs.declared.types.Value.TheVariants.{Null, Text}
use Rattle.sqlite.specs.Order.{Row, column}
use Rattle.sqlite.specs.Ops.{binary}
use Rattle.sqlite.specs.Collation.TheVariants.{Binary}
use Rattle.sqlite.specs.Tree.{Trees}
use Rattle.sqlite.specs.Query.{Query, IsAnswer, Output, output}
use Rattle.sqlite.specs.Program.{overlay}
use Rattle.sqlite.specs.State.{State, Shown}
use Rattle.sqlite.proofs.Callers.{reads_as}
use Rattle.sqlite_schema.specs.Rules.{equal}
use Rattle.sqlite_value.proofs.OrderLemmas.{value_cmp-Text}
use Rattle.sqlite_rules.specs.Lists.{Has}
use Rattle.mvd_records.specs.Tables.{all_tables}
use Rattle.mvd_records.specs.States.{states_in}
use Rattle.mvd_records.proofs.Rows.{IsEntry, IsApart, key_of, state_of, found, absent, looked_up, HasKey, same_key, get_at}
use Rattle.mvd_records.proofs.Rules.{AreStates, true_is}
use Rattle.mvd_records.proofs.Texts.{any_old_text, any_old_query, any_old_is, any_old_plain, any_both_text, any_both_query, any_both_is, any_both_plain}

none_long : {X : Type 0} (xs : List X) → length xs ≡ 0 → xs ≡ []
none_long [] e = refl
none_long (x ∷ xs) e = absurd (omega arith)

none_first : {X : Type 0} (xs : List X) → take 1 (drop 0 xs) ≡ [] → xs ≡ []
none_first [] e = refl
none_first (x ∷ xs) e = absurd cc

-- a query with LIMIT 1 shows no row where it has no match
asked : (q : Query) (db : Trees) (rows : List Row) (a : IsAnswer q db [] rows) → a.kept ≡ map (output q) a.staged → rows ≡ take 1 (drop 0 (map (λ (o : Output). o.1) a.ordered))
    → (rows ≡ [] → a.staged ≡ []) × (a.staged ≡ [] → rows ≡ [])
asked q db rows a kept shown = (
  λ none. (let shows : map (λ (o : Output). o.1) a.ordered ≡ [] = none_first _ (sym shown ∙ none) in
      none_long a.staged (omega (arith, ap length shows, length-map a.ordered (λ (o : Output). o.1), length_permutation a.kept a.ordered a.same, ap length kept, length-map a.staged (output q)))),
  λ none. (let empty : a.ordered ≡ [] = none_long a.ordered (omega (arith, length_permutation a.kept a.ordered a.same, ap length kept, length-map a.staged (output q), ap length none)) in
      shown ∙ ap (λ (os : List Output). take 1 (drop 0 (map (λ (o : Output). o.1) os))) empty),
)

pub one_each : {A B : Type 0} (f : A → B) (xs : List A) → flat_map (λ x. f x ∷ []) xs ≡ map f xs
one_each f [] = refl
one_each f (x ∷ xs) = ap (λ l. f x ∷ l) (one_each f xs)

map_none : {A B : Type 0} (f : A → B) (xs : List A) → map f xs ≡ [] → xs ≡ []
map_none f [] e = refl
map_none f (x ∷ xs) e = absurd cc

pub any_old : (old new : State) (rows : List Row) → old.now.schema ≡ all_tables → Shown any_old_text [] old new rows → (rows ≡ [] → old.now.trees 0 ≡ []) × (old.now.trees 0 ≡ [] → rows ≡ [])
any_old old new rows has h =
    let read = reads_as any_old_text [] old new all_tables has _ any_old_is.0 any_old_plain any_old_is.1 rows h in
    let a : IsAnswer any_old_query (overlay old.now.trees []) [] rows = read.answer Null in
    let both = asked any_old_query _ rows a a.distinct a.shown in
    let staged = a.grouped ∙ one_each (λ (r : Row). [] ∷ r ∷ []) (old.now.trees 0) in
    (λ none. map_none _ _ (sym staged ∙ both.0 none), λ none. both.1 (staged ∙ ap (map (λ (r : Row). [] ∷ r ∷ [])) none))

-- ---- a join

picked_none : {A B : Type 0} (f : A → List B) (xs : List A) (x : A) → flat_map f xs ≡ [] → Has xs x → f x ≡ []
picked_none f (y ∷ xs) x e (inl is) = rw is (front_none (f y) (flat_map f xs) e)
  where
    front_none : {X : Type 0} (us bs : List X) → us ++ bs ≡ [] → us ≡ []
    front_none [] bs e = refl
    front_none (u ∷ us) bs e = absurd cc
picked_none f (y ∷ xs) x e (inr later) = picked_none f xs x (back_none (f y) (flat_map f xs) e) later
  where
    back_none : {X : Type 0} (us bs : List X) → us ++ bs ≡ [] → bs ≡ []
    back_none [] bs e = e
    back_none (u ∷ us) bs e = absurd cc
picked_none f [] x e there = absurd there

none_picked : {A B : Type 0} (f : A → List B) (xs : List A) → ((x : A) → Has xs x → f x ≡ []) → flat_map f xs ≡ []
none_picked f [] none = refl
none_picked f (x ∷ xs) none = rw (none x (inl refl)) (none_picked f xs (λ y h. none y (inr h)))

pub text_tie : (k l : List ℕ) → equal Binary (Text k) (Text l) ≡ is_eq (slice_cmp nat_cmp k l)
unfolding binary
text_tie k l = true_is _ ∙ ap is_eq (value_cmp-Text k l)

abbrev same_keys : Row → Row → Bool
same_keys r s = equal Binary (column r 1) (column s 1) && true

test_is : (r s : Row) → IsEntry r → IsEntry s → same_keys r s ≡ (is_eq (slice_cmp nat_cmp (key_of r) (key_of s)) && true)
test_is r s a b = rw (a.is, b.is) (ap (λ t. t && true) (text_tie a.key b.key))

met : (b : Bool) (e : List Row) → cond b (e ∷ []) [] ≡ [] → b ≡ false
met true e h = absurd cc
met false e h = refl

abbrev pub AreUnlike : List Row → List Row → Type 0
AreUnlike olds news = (r s : Row) → Has olds r → Has news s → key_of r ≢ key_of s

abbrev fills : List Row → Row → List (List Row)
fills news r = flat_map (λ s. cond (same_keys r s) (([] ∷ r ∷ s ∷ []) ∷ []) []) news

unlike : (olds news : List Row) → AreStates olds → AreStates news → flat_map (fills news) olds ≡ [] → AreUnlike olds news
unlike olds news are others e r s here there same =
    let none = met _ _ (picked_none (λ (s : Row). cond (same_keys r s) (([] ∷ r ∷ s ∷ []) ∷ []) []) news s (picked_none (fills news) olds r e here) there) in
    let tie : is_eq (slice_cmp nat_cmp (key_of r) (key_of s)) ≡ true = subst (λ k. is_eq (slice_cmp nat_cmp (key_of r) k) ≡ true) same (ap is_eq (tied_itself nat_list_cmp_total (key_of r))) in
    let no : true ≡ false = sym (ap (λ t. t && true) tie) ∙ (sym (test_is r s (are.entry r here) (others.entry s there)) ∙ none) in
    cc

no_fill : (olds news : List Row) → AreStates olds → AreStates news → AreUnlike olds news → flat_map (fills news) olds ≡ []
no_fill olds news are others apart = none_picked (fills news) olds (λ r here. none_picked (λ (s : Row). cond (same_keys r s) (([] ∷ r ∷ s ∷ []) ∷ []) []) news (λ s there. elim (cases_Bool (same_keys r s)) [
  | inl same ↦ absurd (apart r s here there (same_key _ _ (and_parts _ _ (sym (test_is r s (are.entry r here) (others.entry s there)) ∙ same)).0))
  | inr other ↦ rw other refl
]))

pub any_both : (old new : State) (rows : List Row) → old.now.schema ≡ all_tables → AreStates (old.now.trees 0) → AreStates (old.now.trees 4) → Shown any_both_text [] old new rows
    → (rows ≡ [] → AreUnlike (old.now.trees 0) (old.now.trees 4)) × (AreUnlike (old.now.trees 0) (old.now.trees 4) → rows ≡ [])
any_both old new rows has are others h =
    let read = reads_as any_both_text [] old new all_tables has _ any_both_is.0 any_both_plain any_both_is.1 rows h in
    let a : IsAnswer any_both_query (overlay old.now.trees []) [] rows = read.answer Null in
    let both = asked any_both_query _ rows a a.distinct a.shown in
    let staged : a.staged ≡ flat_map (fills (old.now.trees 4)) (old.now.trees 0) = a.grouped in
    (λ none. unlike _ _ are others (sym staged ∙ both.0 none), λ apart. both.1 (staged ∙ no_fill _ _ are others apart))

-- ---- the maps

pub get_has : (rows : List Row) (key state : List ℕ) → get (states_in rows) key ≡ Some state → (x : Row) × Has rows x × (key_of x ≡ key)
get_has rows key state e = go (looked_up rows key)
  where
    go : HasKey rows key → (x : Row) × Has rows x × (key_of x ≡ key)
    go (inl it) = it
    go (inr none) = absurd (let no : None ≡ Some state = sym (get_at rows key ∙ absent rows key none) ∙ e in cc)

pub has_get : (rows : List Row) (x : Row) → Has rows x → IsApart rows → get (states_in rows) (key_of x) ≡ Some (state_of x)
has_get rows x there apart = get_at rows (key_of x) ∙ found rows x there apart

pub maps_apart : (olds news : List Row) → AreUnlike olds news → (key a b : List ℕ) → get (states_in olds) key ≡ Some a → ¬ (get (states_in news) key ≡ Some b)
maps_apart olds news apart key a b one two = let x = get_has olds key a one in let y = get_has news key b two in apart x.0 y.0 x.1 y.1 (x.2 ∙ sym y.2)

pub rows_unlike : (olds news : List Row) → IsApart olds → IsApart news → ((key a b : List ℕ) → get (states_in olds) key ≡ Some a → ¬ (get (states_in news) key ≡ Some b)) → AreUnlike olds news
rows_unlike olds news one other apart r s here there same =
    apart (key_of r) (state_of r) (state_of s) (has_get olds r here one) (subst (λ k. get (states_in news) k ≡ Some (state_of s)) (sym same) (has_get news s there other))

pub no_state : (rows : List Row) → rows ≡ [] → (key state : List ℕ) → ¬ (get (states_in rows) key ≡ Some state)
no_state rows none key state e = let it = get_has rows key state e in subst (λ (l : List Row). Has l it.0) none it.1

pub no_row : (rows : List Row) → IsApart rows → ((key state : List ℕ) → ¬ (get (states_in rows) key ≡ Some state)) → rows ≡ []
no_row [] apart none = refl
no_row (x ∷ rows) apart none = absurd (none (key_of x) (state_of x) (has_get (x ∷ rows) x (inl refl) apart))
