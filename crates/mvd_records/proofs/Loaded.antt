-- What the rows that a load reads say of the map.
use Rattle.std.proofs.Common.{◌≡◌, inl, inr, ℕ, List, [], ◌∷◌, ◌++◌, map, true, T, refl, sym, ap, subst, ◌∙◌, IsTrue}
use Rattle.std.specs.List.{AllByRecursion}
use Rattle.std.specs.List.Sorted.{IsPermutation}
use Rattle.std.specs.FinMap.{entries, is_sorted}
use Rattle.std.specs.FinMap.Entries.{below_all}
use Rattle.sqlite.specs.declared.types.Value.TheVariants.{Null}
use Rattle.sqlite.specs.Order.{Row}
use Rattle.sqlite.specs.Query.{IsAnswer}
use Rattle.sqlite.specs.Program.{overlay}
use Rattle.sqlite.specs.State.{State, Shown, Begins}
use Rattle.sqlite.proofs.Callers.{begins_as}
use Rattle.sqlite_rules.specs.Lists.{Has}
use Rattle.mvd_keys.specs.Key.{is_key}
use Rattle.mvd_records.specs.Tables.{all_tables}
use Rattle.mvd_records.specs.States.{states_in, shown_row, shown_row_entry}
use Rattle.mvd_records.specs.Pairs.{ArePairs, pairs_rise}
use Rattle.mvd_records.specs.Records.{IsQuiescent, HoldsRecords, AreKeys, states_at}
use Rattle.mvd_records.specs.declared.loading.StateTable.{StateTable}
use Rattle.mvd_records.specs.declared.loading.StateTable.TheVariants.{Version1, Version2}
use Rattle.mvd_records.proofs.Rows.{key_of, order}
use Rattle.mvd_records.proofs.Rules.{AreStates, apart_in}
use Rattle.mvd_records.proofs.Calls.{shown_open}
use Rattle.mvd_records.proofs.Listed.{Lists, listed, loaded, has_moved, output_of, kept_all, table_read}
use Rattle.mvd_records.proofs.Asked.{get_has, has_get}
use Rattle.mvd_records.proofs.Ordered.{both, both_left, both_right, shown_pairs}
use Rattle.mvd_records.proofs.Checked.{met_schema, states_of, maps_of}
use Rattle.mvd_records.proofs.Texts.{load_text, tree_of, load_query, load_is, load_plain}

abbrev Entry : Type 0
Entry = List ℕ × List ℕ

mapped : {A B : Type 0} (f : A → B) (xs : List A) (x : A) → Has xs x → Has (map f xs) (f x)
mapped f (y ∷ xs) x (inl is) = inl (ap f is)
mapped f (y ∷ xs) x (inr later) = inr (mapped f xs x later)
mapped f [] x there = absurd there

all_at : (P : Entry → Type 0) (es : List Entry) (e : Entry) → AllByRecursion P es → Has es e → P e
all_at P (x ∷ es) e all (inl is) = subst P (sym is) all.0
all_at P (x ∷ es) e all (inr later) = all_at P es e all.1 later
all_at P [] e all there = absurd there

-- each key of the map is among the rows that are shown
keys_in : (rows answer : List Row) → Lists rows answer → AllByRecursion (λ (e : Entry). is_key e.0 ≡ true) (map shown_row_entry answer) → AreKeys (states_in rows)
keys_in rows answer lists form key state got =
    let x = get_has rows key state got in
    let there = has_moved (map shown_row rows) answer (shown_row x.0) lists.same (mapped shown_row rows x.0 x.1) in
    subst (λ k. is_key k ≡ true) x.2 (all_at (λ (e : Entry). is_key e.0 ≡ true) (map shown_row_entry answer) (shown_row_entry (shown_row x.0)) form (mapped shown_row_entry answer (shown_row x.0) there))

below_front : (k : List ℕ) (xs ys : List Entry) → T (below_all order k (xs ++ ys)) → T (below_all order k xs)
below_front k [] ys h = tt
below_front k (x ∷ xs) ys h = both _ _ (both_left _ _ h) (below_front k xs ys (both_right _ _ h))

sorted_front : (xs ys : List Entry) → T (is_sorted order (xs ++ ys)) → T (is_sorted order xs)
sorted_front [] ys h = tt
sorted_front (x ∷ xs) ys h = both _ _ (below_front x.0 xs ys (both_left _ _ h)) (sorted_front xs ys (both_right _ _ h))

map_front : (rows tail : List Row) → map shown_row_entry (rows ++ tail) ≡ map shown_row_entry rows ++ map shown_row_entry tail
map_front [] tail = refl
map_front (r ∷ rows) tail = ap (λ l. shown_row_entry r ∷ l) (map_front rows tail)

has_front : (rows tail : List Row) (row : Row) → Has rows row → Has (rows ++ tail) row
has_front (r ∷ rows) tail row (inl is) = inl is
has_front (r ∷ rows) tail row (inr later) = inr (has_front rows tail row later)
has_front [] tail row there = absurd there

front_pairs : (rows tail : List Row) → ArePairs (rows ++ tail) → ArePairs rows
front_pairs rows tail are = record {
  each = λ row there. are.each row (has_front rows tail row there);
  rising = sorted_front (map shown_row_entry rows) (map shown_row_entry tail) (subst (λ es. T (is_sorted order es)) (map_front rows tail) are.rising);
}

keys_of_rows : (rows : List Row) → AreStates rows → AreKeys (states_in rows) → (x : Row) → Has rows x → is_key (key_of x) ≡ true
keys_of_rows rows are keys x there = keys (key_of x) _ (has_get rows x there (apart_in rows are))

module _ (table : StateTable) (version site : ℕ) (old : State) (settled : IsQuiescent old) (holds : HoldsRecords version site old.committed) where
  -- the rows of the table, and the map that they are
  are : IsTrue old.is_open → AreStates (old.now.trees (tree_of table))
  are was = choose table
    where
      choose : (table : StateTable) → AreStates (old.now.trees (tree_of table))
      choose Version1 = (states_of version site old settled was holds).0
      choose Version2 = (states_of version site old settled was holds).1

  map_is : IsTrue old.is_open → states_at table old.committed ≡ states_in (old.now.trees (tree_of table))
  map_is was = choose table
    where
      choose : (table : StateTable) → states_at table old.committed ≡ states_in (old.now.trees (tree_of table))
      choose Version1 = (maps_of version site old settled was holds).0
      choose Version2 = (maps_of version site old settled was holds).1

  pub loaded_table : (new : State) (rows : List Row) → Shown (load_text table) [] old new rows → pairs_rise (map shown_row_entry rows) → entries (states_at table old.committed) ≡ map shown_row_entry rows
  loaded_table new rows h up =
      let was = shown_open (load_text table) [] old new rows h in
      ap entries (map_is was) ∙ loaded _ _ (listed table old new rows (met_schema version site old settled was holds) h) up

  pub keys_table : (new : State) (rows : List Row) → Shown (load_text table) [] old new rows → AllByRecursion (λ (e : Entry). is_key e.0 ≡ true) (map shown_row_entry rows) → AreKeys (states_at table old.committed)
  keys_table new rows h form =
      let was = shown_open (load_text table) [] old new rows h in
      subst AreKeys (sym (map_is was)) (keys_in _ _ (listed table old new rows (met_schema version site old settled was holds) h) form)

  -- rows that are no pairs are of a key out of form
  pub bad_table : (rows : List Row) → IsTrue old.is_open → Begins (load_text table) [] old rows → ¬ ArePairs rows → ¬ AreKeys (states_at table old.committed)
  bad_table rows was h bad keys =
      let read = (begins_as (load_text table) [] old old all_tables (met_schema version site old settled was holds) _ (load_is table).0 (load_plain table) (load_is table).1 rows h).1 in
      let a : IsAnswer (load_query (tree_of table)) (overlay old.now.trees []) [] (rows ++ read.0) = read.1 Null in
      let kept = kept_all (tree_of table) old.now.trees (rows ++ read.0) a ∙ ap (map output_of) (table_read table old.now.trees) in
      bad (front_pairs rows read.0 (shown_pairs (old.now.trees (tree_of table)) (rows ++ read.0) a.ordered (are was) (keys_of_rows _ (are was) (subst AreKeys (map_is was) keys)) (subst (λ k. IsPermutation k a.ordered) kept a.same) a.sorted a.shown))
