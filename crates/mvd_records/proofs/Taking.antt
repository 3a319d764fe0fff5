-- What the two statements that move a key do to the rows.
use Rattle.std.proofs.Common.{◌≡◌, ◌≢◌, ◌⊎◌, inl, inr, ℕ, ℤ, List, [], ◌∷◌, ◌&&◌, map, length, Bool, true, false, not, Option, Some, None, Ok, refl, sym, ap, subst, ◌∙◌, arith}
use Rattle.std.specs.List.Sorted.{IsPermutation}
use Rattle.std.specs.Ordering.{is_eq, nat_cmp}
use Rattle.std.specs.Cmp.{tied_itself}
use Rattle.std.specs.Cmp.Lexicographic.{slice_cmp, nat_list_cmp_total}
use Rattle.std.specs.declared.cmp.Ordering.{Ordering}
use Rattle.std.specs.declared.cmp.Ordering.TheVariants.{Less, Equal, Greater}
use Rattle.std.proofs.lemmas.List.Sorted.{length_permutation}
use Rattle.std.proofs.lemmas.Bool.{and_parts, cases_Bool}
use Rattle.sqlite.specs.declared.types.Value.TheVariants.{Null, Int, Text, Blob}
use Rattle.sqlite.specs.Order.{Row, column, value_cmp}
use Rattle.sqlite.specs.Query.{IsAnswer, Output, output, page}
use Rattle.sqlite.specs.Program.{overlay}
use Rattle.sqlite.specs.Collation.TheVariants.{Binary}
use Rattle.sqlite.specs.Edit.{Edit, edit_of, edited, without_all, taken_by, next_rowid, are_fresh}
use Rattle.sqlite.specs.Rowids.TheVariants.{Chosen}
use Rattle.sqlite.specs.Command.TheVariants.{Delete}
use Rattle.sqlite.specs.Does.{Tally, Does}
use Rattle.sqlite.specs.Rows.{Written}
use Rattle.sqlite.specs.Tree.{Trees, put_row, rowid, has_rowid}
use Rattle.sqlite.specs.Effect.{Database, IsDatabase}
use Rattle.sqlite.specs.View.{IsShaped}
use Rattle.sqlite.proofs.Callers.{one_step, one_permutation}
use Rattle.sqlite_trees.specs.declared.store.Shape.TheVariants as shape
use Rattle.sqlite_trees.proofs.TreeLemmas.{IsShaped-put_row, IsShaped-filter}
use Rattle.sqlite_value.proofs.OrderLemmas.{value_cmp_total}
use Rattle.sqlite_schema.specs.Rules.{equal}
use Rattle.sqlite_schema.specs.declared.schema.Keys.TheVariants.{Enforced}
use Rattle.sqlite_rules.specs.Action.{Writes}
use Rattle.sqlite_rules.specs.Calls.{ids_of}
use Rattle.sqlite_rules.specs.Lists.{Has}
use Rattle.sqlite_rules.proofs.ListLemmas.{has_filtered, has_kept, some_from}
use Rattle.sqlite_rules.proofs.PlaceLemmas.{tied_same}
use Rattle.sqlite_rules.proofs.TableLemmas.{has_put, put_all_keeps}
use Rattle.mvd_records.specs.Tables.{all_tables, old_states_table, new_states_table}
use Rattle.mvd_records.proofs.Rows.{IsEntry, Drops, looked_up, key_of, same_key}
use Rattle.mvd_records.proofs.Rules.{AreStates, new_states_of}
use Rattle.mvd_records.proofs.Asked.{text_tie}
use Rattle.mvd_records.proofs.Saving.{went, same_value, cast_null, plain_mode, only_one, none_picked, entry, one_row_edit, applied, inserted, Saves}
use Rattle.mvd_records.proofs.Texts.{take_query, put_command}

-- ---- the rows with a key

module _ (key : List ℕ) where
  abbrev pub names : Row → Bool
  names x = equal Binary (column x 1) (Text key) && true

  names_is : (x : Row) → IsEntry x → names x ≡ (is_eq (slice_cmp nat_cmp (key_of x) key) && true)
  names_is x it = rw it.is (ap (λ t. t && true) (text_tie it.key key))

  pub names_it : (x : Row) → IsEntry x → key_of x ≡ key → names x ≡ true
  names_it x it e = names_is x it ∙ ap (λ t. t && true) (subst (λ k. is_eq (slice_cmp nat_cmp (key_of x) k) ≡ true) e (ap is_eq (tied_itself nat_list_cmp_total (key_of x))))

  pub named : (x : Row) → IsEntry x → names x ≡ true → key_of x ≡ key
  named x it p = same_key _ _ (and_parts _ _ (sym (names_is x it) ∙ p)).0

  pub unnamed : (x : Row) → IsEntry x → key_of x ≢ key → names x ≡ false
  unnamed x it other = elim (cases_Bool (names x)) [ inl has ↦ absurd (other (named x it has)) | inr none ↦ none ]

pub none_long : {X : Type 0} (xs : List X) → length xs ≡ 0 → xs ≡ []
none_long [] e = refl
none_long (x ∷ xs) e = absurd (omega arith)

-- ---- out of the old table

module _ (key : List ℕ) where
  abbrev given : Row
  given = Text key ∷ []

  abbrev env : Row → List Row
  env x = given ∷ x ∷ []

  -- the statement reads the rowid of the row that has the key, or none
  taken_rows : (db : Trees) (rows : List Row) → AreStates (db 0) → IsAnswer take_query (overlay db []) given rows → (r : Row) → Has (db 0) r → key_of r ≡ key → rows ≡ (rowid r ∷ []) ∷ []
  taken_rows db rows are a r there own =
      let one = λ (x : Row) (h : Has (db 0) x) (p : names key x ≡ true). are.one x r h there (named key x (are.entry x h) p ∙ sym own) in
      let staged : a.staged ≡ env r ∷ [] = a.grouped ∙ only_one (names key) env (db 0) r are.shaped.0 there (names_it key r (are.entry r there) own) one in
      let o : Output = ([], rowid r ∷ []) in
      let kept : a.kept ≡ o ∷ [] = a.distinct ∙ ap (map (output take_query)) staged in
      let ordered = one_permutation o a.ordered (subst (λ k. IsPermutation k a.ordered) kept a.same) in
      a.shown ∙ ap (λ xs. page take_query given (map (λ (p : Output). p.1) xs)) ordered

  no_rows : (db : Trees) (rows : List Row) → AreStates (db 0) → IsAnswer take_query (overlay db []) given rows → ((x : Row) → Has (db 0) x → key_of x ≢ key) → rows ≡ []
  no_rows db rows are a none =
      let staged : a.staged ≡ [] = a.grouped ∙ none_picked (names key) env (db 0) (λ x h. unnamed key x (are.entry x h) (none x h)) in
      let kept : a.kept ≡ [] = a.distinct ∙ ap (map (output take_query)) staged in
      let ordered : a.ordered ≡ [] = none_long a.ordered (omega (arith, length_permutation a.kept a.ordered a.same, ap length kept)) in
      a.shown ∙ ap (λ xs. page take_query given (map (λ (p : Output). p.1) xs)) ordered

pub record Takes (db next : Trees) (key : List ℕ) (count : Option ℕ) : Type 0 where
  pub drops : Drops (db 0) (next 0) key
  pub shaped : IsShaped shape.Table (next 0)
  pub marks : next 2 ≡ db 2
  pub new_rows : next 4 ≡ db 4
  -- the row that was there, or that there was none
  pub found : ((r : Row) × Has (db 0) r × (key_of r ≡ key) × (count ≡ Some 1)) ⊎ (((x : Row) → Has (db 0) x → key_of x ≢ key) × (count ≡ Some 0))

record Cut (db next : Trees) (gone : List ℤ) : Type 0 where
  rows : next 0 ≡ without_all (db 0) gone
  marks : next 2 ≡ db 2
  new_rows : next 4 ≡ db 4

cut : (db next : Trees) (gone : List ℤ) → Writes all_tables Enforced db (record { table = old_states_table; gone = gone; news = [] }) (Ok next) → Cut db next gone
cut db next gone h =
    let it = one_step all_tables Enforced db next (record { table = old_states_table; gone = gone; news = [] }) refl h in
    record { rows = it.rows; marks = it.tables.1.0 (λ e. absurd (omega (arith, e))); new_rows = it.tables.1.1.0 (λ e. absurd (omega (arith, e))) }

tied : (o : Ordering) → is_eq o ≡ true → o ≡ Equal
tied Less h = absurd cc
tied Equal h = refl
tied Greater h = absurd cc

dropped : (db next : Trees) (r : Row) (it : IsEntry r) (key : List ℕ) → AreStates (db 0) → Has (db 0) r → key_of r ≡ key → Cut db next (it.id ∷ []) → Takes db next key (Some 1)
dropped db next r it key are there own done = record {
  drops = subst (λ rows. Drops (db 0) rows key) (sym done.rows) (record {
    from = λ x h. (let was = has_filtered (λ q. not (has_rowid it.id q)) (db 0) x h in
        (was.0, λ k. (let same = are.one x r was.0 there (k ∙ sym own) in let lacks : not (has_rowid it.id r) ≡ true = subst (λ y. not (has_rowid it.id y) ≡ true) same was.1 in let has = mine in cc)));
    kept = λ x h other. has_kept (λ q. not (has_rowid it.id q)) (db 0) x h (elim (cases_Bool (has_rowid it.id x)) [
      | inl has ↦ absurd (other (ap key_of (tied_same (db 0) x r are.shaped.0 h there (subst (λ y. value_cmp (rowid x) (rowid y) ≡ Equal) (sym it.is) (tied _ has))) ∙ own))
      | inr lacks ↦ rw lacks refl
    ]);
  });
  shaped = subst (IsShaped shape.Table) (sym done.rows) (IsShaped-filter shape.Table (λ q. not (has_rowid it.id q)) (db 0) are.shaped);
  marks = done.marks;
  new_rows = done.new_rows;
  found = inl (r, there, own, refl);
}
  where
    mine : has_rowid it.id r ≡ true
    mine = rw it.is (ap is_eq (tied_itself value_cmp_total (Int it.id)))

untouched : (db next : Trees) (key : List ℕ) → AreStates (db 0) → ((x : Row) → Has (db 0) x → key_of x ≢ key) → Cut db next [] → Takes db next key (Some 0)
untouched db next key are none done = record {
  drops = subst (λ rows. Drops (db 0) rows key) (sym done.rows) (record { from = λ x h. (h, none x h); kept = λ x h other. h });
  shaped = subst (IsShaped shape.Table) (sym done.rows) are.shaped;
  marks = done.marks;
  new_rows = done.new_rows;
  found = inr (none, refl);
}

pub takes : (limit : Option ℕ) (text : List ℕ) (db after : Database) (tally : Tally) (key : List ℕ) → db.schema ≡ all_tables → AreStates (db.trees 0)
    → Does limit plain_mode (Text key ∷ []) db text None (Delete 0 (record { lets = []; body = take_query })) (Ok (tally, after)) → (after.schema ≡ all_tables) × Takes db.trees after.trees key tally.rows
takes limit text db after tally key has are h =
    let done = went (subst (λ s. Does limit plain_mode (Text key ∷ []) (record db { schema = s }) text None (Delete 0 (record { lets = []; body = take_query })) (Ok (tally, after))) has h) in
    let end = same_value (went (went done.2).2).2 in
    let now = ap (λ (p : Tally × Database). p.1) end in
    let counts : tally.rows ≡ Some (length done.0.rows) = ap (λ (p : Tally × Database). p.0.rows) end in
    let queried = went done.1 in
    let edit = went queried.2 in
    let written = same_value edit.2 in
    let trees : after.trees ≡ edit.0 = ap (λ (d : Database). d.trees) now ∙ ap (λ (w : Written). w.trees) written in
    let answer : IsAnswer take_query (overlay db.trees []) (Text key ∷ []) queried.0 = queried.1.answer Null in
    let gone_so = λ (gone : List ℤ) (is : ids_of queried.0 ≡ gone). (
    let some : tally.rows ≡ Some (length (map (Rattle.sqlite.specs.Edit.row_at (db.trees 0)) gone)) = counts ∙ ap (λ (w : Written). Some (length w.rows)) written ∙ ap (λ ids. Some (length (map (Rattle.sqlite.specs.Edit.row_at (db.trees 0)) ids))) is in
    let it : Cut db.trees edit.0 gone = cut db.trees edit.0 gone (subst (λ ids. Writes all_tables Enforced db.trees (record { table = old_states_table; gone = ids; news = [] }) (Ok edit.0)) is edit.1) in
    let both : (tally.rows ≡ Some (length (map (Rattle.sqlite.specs.Edit.row_at (db.trees 0)) gone))) × Cut db.trees edit.0 gone = (some, it) in both) in
    let takes_it : Takes db.trees edit.0 key tally.rows = (elim (looked_up (db.trees 0) key) [
      | inl it ↦ (
          let e = are.entry it.0 it.1 in
          let rows = taken_rows key db.trees queried.0 are answer it.0 it.1 it.2 in
          let ids : ids_of queried.0 ≡ e.id ∷ [] = ap ids_of rows ∙ ap (λ (x : Row). ids_of ((rowid x ∷ []) ∷ [])) e.is in
          let so = gone_so (e.id ∷ []) ids in
          subst (Takes db.trees edit.0 key) (sym so.0) (dropped db.trees edit.0 it.0 e key are it.1 it.2 so.1))
      | inr none ↦ (
          let ids : ids_of queried.0 ≡ [] = ap ids_of (no_rows key db.trees queried.0 are answer none) in
          let so = gone_so [] ids in
          subst (Takes db.trees edit.0 key) (sym so.0) (untouched db.trees edit.0 key are none so.1))
    ]) in
    (ap (λ (d : Database). d.schema) now, subst (λ t. Takes db.trees t key tally.rows) (sym trees) takes_it)

-- ---- into the new table

not_taken : (rows : List Row) (row : Row) → are_fresh rows (row ∷ []) ≡ true → ¬ Has rows row
not_taken rows row fresh there =
    let taken = some_from (λ r. is_eq (value_cmp (rowid r) (rowid row))) rows row there (ap is_eq (tied_itself value_cmp_total (rowid row))) in
    let free = (and_parts _ _ fresh).0 in
    let lacks : not true ≡ true = subst (λ b. not b ≡ true) taken free in
    absurd cc

pub puts : (limit : Option ℕ) (text : List ℕ) (db after : Database) (tally : Tally) (key state : List ℕ) → db.schema ≡ all_tables → AreStates (db.trees 4) → IsDatabase after
    → Does limit plain_mode (Text key ∷ Blob state ∷ []) db text None put_command (Ok (tally, after)) → (after.schema ≡ all_tables) × Saves db.trees after.trees key state
puts limit text db after tally key state has are sound h =
    let params = Text key ∷ Blob state ∷ [] in
    let done = went (subst (λ s. Does limit plain_mode params (record db { schema = s }) text None put_command (Ok (tally, after))) has h) in
    let now = ap (λ (p : Tally × Database). p.1) (same_value (went (went done.2).2).2) in
    let given = went done.1 in
    let written = went (went given.2).2 in
    let counted = went written.2 in
    let trees : done.0.trees ≡ written.0 = ap (λ (it : Written). it.trees) (same_value counted.2) ∙ same_value counted.1 in
    let all : after.trees ≡ written.0 = ap (λ (d : Database). d.trees) now ∙ trees in
    let schema = ap (λ (d : Database). d.schema) now in
    let id = next_rowid (db.trees 4) in
    let same : edit_of db.trees new_states_table [] Chosen 0 given.0 ≡ one_row_edit [] (entry id key state) = ap (λ rows. edit_of db.trees new_states_table [] Chosen 0 rows) given.1.1 ∙ (rw cast_null refl) in
    let it = applied db.trees written.0 [] (entry id key state) (subst (λ e. Writes all_tables Enforced db.trees e (Ok written.0)) same written.1) in
    let shaped : IsShaped shape.Table (after.trees 4) = subst (λ (t : Trees). IsShaped shape.Table (t 4)) (sym all) (subst (IsShaped shape.Table) (sym it.rows) (IsShaped-put_row (entry id key state) (db.trees 4) refl are.shaped)) in
    let after_states = new_states_of after schema sound shaped in
    let there = λ (x : Row) (h : Has (put_row (entry id key state) (db.trees 4)) x). (let put : Has (after.trees 4) x = subst (λ (t : Trees). Has (t 4) x) (sym all) (subst (λ (rows : List Row). Has rows x) (sym it.rows) h) in put) in
    let none = λ (x : Row) (h : Has (db.trees 4) x) (k : key_of x ≡ key). (
    let is : x ≡ entry id key state = after_states.one x (entry id key state) (there x (put_all_keeps (entry id key state ∷ []) (db.trees 4) x it.fresh h)) (there (entry id key state) (has_put (entry id key state) (db.trees 4))) k in
    not_taken (db.trees 4) (entry id key state) it.fresh (subst (Has (db.trees 4)) is h)) in
    (schema, subst (λ t. Saves db.trees t key state) (sym all) (inserted db.trees written.0 id key state are none it))
