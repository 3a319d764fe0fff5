-- What the statement that changes a state does to the rows.
use Rattle.std.proofs.Common.{◌≡◌, ◌≢◌, ◌⊎◌, inl, inr, ℕ, List, [], ◌∷◌, map, length, true, Option, Some, None, Ok, refl, sym, ap, subst, ◌∙◌, arith}
use Rattle.std.specs.List.Sorted.{IsPermutation}
use Rattle.std.proofs.lemmas.List.Sorted.{length_permutation}
use Rattle.sqlite.specs.declared.types.Value.TheVariants.{Null, Int, Text, Blob}
use Rattle.sqlite.specs.Order.{Row, column}
use Rattle.sqlite.specs.Query.{IsAnswer, Output, output, page}
use Rattle.sqlite.specs.Program.{overlay}
use Rattle.sqlite.specs.Edit.{Edit, edit_of}
use Rattle.sqlite.specs.Rowids.TheVariants.{Given}
use Rattle.sqlite.specs.Does.{Tally, Does}
use Rattle.sqlite.specs.Rows.{Written}
use Rattle.sqlite.specs.Tree.{Trees, rowid}
use Rattle.sqlite.specs.Effect.{Database}
use Rattle.sqlite.proofs.Callers.{one_step, one_permutation}
use Rattle.sqlite_schema.specs.declared.schema.Keys.TheVariants.{Enforced}
use Rattle.sqlite_rules.specs.Action.{Writes}
use Rattle.sqlite_rules.specs.Calls.{ids_of}
use Rattle.sqlite_rules.specs.Lists.{Has}
use Rattle.mvd_records.specs.Tables.{all_tables, new_states_table}
use Rattle.mvd_records.proofs.Rows.{looked_up, key_of}
use Rattle.mvd_records.proofs.Rules.{AreStates}
use Rattle.mvd_records.proofs.Saving.{went, same_value, cast_int, plain_mode, only_one, none_picked, entry, one_row_edit, applied, replaced, Saves}
use Rattle.mvd_records.proofs.Taking.{names, names_it, named, unnamed, none_long}
use Rattle.mvd_records.proofs.Texts.{change_query, change_command}

module _ (key state : List ℕ) where
  abbrev given : Row
  given = Text key ∷ Blob state ∷ []

  abbrev env : Row → List Row
  env x = given ∷ x ∷ []

  -- what it reads of a row: the rowid, before and after, and what the row becomes
  abbrev answer : Row → Row
  answer x = rowid x ∷ rowid x ∷ column x 1 ∷ Blob state ∷ []

  -- the statement reads the row that has the key, or none
  read_one : (db : Trees) (rows : List Row) → AreStates (db 4) → IsAnswer change_query (overlay db []) given rows → (r : Row) → Has (db 4) r → key_of r ≡ key → rows ≡ answer r ∷ []
  read_one db rows are a r there own =
      let one = λ (x : Row) (h : Has (db 4) x) (p : names key x ≡ true). are.one x r h there (named key x (are.entry x h) p ∙ sym own) in
      let staged : a.staged ≡ env r ∷ [] = a.grouped ∙ only_one (names key) env (db 4) r are.shaped.0 there (names_it key r (are.entry r there) own) one in
      let o : Output = ([], answer r) in
      let kept : a.kept ≡ o ∷ [] = a.distinct ∙ ap (map (output change_query)) staged in
      let ordered = one_permutation o a.ordered (subst (λ k. IsPermutation k a.ordered) kept a.same) in
      a.shown ∙ ap (λ xs. page change_query given (map (λ (p : Output). p.1) xs)) ordered

  read_none : (db : Trees) (rows : List Row) → AreStates (db 4) → IsAnswer change_query (overlay db []) given rows → ((x : Row) → Has (db 4) x → key_of x ≢ key) → rows ≡ []
  read_none db rows are a none =
      let staged : a.staged ≡ [] = a.grouped ∙ none_picked (names key) env (db 4) (λ x h. unnamed key x (are.entry x h) (none x h)) in
      let kept : a.kept ≡ [] = a.distinct ∙ ap (map (output change_query)) staged in
      let ordered : a.ordered ≡ [] = none_long a.ordered (omega (arith, length_permutation a.kept a.ordered a.same, ap length kept)) in
      a.shown ∙ ap (λ xs. page change_query given (map (λ (p : Output). p.1) xs)) ordered

-- the row that was there has the state
pub record Changed (db next : Trees) (key state : List ℕ) (count : Option ℕ) : Type 0 where
  pub row : Row
  pub there : Has (db 4) row
  pub own : key_of row ≡ key
  pub counted : count ≡ Some 1
  pub saves : Saves db next key state

-- there was no such row, and nothing changed
pub record Unchanged (db next : Trees) (key : List ℕ) (count : Option ℕ) : Type 0 where
  pub none : (x : Row) → Has (db 4) x → key_of x ≢ key
  pub counted : count ≡ Some 0
  pub old_rows : next 0 ≡ db 0
  pub marks : next 2 ≡ db 2
  pub new_rows : next 4 ≡ db 4

abbrev pub Changes : Trees → Trees → List ℕ → List ℕ → Option ℕ → Type 0
Changes db next key state count = Changed db next key state count ⊎ Unchanged db next key count

abbrev no_edit : Edit
no_edit = record { table = new_states_table; gone = []; news = [] }

nothing_done : (db next : Trees) (key : List ℕ) (count : Option ℕ) → ((x : Row) → Has (db 4) x → key_of x ≢ key) → count ≡ Some 0 → Writes all_tables Enforced db no_edit (Ok next) → Unchanged db next key count
nothing_done db next key count none counted h =
    let it = one_step all_tables Enforced db next no_edit refl h in
    record { none = none; counted = counted; old_rows = it.tables.0 (λ e. absurd (omega (arith, e))); marks = it.tables.1.0 (λ e. absurd (omega (arith, e))); new_rows = it.rows }

pub changes : (limit : Option ℕ) (text : List ℕ) (db after : Database) (tally : Tally) (key state : List ℕ) → db.schema ≡ all_tables → AreStates (db.trees 4)
    → Does limit plain_mode (Text key ∷ Blob state ∷ []) db text None change_command (Ok (tally, after)) → (after.schema ≡ all_tables) × Changes db.trees after.trees key state tally.rows
changes limit text db after tally key state has are h =
    let params = Text key ∷ Blob state ∷ [] in
    let done = went (subst (λ s. Does limit plain_mode params (record db { schema = s }) text None change_command (Ok (tally, after))) has h) in
    let end = same_value (went (went done.2).2).2 in
    let now = ap (λ (p : Tally × Database). p.1) end in
    let queried = went done.1 in
    let edit = went queried.2 in
    let written = same_value edit.2 in
    let trees : after.trees ≡ edit.0 = ap (λ (d : Database). d.trees) now ∙ ap (λ (w : Written). w.trees) written in
    let answer : IsAnswer change_query (overlay db.trees []) params queried.0 = queried.1.answer Null in
    let so = λ (e : Edit) (is : edit_of db.trees new_states_table (ids_of queried.0) Given 1 queried.0 ≡ e). (
    let some : tally.rows ≡ Some (length e.news) = ap (λ (p : Tally × Database). p.0.rows) end ∙ ap (λ (w : Written). Some (length w.rows)) written ∙ ap (λ (x : Edit). Some (length x.news)) is in
    let it : Writes all_tables Enforced db.trees e (Ok edit.0) = subst (λ x. Writes all_tables Enforced db.trees x (Ok edit.0)) is edit.1 in
    let both : (tally.rows ≡ Some (length e.news)) × Writes all_tables Enforced db.trees e (Ok edit.0) = (some, it) in both) in
    let whole : Changes db.trees edit.0 key state tally.rows = (elim (looked_up (db.trees 4) key) [
      | inl it ↦ (
          let e = are.entry it.0 it.1 in
          let new = entry e.id e.key state in
          let rows : queried.0 ≡ (Int e.id ∷ Int e.id ∷ Text e.key ∷ Blob state ∷ []) ∷ [] = read_one key state db.trees queried.0 are answer it.0 it.1 it.2 ∙ ap (λ (x : Row). (rowid x ∷ rowid x ∷ column x 1 ∷ Blob state ∷ []) ∷ []) e.is in
          let same : edit_of db.trees new_states_table (ids_of queried.0) Given 1 queried.0 ≡ one_row_edit (e.id ∷ []) new
          = ap (λ all. edit_of db.trees new_states_table (ids_of all) Given 1 all) rows ∙ (rw (cast_int e.id) refl) in
          let one = so (one_row_edit (e.id ∷ []) new) same in
          let saves = replaced db.trees edit.0 it.0 e state are it.1 (applied db.trees edit.0 (e.id ∷ []) new one.1) in
          let own : e.key ≡ key = sym (ap key_of e.is) ∙ it.2 in
          inl (record { row = it.0; there = it.1; own = it.2; counted = one.0; saves = subst (λ k. Saves db.trees edit.0 k state) own saves }))
      | inr none ↦ (
          let same : edit_of db.trees new_states_table (ids_of queried.0) Given 1 queried.0 ≡ no_edit = ap (λ all. edit_of db.trees new_states_table (ids_of all) Given 1 all) (read_none key state db.trees queried.0 are answer none) in
          let one = so no_edit same in
          inr (nothing_done db.trees edit.0 key tally.rows none one.0 one.1))
    ]) in
    (ap (λ (d : Database). d.schema) now, subst (λ t. Changes db.trees t key state tally.rows) (sym trees) whole)
