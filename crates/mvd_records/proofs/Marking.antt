-- Reading the marks, and writing the first ones.
use Rattle.std.proofs.Common.{◌≡◌, inl, inr, ℕ, pos, ◌+ℤ◌, List, [], ◌∷◌, map, length, codes, Option, Some, None, Ok, Err, Result, refl, sym, ap, subst, ◌∙◌, arith}
use Rattle.std.specs.Ordering.{int_cmp}
use Rattle.std.specs.Cmp.{int_cmp_is}
use Rattle.std.specs.declared.cmp.Ordering.TheVariants.{Less}
use Rattle.std.proofs.lemmas.Int.{ints}
use Rattle.std.specs.List.Sorted.{IsPermutation}
use Rattle.std.proofs.lemmas.List.Sorted.{IsPermutation-map, IsPermutation-sym, IsPermutation-trans, length_permutation}
use Rattle.sqlite.specs.declared.types.Value.TheVariants.{Null, Int, Text}
use Rattle.sqlite.specs.Order.{Row}
use Rattle.sqlite.specs.Query.{IsAnswer, Output, output}
use Rattle.sqlite.specs.Program.{overlay}
use Rattle.sqlite.specs.Edit.{edit_of, edited}
use Rattle.sqlite.specs.Rowids.TheVariants.{Chosen}
use Rattle.sqlite.specs.Source.TheVariants.{Values}
use Rattle.sqlite.specs.Command.TheVariants.{Insert}
use Rattle.sqlite.specs.Does.{Tally, Does}
use Rattle.sqlite.specs.Rows.{Written}
use Rattle.sqlite.specs.Tree.{Trees}
use Rattle.sqlite.specs.Effect.{Database, IsDatabase}
use Rattle.sqlite.specs.Listing.{understood}
use Rattle.sqlite.specs.State.{State, Executes, Shown}
use Rattle.sqlite.specs.View.{IsShaped}
use Rattle.sqlite.proofs.Callers.{statement_of, reads_as, runs_as, one_step}
use Rattle.sqlite_trees.specs.declared.store.Shape.TheVariants as shape
use Rattle.sqlite_value.proofs.OrderLemmas.{value_cmp-Int}
use Rattle.sqlite_trees.proofs.ListLemmas.{map-map, IsPermutation-same}
use Rattle.mvd_dots.specs.declared.refusals.Refusal.{Refusal}
use Rattle.mvd_dots.specs.declared.refusals.Refusal.TheVariants.{SiteMismatch, Damaged}
use Rattle.mvd_records.specs.Tables.{all_tables, old_states_table, meta, new_states_table}
use Rattle.mvd_records.specs.States.{AreMarks, first_two, shown_row, states_in}
use Rattle.mvd_records.specs.Records.{HasTables, HoldsRecords, IsQuiescent, OpensRecords, KeepsRows, KeepsStates, TellsVersion, TellsMarks, marks_of, rows_at}
use Rattle.mvd_records.proofs.Asked.{one_each}
use Rattle.mvd_records.proofs.Calls.{shown_open}
use Rattle.mvd_records.proofs.Saving.{went, same_value, cast_null, cast_int, plain_mode}
use Rattle.mvd_records.proofs.Saved.{rows_there, with_rows}
use Rattle.mvd_records.proofs.Texts.{marks_text, marks_query, marks_is, marks_plain, mark_text, mark_terms, mark_is, mark_plain}

listed_marks : (old new : State) (answer : List Row) → old.now.schema ≡ all_tables → Shown marks_text [] old new answer → IsPermutation (map shown_row (old.now.trees 2)) answer
listed_marks old new answer has h =
    let read = reads_as marks_text [] old new all_tables has _ marks_is.0 marks_plain marks_is.1 answer h in
    let a : IsAnswer marks_query (overlay old.now.trees []) [] answer = read.answer Null in
    let rows = old.now.trees 2 in
    let kept = a.distinct ∙ ap (map (output marks_query)) (a.grouped ∙ one_each (λ (r : Row). [] ∷ r ∷ []) rows) ∙ map-map (output marks_query) (λ (r : Row). [] ∷ r ∷ []) rows in
    let seconds = IsPermutation-map (λ (o : Output). o.1) _ _ (subst (λ k. IsPermutation k a.ordered) kept a.same) in
    subst (IsPermutation (map shown_row rows)) (sym a.shown) (subst (λ k. IsPermutation k (map (λ (o : Output). o.1) a.ordered)) (map-map (λ (o : Output). o.1) (λ (r : Row). output marks_query ([] ∷ r ∷ [])) rows) seconds)

pub meta_there : (db : Database) → db.schema ≡ all_tables → rows_at db 2 ≡ db.trees 2
meta_there db has = ap (λ s. rows_at (record { schema = s; trees = db.trees }) 2) has

none_long : {X : Type 0} (xs : List X) → length xs ≡ 0 → xs ≡ []
none_long [] e = refl
none_long (x ∷ xs) e = absurd (omega arith)

moved_none : (p q : List Row) → IsPermutation p q → q ≡ [] → p ≡ []
moved_none p q same none = none_long p (omega (arith, length_permutation p q same, ap length none))

tells_moved : (p q : List Row) (site : ℕ) (r : Result (Option ℕ) Refusal) → IsPermutation p q → TellsMarks q site r → TellsMarks p site r
tells_moved p q site (Ok None) same h = moved_none p q same h
tells_moved p q site (Ok (Some version)) same h = (h.0, IsPermutation-trans p q _ same h.1)
tells_moved p q site (Err SiteMismatch) same h = (h.0, h.1, (h.2.0, h.2.1, IsPermutation-trans p q _ same h.2.2), h.3)
tells_moved p q site (Err Damaged) same h = (λ e. h.0 (moved_none q p (IsPermutation-sym p q same) e), λ v s it. h.1 v s (it.0, it.1, IsPermutation-trans q p _ (IsPermutation-sym p q same) it.2))
tells_moved p q site (Err _) same h = tt

-- what the rows that are read tell is what the table tells
pub told_marks : (old new : State) (answer : List Row) (site : ℕ) (r : Result (Option ℕ) Refusal) → HasTables all_tables old.now → Shown marks_text [] old new answer → TellsMarks (map first_two answer) site r → TellsMarks (marks_of old.now) site r
told_marks old new answer site r has h tells =
    let same = IsPermutation-map first_two _ _ (listed_marks old new answer has.schema h) in
    let moved : IsPermutation (map shown_row (old.now.trees 2)) (map first_two answer) = subst (λ l. IsPermutation l (map first_two answer)) (map-map first_two shown_row (old.now.trees 2)) same in
    subst (λ (rows : List Row). TellsMarks (map shown_row rows) site r) (sym (meta_there old.now has.schema)) (tells_moved _ _ site r moved tells)

-- and what marks are read are those of the table
pub named_marks : (old new : State) (answer : List Row) (v s : ℕ) → HasTables all_tables old.now → Shown marks_text [] old new answer → AreMarks v s (map first_two answer) → AreMarks v s (marks_of old.now)
named_marks old new answer v s has h are =
    let same = IsPermutation-map first_two _ _ (listed_marks old new answer has.schema h) in
    let moved : IsPermutation (map shown_row (old.now.trees 2)) (map first_two answer) = subst (λ l. IsPermutation l (map first_two answer)) (map-map first_two shown_row (old.now.trees 2)) same in
    subst (λ (rows : List Row). AreMarks v s (map shown_row rows)) (sym (meta_there old.now has.schema)) (IsPermutation-trans _ _ _ moved are)

-- so they are those that the last commit held, where no transaction is under way
pub named_by : (old new : State) (answer : List Row) (v s : ℕ) → IsQuiescent old → HasTables all_tables old.committed → Shown marks_text [] old new answer → AreMarks v s (map first_two answer) → AreMarks v s (marks_of old.committed)
named_by old new answer v s settled has h are =
    let now = settled.settled (shown_open marks_text [] old new answer h) in
    subst (λ (d : Database). AreMarks v s (marks_of d)) now (named_marks old new answer v s (subst (HasTables all_tables) (sym now) has) h are)

-- the marks that are there tell the version
pub told_opens : (version site : ℕ) (old new : Database) → new ≡ old → HasTables all_tables old → TellsMarks (marks_of old) site (Ok (Some version)) → OpensRecords version site old new
told_opens version site old new same has told = subst (OpensRecords version site old) (sym same) (record {
  holds = record { tables = has; marks = subst (λ (rows : List Row). AreMarks version site (map shown_row rows)) (meta_there old has.schema) told.1 };
  states = record { old_same = refl; new_same = refl };
  told = inr told;
})

-- the marks that are written where there were none
pub marked_opens : (site : ℕ) (old mid new : Database) → mid ≡ old → marks_of old ≡ [] → HoldsRecords 2 site new × KeepsStates mid new → OpensRecords 2 site old new
marked_opens site old mid new same none it = record { holds = it.0; states = subst (λ (d : Database). KeepsStates d new) same it.1; told = inl (none, refl) }

-- the tables that were made before have the same rows
pub opens_since : (old mid new : Database) (version site : ℕ) → KeepsRows old mid → OpensRecords version site mid new → OpensRecords version site old new
opens_since old mid new version site kept it = record {
  holds = it.holds;
  states = record { old_same = it.states.old_same ∙ ap states_in kept.old_rows; new_same = it.states.new_same ∙ ap states_in kept.new_rows };
  told = subst (λ (l : List Row). TellsVersion (map shown_row l) site (Ok version)) kept.marks it.told;
}

-- ---- the first marks

abbrev first_marks : ℕ → List Row
first_marks site = (Int (pos 1) ∷ Text (codes "format") ∷ Int (pos 2) ∷ []) ∷ (Int (pos 2) ∷ Text (codes "site") ∷ Int (pos site) ∷ []) ∷ []

pub record Marks (db next : Trees) (site : ℕ) : Type 0 where
  pub rows : next 2 ≡ first_marks site
  pub old_rows : next 0 ≡ db 0
  pub new_rows : next 4 ≡ db 4

second_above : int_cmp (pos 1) (pos 1 +ℤ pos 1) ≡ Less
second_above = sym (int_cmp_is (pos 1) (pos 1 +ℤ pos 1) Less (omega (arith, ints)))

marks_written : (limit : Option ℕ) (text : List ℕ) (db after : Database) (tally : Tally) (site : ℕ) → db.schema ≡ all_tables → db.trees 2 ≡ []
    → Does limit plain_mode (Int (pos site) ∷ []) db text None (Insert 1 (Values mark_terms 3)) (Ok (tally, after)) → (after.schema ≡ all_tables) × Marks db.trees after.trees site
marks_written limit text db after tally site has none h =
    let params = Int (pos site) ∷ [] in
    let done = went (subst (λ s. Does limit plain_mode params (record db { schema = s }) text None (Insert 1 (Values mark_terms 3)) (Ok (tally, after))) has h) in
    let now = ap (λ (p : Tally × Database). p.1) (same_value (went (went done.2).2).2) in
    let given = went done.1 in
    let written = went (went given.2).2 in
    let counted = went written.2 in
    let trees : done.0.trees ≡ written.0 = ap (λ (it : Written). it.trees) (same_value counted.2) ∙ same_value counted.1 in
    let all : after.trees ≡ written.0 = ap (λ (d : Database). d.trees) now ∙ trees in
    let it = one_step all_tables _ db.trees written.0 (edit_of db.trees meta [] Chosen 0 given.0) refl written.1 in
    let edit : edited db.trees (edit_of db.trees meta [] Chosen 0 given.0) ≡ first_marks site = ap (λ rows. edited db.trees (edit_of db.trees meta [] Chosen 0 rows)) given.1.1 ∙ rw (none, cast_null, cast_int (pos site), cast_int (pos 2), value_cmp-Int) in (
      ap (λ (d : Database). d.schema) now,
      record {
        rows = ap (λ (t : Trees). t 2) all ∙ (it.rows ∙ edit);
        old_rows = ap (λ (t : Trees). t 0) all ∙ it.tables.0 (λ e. absurd (omega (arith, e)));
        new_rows = ap (λ (t : Trees). t 4) all ∙ it.tables.1.1.0 (λ e. absurd (omega (arith, e)));
      },
    )

shaped_marks : (site : ℕ) → IsShaped shape.Table (first_marks site)
shaped_marks site = (((value_cmp-Int (pos 1) (pos 2) ∙ second_above, tt), (tt, tt)), (refl, (refl, tt)))

pub marks_sound : (old new : State) (site count : ℕ) → HasTables all_tables old.now → Executes mark_text (Int (pos site) ∷ []) old new (Ok count) → IsDatabase new.now
marks_sound old new site count has h = (runs_as mark_text (Int (pos site) ∷ []) old new all_tables has.schema (Insert 1 (Values mark_terms 3)) mark_is mark_plain count h).sound

pub marked : (old new : State) (site count : ℕ) → HasTables all_tables old.now → marks_of old.now ≡ [] → Executes mark_text (Int (pos site) ∷ []) old new (Ok count) → HoldsRecords 2 site new.now × KeepsStates old.now new.now
marked old new site count has none h =
    let w = runs_as mark_text (Int (pos site) ∷ []) old new all_tables has.schema (Insert 1 (Values mark_terms 3)) mark_is mark_plain count h in
    let empty : old.now.trees 2 ≡ [] = map_none (old.now.trees 2) (ap (map shown_row) (sym (meta_there old.now has.schema)) ∙ none) in
    let it = marks_written old.step_limit (statement_of mark_text (understood all_tables mark_text)) old.now new.now w.tally site has.schema empty w.changed in (
      record {
        tables = with_rows new.now it.0 (subst (IsShaped shape.Table) (sym it.1.old_rows) (has.rows old_states_table (inl refl))) (subst (IsShaped shape.Table) (sym it.1.rows) (shaped_marks site)) (subst (IsShaped shape.Table) (sym it.1.new_rows) (has.rows new_states_table (inr (inr (inl refl)))));
        marks = IsPermutation-same _ _ (ap (map shown_row) it.1.rows);
      },
      record {
        old_same = ap states_in ((rows_there new.now it.0).0 ∙ (it.1.old_rows ∙ sym (rows_there old.now has.schema).0));
        new_same = ap states_in ((rows_there new.now it.0).1 ∙ (it.1.new_rows ∙ sym (rows_there old.now has.schema).1));
      },
    )
  where
    map_none : (rows : List Row) → map shown_row rows ≡ [] → rows ≡ []
    map_none [] e = refl
    map_none (r ∷ rows) e = absurd cc
