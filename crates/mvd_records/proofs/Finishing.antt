-- What the statement that ends the move of keys does to the marks.
use Rattle.std.proofs.Common.{◌≡◌, inl, inr, ℕ, ℤ, pos, List, [], ◌∷◌, ◌&&◌, map, length, codes, Bool, true, false, not, Option, None, Ok, refl, sym, ap, subst, ◌∙◌, arith}
use Rattle.std.specs.List.Sorted.{IsPermutation}
use Rattle.std.specs.Ordering.{is_eq}
use Rattle.std.specs.Cmp.{tied_itself}
use Rattle.std.specs.declared.cmp.Ordering.TheVariants.{Less, Equal, Greater}
use Rattle.std.proofs.lemmas.List.Sorted.{length_permutation}
use Rattle.std.proofs.lemmas.List.{length-map}
use Rattle.sqlite.specs.declared.types.Value.{Value}
use Rattle.sqlite.specs.declared.types.Value.TheVariants.{Null, Int, Text}
use Rattle.sqlite.specs.Order.{Row, column, value_cmp}
use Rattle.sqlite.specs.Query.{IsAnswer, Output, output, page}
use Rattle.sqlite.specs.Program.{overlay}
use Rattle.sqlite.specs.Collation.TheVariants.{Binary}
use Rattle.sqlite.specs.Edit.{Edit, edit_of, without_all}
use Rattle.sqlite.specs.Rowids.TheVariants.{Given}
use Rattle.sqlite.specs.Command.TheVariants.{Update}
use Rattle.sqlite.specs.Does.{Tally, Does}
use Rattle.sqlite.specs.Rows.{Written}
use Rattle.sqlite.specs.Tree.{Trees, put_row, rowid, has_rowid}
use Rattle.sqlite.specs.Effect.{Database}
use Rattle.sqlite.specs.View.{IsShaped}
use Rattle.sqlite.proofs.Callers.{one_step, one_permutation}
use Rattle.sqlite_trees.specs.declared.store.Shape.TheVariants as shape
use Rattle.sqlite_trees.proofs.TreeLemmas.{IsShaped-put_row, IsShaped-filter}
use Rattle.sqlite_value.proofs.OrderLemmas.{value_cmp_total}
use Rattle.sqlite_schema.specs.Rules.{equal}
use Rattle.sqlite_schema.specs.declared.schema.Keys.TheVariants.{Enforced}
use Rattle.sqlite_rules.specs.Action.{Writes}
use Rattle.sqlite_rules.specs.Calls.{ids_of}
use Rattle.sqlite_rules.specs.Lists.{Has}
use Rattle.mvd_records.specs.Tables.{all_tables, meta}
use Rattle.mvd_records.specs.States.{AreMarks, shown_row}
use Rattle.mvd_records.proofs.Rules.{int_value}
use Rattle.mvd_records.proofs.Asked.{text_tie}
use Rattle.mvd_records.proofs.Marked.{either, in_order, turned}
use Rattle.mvd_records.proofs.Saving.{went, same_value, cast_int, plain_mode, only_one}
use Rattle.mvd_records.proofs.Texts.{finish_query}

abbrev picks : Row → Bool
picks x = equal Binary (column x 1) (Text (codes "format")) && true

abbrev env : Row → List Row
env x = [] ∷ x ∷ []

named : (x : Row) (name : List ℕ) → column x 1 ≡ Text name → picks x ≡ (is_eq (Rattle.std.specs.Cmp.Lexicographic.slice_cmp Rattle.std.specs.Ordering.nat_cmp name (codes "format")) && true)
named x name e = ap (λ v. equal Binary v (Text (codes "format")) && true) e ∙ ap (λ t. t && true) (text_tie name (codes "format"))

abbrev new_mark : ℤ → Row
new_mark i = Int i ∷ Text (codes "format") ∷ Int (pos 2) ∷ []

abbrev answer_row : ℤ → Row
answer_row i = Int i ∷ Int i ∷ Text (codes "format") ∷ Int (pos 2) ∷ []

-- the update reads just the row of the format
read_one : (db : Trees) (f : Row) (i : ℤ) (rows : List Row) → IsShaped shape.Table (db 2) → Has (db 2) f → rowid f ≡ Int i → column f 1 ≡ Text (codes "format") → ((x : Row) → Has (db 2) x → picks x ≡ true → x ≡ f)
    → IsAnswer finish_query (overlay db []) [] rows → rows ≡ answer_row i ∷ []
read_one db f i rows shaped there own name one a =
    let staged : a.staged ≡ env f ∷ [] = a.grouped ∙ only_one picks env (db 2) f shaped.0 there (named f _ name) one in
    let o : Output = ([], rowid f ∷ rowid f ∷ column f 1 ∷ Int (pos 2) ∷ []) in
    let kept : a.kept ≡ o ∷ [] = a.distinct ∙ ap (map (output finish_query)) staged in
    let ordered = one_permutation o a.ordered (subst (λ k. IsPermutation k a.ordered) kept a.same) in
    let shows : rows ≡ o.1 ∷ [] = a.shown ∙ ap (λ xs. page finish_query [] (map (λ (p : Output). p.1) xs)) ordered in
    shows ∙ (ap (λ v. (v ∷ v ∷ column f 1 ∷ Int (pos 2) ∷ []) ∷ []) own ∙ ap (λ v. (Int i ∷ Int i ∷ v ∷ Int (pos 2) ∷ []) ∷ []) name)

pub record Remarks (db next : Trees) (row : Row) (i : ℤ) : Type 0 where
  pub rows : next 2 ≡ put_row row (without_all (db 2) (i ∷ []))
  pub old_rows : next 0 ≡ db 0
  pub new_rows : next 4 ≡ db 4

updated : (limit : Option ℕ) (text : List ℕ) (db after : Database) (tally : Tally) (f : Row) (i : ℤ) → db.schema ≡ all_tables → IsShaped shape.Table (db.trees 2) → Has (db.trees 2) f → rowid f ≡ Int i → column f 1 ≡ Text (codes "format")
    → ((x : Row) → Has (db.trees 2) x → picks x ≡ true → x ≡ f) → Does limit plain_mode [] db text None (Update 1 (record { lets = []; body = finish_query })) (Ok (tally, after))
    → (after.schema ≡ all_tables) × Remarks db.trees after.trees (new_mark i) i
updated limit text db after tally f i has shaped there own name one h =
    let done = went (subst (λ s. Does limit plain_mode [] (record db { schema = s }) text None (Update 1 (record { lets = []; body = finish_query })) (Ok (tally, after))) has h) in
    let now = ap (λ (p : Tally × Database). p.1) (same_value (went (went done.2).2).2) in
    let queried = went done.1 in
    let rows = read_one db.trees f i queried.0 shaped there own name one (queried.1.answer Null) in
    let edit = went queried.2 in
    let written : Edit = record { table = meta; gone = i ∷ []; news = new_mark i ∷ [] } in
    let same : edit_of db.trees meta (ids_of queried.0) Given 1 queried.0 ≡ written = ap (λ all. edit_of db.trees meta (ids_of all) Given 1 all) rows ∙ (rw (cast_int i, cast_int (pos 2)) refl) in
    let trees : after.trees ≡ edit.0 = ap (λ (d : Database). d.trees) now ∙ ap (λ (w : Written). w.trees) (same_value edit.2) in
    let it = one_step all_tables Enforced db.trees edit.0 written refl (subst (λ e. Writes all_tables Enforced db.trees e (Ok edit.0)) same edit.1) in (
      ap (λ (d : Database). d.schema) now,
      record {
        rows = ap (λ (t : Trees). t 2) trees ∙ it.rows;
        old_rows = ap (λ (t : Trees). t 0) trees ∙ it.tables.0 (λ e. absurd (omega (arith, e)));
        new_rows = ap (λ (t : Trees). t 4) trees ∙ it.tables.1.1.0 (λ e. absurd (omega (arith, e)));
      },
    )

-- ---- the two rows

above : (a b : Value) → value_cmp a b ≡ Less → value_cmp b a ≡ Greater
above a b less = value_cmp_total.antisymm b a ∙ ap Rattle.std.specs.Ordering.ordering_reverse less

own_id : (i : ℤ) → value_cmp (Int i) (Int i) ≡ Equal
own_id i = tied_itself value_cmp_total (Int i)

first_put : (a b : Row) (i : ℤ) → rowid a ≡ Int i → value_cmp (rowid a) (rowid b) ≡ Less → put_row (new_mark i) (without_all (a ∷ b ∷ []) (i ∷ [])) ≡ new_mark i ∷ b ∷ []
first_put a b i own less =
    let tie : value_cmp (rowid a) (Int i) ≡ Equal = ap (λ v. value_cmp v (Int i)) own ∙ own_id i in
    let up : value_cmp (rowid b) (Int i) ≡ Greater = above (Int i) (rowid b) (subst (λ v. value_cmp v (rowid b) ≡ Less) own less) in
    rw (tie, up) (rw up refl)

second_put : (a b : Row) (i : ℤ) → rowid b ≡ Int i → value_cmp (rowid a) (rowid b) ≡ Less → put_row (new_mark i) (without_all (a ∷ b ∷ []) (i ∷ [])) ≡ a ∷ new_mark i ∷ []
second_put a b i own less =
    let tie : value_cmp (rowid b) (Int i) ≡ Equal = ap (λ v. value_cmp v (Int i)) own ∙ own_id i in
    let low : value_cmp (rowid a) (Int i) ≡ Less = subst (λ v. value_cmp (rowid a) v ≡ Less) own less in
    rw (tie, low) (rw low refl)

pub record Finishes (db next : Trees) (site : ℕ) : Type 0 where
  pub marks : AreMarks 2 site (map shown_row (next 2))
  pub shaped : IsShaped shape.Table (next 2)
  pub old_rows : next 0 ≡ db 0
  pub new_rows : next 4 ≡ db 4

ended : (db next : Trees) (i : ℤ) (site : ℕ) → IsShaped shape.Table (db 2) → Remarks db next (new_mark i) i → AreMarks 2 site (map shown_row (put_row (new_mark i) (without_all (db 2) (i ∷ [])))) → Finishes db next site
ended db next i site shaped it marks = record {
  marks = subst (λ (rows : List Row). AreMarks 2 site (map shown_row rows)) (sym it.rows) marks;
  shaped = subst (IsShaped shape.Table) (sym it.rows) (IsShaped-put_row (new_mark i) (without_all (db 2) (i ∷ [])) refl (IsShaped-filter shape.Table (λ q. not (has_rowid i q)) (db 2) shaped));
  old_rows = it.old_rows;
  new_rows = it.new_rows;
}

pub finishes : (limit : Option ℕ) (text : List ℕ) (db after : Database) (tally : Tally) (version site : ℕ) → db.schema ≡ all_tables → IsShaped shape.Table (db.trees 2) → AreMarks version site (map shown_row (db.trees 2))
    → Does limit plain_mode [] db text None (Update 1 (record { lets = []; body = finish_query })) (Ok (tally, after)) → (after.schema ≡ all_tables) × Finishes db.trees after.trees site
finishes limit text db after tally version site has shaped marks h = go (db.trees 2) refl
  where
    other : (x : Row) → column x 1 ≡ Text (codes "site") → picks x ≡ false
    other x e = named x (codes "site") e

    go : (rows : List Row) → db.trees 2 ≡ rows → (after.schema ≡ all_tables) × Finishes db.trees after.trees site
    go [] e = absurd (let none : length (map shown_row (db.trees 2)) ≡ 0 = ap (λ (l : List Row). length (map shown_row l)) e in omega (arith, length_permutation _ _ marks, none))
    go (a ∷ []) e = absurd (let one : length (map shown_row (db.trees 2)) ≡ 1 = ap (λ (l : List Row). length (map shown_row l)) e in omega (arith, length_permutation _ _ marks, one))
    go (a ∷ b ∷ c ∷ more) e = absurd (omega (arith, length_permutation _ _ marks, length-map (db.trees 2) shown_row, ap length e))
    go (a ∷ b ∷ []) e =
        let up = subst (IsShaped shape.Table) e shaped in
        let less : value_cmp (rowid a) (rowid b) ≡ Less = up.0.0.0 in
        elim (either (shown_row a) (shown_row b) version site (subst (λ (l : List Row). AreMarks version site (map shown_row l)) e marks)) [
          | inl it ↦ (
              let i = int_value (rowid a) up.1.0 in
              let there : Has (db.trees 2) a = subst (λ (l : List Row). Has l a) (sym e) (inl refl) in
              let one = λ (x : Row) (h : Has (db.trees 2) x) (p : picks x ≡ true). (let is : x ≡ a = (elim (subst (λ (l : List Row). Has l x) e h) [ inl first ↦ first | inr more ↦ elim more [ inl second ↦ absurd (let no : true ≡ false = sym p ∙ (ap picks second ∙ other b it.1.0) in cc) | inr none ↦ absurd none ] ]) in is) in
              let done = updated limit text db after tally a i.0 has shaped there i.1 it.0.0 one h in (
                done.0,
                ended db.trees after.trees i.0 site shaped done.1 (subst (λ (l : List Row). AreMarks 2 site (map shown_row (put_row (new_mark i.0) (without_all l (i.0 ∷ []))))) (sym e)
                    (subst (λ (l : List Row). AreMarks 2 site (map shown_row l)) (sym (first_put a b i.0 i.1 less)) (in_order (shown_row (new_mark i.0)) (shown_row b) 2 site ((refl, refl), it.1)))),
              ))
          | inr it ↦ (
              let i = int_value (rowid b) up.1.1.0 in
              let there : Has (db.trees 2) b = subst (λ (l : List Row). Has l b) (sym e) (inr (inl refl)) in
              let one = λ (x : Row) (h : Has (db.trees 2) x) (p : picks x ≡ true). (let is : x ≡ b = (elim (subst (λ (l : List Row). Has l x) e h) [ inl first ↦ absurd (let no : true ≡ false = sym p ∙ (ap picks first ∙ other a it.1.0) in cc) | inr more ↦ elim more [ inl second ↦ second | inr none ↦ absurd none ] ]) in is) in
              let done = updated limit text db after tally b i.0 has shaped there i.1 it.0.0 one h in (
                done.0,
                ended db.trees after.trees i.0 site shaped done.1 (subst (λ (l : List Row). AreMarks 2 site (map shown_row (put_row (new_mark i.0) (without_all l (i.0 ∷ []))))) (sym e)
                    (subst (λ (l : List Row). AreMarks 2 site (map shown_row l)) (sym (second_put a b i.0 i.1 less)) (turned (shown_row a) (shown_row (new_mark i.0)) 2 site ((refl, refl), it.1)))),
              ))
        ]
