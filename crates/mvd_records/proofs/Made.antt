-- What CREATE TABLE IF NOT EXISTS does to a database of ours.
use Rattle.std.proofs.Common.{◌≡◌, ◌⊎◌, inl, inr, ℕ, List, [], false, None, Ok, refl, sym, ap, subst, ◌∙◌}
use Rattle.sqlite.specs.Command.TheVariants.{CreateTable, Nothing}
use Rattle.sqlite.specs.Compile.{table_defined_by}
use Rattle.sqlite.specs.Change.{created, next_tree}
use Rattle.sqlite.specs.Does.{Tally, lacks_sequence}
use Rattle.sqlite.specs.Table.{Table}
use Rattle.sqlite.specs.Schema.{Schema}
use Rattle.sqlite.specs.Effect.{Database, IsDatabase}
use Rattle.sqlite.specs.Listing.{understood}
use Rattle.sqlite.specs.State.{State, Writes, Executes}
use Rattle.sqlite.specs.View.{IsShaped}
use Rattle.sqlite.proofs.Callers.{IsPlain, command_of, statement_of, runs_as}
use Rattle.sqlite_trees.specs.declared.store.Shape.TheVariants as shape
use Rattle.sqlite.specs.Change as change
use Rattle.mvd_records.specs.Tables.{no_tables, old_tables, all_tables, old_states_table, meta, new_states_table}
use Rattle.mvd_records.specs.Records.{HasTables, IsOurs, KeepsRows, rows_at}
use Rattle.mvd_records.proofs.Saving.{went, same_value}
use Rattle.mvd_records.proofs.OpenTexts.{states_text, meta_text, states2_text, one_table, first_made, second_made, third_made, there_before, all_there, made_plain, made_texts, last_defined, before_plain, all_plain}

-- ---- one statement

pub record Makes (schema after : Schema) (old new : Database) : Type 0 where
  pub is : new.schema ≡ after
  pub empty : new.trees (next_tree schema) ≡ []
  pub kept : change.KeepsRows schema.tables old.trees new.trees

makes : (text : List ℕ) (old new : State) (schema after : Schema) (table : Table) (count : ℕ) → old.now.schema ≡ schema → command_of (understood schema text) ≡ CreateTable → IsPlain (understood schema text)
    → statement_of text (understood schema text) ≡ text → table_defined_by text ≡ Ok table → created schema table ≡ after → lacks_sequence after ≡ false → Executes text [] old new (Ok count) → Makes schema after old.now new.now
makes text old new schema after table count has is plain whole defined makes_it counts h =
    let w = subst (λ t. Writes old new None CreateTable t [] count) whole (runs_as text [] old new schema has CreateTable is plain count h) in
    let all = went w.changed in
    let first = went all.1 in
    let made = first.1 in
    let both : Ok made.table ≡ Ok table = sym made.defined ∙ defined in
    let same : made.table ≡ table = cc in
    let made_schema : first.0.schema ≡ after = made.is ∙ ap (λ s. created s made.table) has ∙ ap (created schema) same ∙ makes_it in
    let no_counter : lacks_sequence first.0.schema ≡ false = ap lacks_sequence made_schema ∙ counts in
    let now : new.now ≡ first.0 = ap (λ (p : Tally × Database). p.1) (same_value all.2) ∙ same_value (rw no_counter at first.2) in
    record {
      is = ap (λ (d : Database). d.schema) now ∙ made_schema;
      empty = ap (λ (d : Database). d.trees (next_tree schema)) now ∙ subst (λ s. first.0.trees (next_tree s) ≡ []) has made.empty;
      kept = subst (λ (d : Database). change.KeepsRows schema.tables old.now.trees d.trees) (sym now) (subst (λ (s : Schema). change.KeepsRows s.tables old.now.trees first.0.trees) has made.others);
    }

made_sound : (text : List ℕ) (old new : State) (schema : Schema) (count : ℕ) → old.now.schema ≡ schema → command_of (understood schema text) ≡ CreateTable → IsPlain (understood schema text) → Executes text [] old new (Ok count) → IsDatabase new.now
made_sound text old new schema count has is plain h = (runs_as text [] old new schema has CreateTable is plain count h).sound

left_sound : (text : List ℕ) (old new : State) (schema : Schema) (count : ℕ) → old.now.schema ≡ schema → command_of (understood schema text) ≡ Nothing → IsPlain (understood schema text) → Executes text [] old new (Ok count) → IsDatabase old.now → IsDatabase new.now
left_sound text old new schema count has is plain h = subst IsDatabase (sym (runs_as text [] old new schema has Nothing is plain count h).0.0.now_is)

leaves : (text : List ℕ) (old new : State) (schema : Schema) (count : ℕ) → old.now.schema ≡ schema → command_of (understood schema text) ≡ Nothing → IsPlain (understood schema text) → Executes text [] old new (Ok count) → new.now ≡ old.now
leaves text old new schema count has is plain h = (runs_as text [] old new schema has Nothing is plain count h).0.0.now_is

-- ---- what it makes of the tables

keeps_rows : (db : Database) → KeepsRows db db
keeps_rows db = record { old_rows = refl; marks = refl; new_rows = refl }

pub rows_then : (a b c : Database) → KeepsRows a b → KeepsRows b c → KeepsRows a c
rows_then a b c one two = record { old_rows = two.old_rows ∙ one.old_rows; marks = two.marks ∙ one.marks; new_rows = two.new_rows ∙ one.new_rows }

rows_of : (db : Database) (schema : Schema) (tree : ℕ) → db.schema ≡ schema → rows_at db tree ≡ rows_at (record { schema = schema; trees = db.trees }) tree
rows_of db schema tree has = ap (λ s. rows_at (record { schema = s; trees = db.trees }) tree) has

first_step : (old new : Database) → HasTables no_tables old → Makes no_tables one_table old new → HasTables one_table new × KeepsRows old new
first_step old new has it = (
  record { schema = it.is; rows = λ t there. elim there [ inl is ↦ subst (λ (t : Table). IsShaped shape.Table (new.trees t.tree)) (sym is) (subst (IsShaped shape.Table) (sym it.empty) (tt, tt)) | inr none ↦ absurd none ] },
  record {
    old_rows = rows_of new one_table 0 it.is ∙ (it.empty ∙ sym (rows_of old no_tables 0 has.schema));
    marks = rows_of new one_table 2 it.is ∙ sym (rows_of old no_tables 2 has.schema);
    new_rows = rows_of new one_table 4 it.is ∙ sym (rows_of old no_tables 4 has.schema);
  },
)

second_step : (old new : Database) → HasTables one_table old → Makes one_table old_tables old new → HasTables old_tables new × KeepsRows old new
second_step old new has it = (
  record {
    schema = it.is;
    rows = λ t there. elim there [
      | inl is ↦ subst (λ (t : Table). IsShaped shape.Table (new.trees t.tree)) (sym is) (subst (IsShaped shape.Table) (sym it.kept.0) (has.rows old_states_table (inl refl)))
      | inr more ↦ elim more [ inl is ↦ subst (λ (t : Table). IsShaped shape.Table (new.trees t.tree)) (sym is) (subst (IsShaped shape.Table) (sym it.empty) (tt, tt)) | inr none ↦ absurd none ]
    ];
  },
  record {
    old_rows = rows_of new old_tables 0 it.is ∙ (it.kept.0 ∙ sym (rows_of old one_table 0 has.schema));
    marks = rows_of new old_tables 2 it.is ∙ (it.empty ∙ sym (rows_of old one_table 2 has.schema));
    new_rows = rows_of new old_tables 4 it.is ∙ sym (rows_of old one_table 4 has.schema);
  },
)

third_step : (old new : Database) → HasTables old_tables old → Makes old_tables all_tables old new → HasTables all_tables new × KeepsRows old new
third_step old new has it = (
  record {
    schema = it.is;
    rows = λ t there. elim there [
      | inl is ↦ subst (λ (t : Table). IsShaped shape.Table (new.trees t.tree)) (sym is) (subst (IsShaped shape.Table) (sym it.kept.0) (has.rows old_states_table (inl refl)))
      | inr more ↦ elim more [
        | inl is ↦ subst (λ (t : Table). IsShaped shape.Table (new.trees t.tree)) (sym is) (subst (IsShaped shape.Table) (sym it.kept.1.0) (has.rows meta (inr (inl refl))))
        | inr last ↦ elim last [ inl is ↦ subst (λ (t : Table). IsShaped shape.Table (new.trees t.tree)) (sym is) (subst (IsShaped shape.Table) (sym it.empty) (tt, tt)) | inr none ↦ absurd none ]
      ]
    ];
  },
  record {
    old_rows = rows_of new all_tables 0 it.is ∙ (it.kept.0 ∙ sym (rows_of old old_tables 0 has.schema));
    marks = rows_of new all_tables 2 it.is ∙ (it.kept.1.0 ∙ sym (rows_of old old_tables 2 has.schema));
    new_rows = rows_of new all_tables 4 it.is ∙ (it.empty ∙ sym (rows_of old old_tables 4 has.schema));
  },
)

-- the tables after one, two and three statements
abbrev AfterOne : Database → Type 0
AfterOne db = HasTables one_table db ⊎ (HasTables old_tables db ⊎ HasTables all_tables db)

abbrev AfterTwo : Database → Type 0
AfterTwo db = HasTables old_tables db ⊎ HasTables all_tables db

stay : (P : Database → Type 0) (old new : Database) → new ≡ old → P old → P new × KeepsRows old new
stay P old new same has = (subst P (sym same) has, subst (KeepsRows old) (sym same) (keeps_rows old))

states_made : (old new : State) (count : ℕ) → IsOurs old.now → Executes states_text [] old new (Ok count) → AfterOne new.now × KeepsRows old.now new.now
states_made old new count (inl has) h =
    let it = first_step old.now new.now has (makes states_text old new no_tables one_table old_states_table count has.schema first_made.0 made_plain.0 made_texts.0 first_made.1 first_made.2 refl h) in (inl it.0, it.1)
states_made old new count (inr (inl has)) h = stay AfterOne old.now new.now (leaves states_text old new old_tables count has.schema there_before.0 before_plain.0 h) (inr (inl has))
states_made old new count (inr (inr has)) h = stay AfterOne old.now new.now (leaves states_text old new all_tables count has.schema all_there.0 all_plain.0 h) (inr (inr has))

meta_made : (old new : State) (count : ℕ) → AfterOne old.now → Executes meta_text [] old new (Ok count) → AfterTwo new.now × KeepsRows old.now new.now
meta_made old new count (inl has) h =
    let it = second_step old.now new.now has (makes meta_text old new one_table old_tables (record meta { tree = 0 }) count has.schema second_made.0 made_plain.1 made_texts.1 second_made.1 second_made.2 refl h) in (inl it.0, it.1)
meta_made old new count (inr (inl has)) h = stay AfterTwo old.now new.now (leaves meta_text old new old_tables count has.schema there_before.1 before_plain.1 h) (inl has)
meta_made old new count (inr (inr has)) h = stay AfterTwo old.now new.now (leaves meta_text old new all_tables count has.schema all_there.1 all_plain.1 h) (inr has)

last_made : (old new : State) (count : ℕ) → AfterTwo old.now → Executes states2_text [] old new (Ok count) → HasTables all_tables new.now × KeepsRows old.now new.now
last_made old new count (inl has) h =
    third_step old.now new.now has (makes states2_text old new old_tables all_tables (record new_states_table { tree = 0 }) count has.schema third_made.0 made_plain.2 made_texts.2 last_defined third_made.1 refl h)
last_made old new count (inr has) h = stay (HasTables all_tables) old.now new.now (leaves states2_text old new all_tables count has.schema all_there.2 all_plain.2 h) has

-- a database that obeyed its schema does so after each of them
states_sound : (old new : State) (count : ℕ) → IsOurs old.now → Executes states_text [] old new (Ok count) → IsDatabase old.now → IsDatabase new.now
states_sound old new count (inl has) h sound = made_sound states_text old new no_tables count has.schema first_made.0 made_plain.0 h
states_sound old new count (inr (inl has)) h sound = left_sound states_text old new old_tables count has.schema there_before.0 before_plain.0 h sound
states_sound old new count (inr (inr has)) h sound = left_sound states_text old new all_tables count has.schema all_there.0 all_plain.0 h sound

meta_sound : (old new : State) (count : ℕ) → AfterOne old.now → Executes meta_text [] old new (Ok count) → IsDatabase old.now → IsDatabase new.now
meta_sound old new count (inl has) h sound = made_sound meta_text old new one_table count has.schema second_made.0 made_plain.1 h
meta_sound old new count (inr (inl has)) h sound = left_sound meta_text old new old_tables count has.schema there_before.1 before_plain.1 h sound
meta_sound old new count (inr (inr has)) h sound = left_sound meta_text old new all_tables count has.schema all_there.1 all_plain.1 h sound

last_sound : (old new : State) (count : ℕ) → AfterTwo old.now → Executes states2_text [] old new (Ok count) → IsDatabase old.now → IsDatabase new.now
last_sound old new count (inl has) h sound = made_sound states2_text old new old_tables count has.schema third_made.0 made_plain.2 h
last_sound old new count (inr has) h sound = left_sound states2_text old new all_tables count has.schema all_there.2 all_plain.2 h sound

pub all_sound : (a b c d : State) (i j k : ℕ) → IsOurs a.now → Executes states_text [] a b (Ok i) → Executes meta_text [] b c (Ok j) → Executes states2_text [] c d (Ok k) → IsDatabase a.now → IsDatabase d.now
all_sound a b c d i j k ours one two three sound =
    let first = states_made a b i ours one in
    let second = meta_made b c j first.0 two in
    last_sound c d k second.0 three (meta_sound b c j first.0 two (states_sound a b i ours one sound))

pub all_made : (a b c d : State) (i j k : ℕ) → IsOurs a.now → Executes states_text [] a b (Ok i) → Executes meta_text [] b c (Ok j) → Executes states2_text [] c d (Ok k) → HasTables all_tables d.now × KeepsRows a.now d.now
all_made a b c d i j k ours one two three =
    let first = states_made a b i ours one in
    let second = meta_made b c j first.0 two in
    let last = last_made c d k second.0 three in
    (last.0, rows_then a.now b.now d.now first.1 (rows_then b.now c.now d.now second.1 last.1))
