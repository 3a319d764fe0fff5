-- What a call that saves a state leaves.
use Rattle.std.proofs.Common.{◌≡◌, ◌≢◌, inl, inr, ℕ, List, ◌∷◌, [], map, Option, Some, Ok, unwrap_or, Bool, true, false, not, nat_eq, MatchBool, refl, sym, ap, subst, ◌∙◌, arith}
use Rattle.std.specs.FinMap.{get, insert}
use Rattle.std.proofs.lemmas.Bool.Decides.{nat_tests}
use Rattle.sqlite.specs.declared.types.Value.TheVariants.{Text, Blob}
use Rattle.sqlite.specs.Order.{Row}
use Rattle.sqlite.specs.Table.{Table}
use Rattle.sqlite.specs.Effect.{Database, IsDatabase}
use Rattle.sqlite.specs.State.{State, Executes}
use Rattle.sqlite.specs.Listing.{understood}
use Rattle.sqlite.specs.View.{IsShaped}
use Rattle.sqlite.proofs.Callers.{runs_as, statement_of}
use Rattle.sqlite_trees.specs.declared.store.Shape.TheVariants as shape
use Rattle.mvd_records.specs.Tables.{all_tables, new_states_table}
use Rattle.mvd_records.specs.States.{states_in, shown_row, AreMarks}
use Rattle.mvd_records.specs.Records.{ChangesState, FindsNone, HasTables, HoldsRecords, SavesState, rows_at}
use Rattle.mvd_records.specs.Records as maps
use Rattle.mvd_records.proofs.Rows.{key_of, state_of, states_set}
use Rattle.mvd_records.proofs.Rules.{AreStates, apart_in, new_states_of}
use Rattle.mvd_records.proofs.Asked.{get_has, has_get}
use Rattle.mvd_records.proofs.Saving.{Saves}
use Rattle.mvd_records.proofs.Taking.{puts}
use Rattle.mvd_records.proofs.Changing.{changes, Changes}
use Rattle.mvd_records.proofs.Texts.{change_text, change_command, change_is, change_plain, put_text, put_command, put_is, put_plain}

-- the rows of a table that is there
pub rows_there : (db : Database) → db.schema ≡ all_tables → (rows_at db 0 ≡ db.trees 0) × (rows_at db 4 ≡ db.trees 4)
rows_there db has = (ap (λ s. rows_at (record { schema = s; trees = db.trees }) 0) has, ap (λ s. rows_at (record { schema = s; trees = db.trees }) 4) has)

pub with_rows : (db : Database) → db.schema ≡ all_tables → IsShaped shape.Table (db.trees 0) → IsShaped shape.Table (db.trees 2) → IsShaped shape.Table (db.trees 4) → HasTables all_tables db
with_rows db has old marks new = record {
  schema = has;
  rows = λ t there. elim there [
    | inl first ↦ subst (λ (t : Table). IsShaped shape.Table (db.trees t.tree)) (sym first) old
    | inr more ↦ elim more [
      | inl second ↦ subst (λ (t : Table). IsShaped shape.Table (db.trees t.tree)) (sym second) marks
      | inr last ↦ elim last [ inl third ↦ subst (λ (t : Table). IsShaped shape.Table (db.trees t.tree)) (sym third) new | inr none ↦ absurd none ]
    ]
  ];
}

-- the database after a statement that saved one state
pub saved : (version site : ℕ) (db after : Database) (key state : List ℕ) → AreStates (db.trees 4) → HoldsRecords version site db → after.schema ≡ all_tables → Saves db.trees after.trees key state
    → HoldsRecords version site after × SavesState db after key state
saved version site db after key state are holds has done =
    let was = holds.tables.schema in
    let set = states_set (db.trees 4) (after.trees 4) done.row (apart_in _ are) done.sets in (
      record {
        tables = with_rows after has (subst (IsShaped shape.Table) (sym done.old_rows) (holds.tables.rows _ (inl refl))) (subst (IsShaped shape.Table) (sym done.marks) (holds.tables.rows _ (inr (inl refl)))) done.shaped;
        marks = subst (λ (rows : List Row). AreMarks version site (map shown_row rows)) (sym done.marks) holds.marks;
      },
      record {
        old_same = ap states_in ((rows_there after has).0 ∙ (done.old_rows ∙ sym (rows_there db was).0));
        saved = ap states_in (rows_there after has).1 ∙ (set ∙ (ap (λ k. insert (states_in (db.trees 4)) k (state_of done.row)) done.key_is
            ∙ (ap (insert (states_in (db.trees 4)) key) done.state_is ∙ ap (λ rows. insert (states_in rows) key state) (sym (rows_there db was).1))));
      },
    )

-- the states of version 2 that stand in records
pub states_of : (version site : ℕ) (db : Database) → IsDatabase db → HoldsRecords version site db → AreStates (db.trees 4)
states_of version site db sound holds = new_states_of db holds.tables.schema sound (holds.tables.rows new_states_table (inr (inr (inl refl))))

-- ---- a key is put in

pub put : (version site : ℕ) (old new : State) (key state : List ℕ) (count : ℕ) → IsDatabase old.now → HoldsRecords version site old.now → Executes put_text (Text key ∷ Blob state ∷ []) old new (Ok count)
    → IsDatabase new.now × (HoldsRecords version site new.now × SavesState old.now new.now key state)
put version site old new key state count sound holds h =
    let has = holds.tables.schema in
    let w = runs_as put_text (Text key ∷ Blob state ∷ []) old new all_tables has put_command put_is put_plain count h in
    let are = states_of version site old.now sound holds in
    let it = puts old.step_limit (statement_of put_text (understood all_tables put_text)) old.now new.now w.tally key state has are w.sound w.changed in
    (w.sound, saved version site old.now new.now key state are holds it.0 it.1)

-- ---- a state is changed, where the key is there

pub record Changed (version site : ℕ) (old new : State) (key state : List ℕ) (count : ℕ) : Type 0 where
  pub sound : IsDatabase new.now
  pub holds : HoldsRecords version site new.now
  pub none : count ≡ 0 → FindsNone old.now new.now key
  pub some : count ≢ 0 → ChangesState old.now new.now key state

changed_by : (version site : ℕ) (old new : State) (key state : List ℕ) (count : ℕ) (rows : Option ℕ) → AreStates (old.now.trees 4) → HoldsRecords version site old.now → IsDatabase new.now → new.now.schema ≡ all_tables → count ≡ unwrap_or rows 0
    → Changes old.now.trees new.now.trees key state rows → Changed version site old new key state count
changed_by version site old new key state count rows are holds sound has counted (inl done) =
    let was = (rows_there old.now holds.tables.schema).1 in
    let both = saved version site old.now new.now key state are holds has done.saves in
    record {
      sound = sound;
      holds = both.0;
      none = λ zero. absurd (let one : count ≡ 1 = counted ∙ ap (λ (o : Option ℕ). unwrap_or o 0) done.counted in omega arith);
      some = λ _. record {
        was = (state_of done.row, subst (λ k. get (maps.new_states old.now) k ≡ Some (state_of done.row)) done.own (subst (λ (rows : List Row). get (states_in rows) (key_of done.row) ≡ Some (state_of done.row)) (sym was) (has_get (old.now.trees 4) done.row done.there (apart_in _ are))));
        saves = both.1;
      };
    }
changed_by version site old new key state count rows are holds sound has counted (inr done) =
    let was = (rows_there old.now holds.tables.schema).1 in
    record {
      sound = sound;
      holds = record {
        tables = with_rows new.now has (subst (IsShaped shape.Table) (sym done.old_rows) (holds.tables.rows _ (inl refl))) (subst (IsShaped shape.Table) (sym done.marks) (holds.tables.rows _ (inr (inl refl))))
            (subst (IsShaped shape.Table) (sym done.new_rows) (holds.tables.rows _ (inr (inr (inl refl)))));
        marks = subst (λ (rows : List Row). AreMarks version site (map shown_row rows)) (sym done.marks) holds.marks;
      };
      none = λ _. record {
        lacks = λ state got. (let x = get_has (old.now.trees 4) key state (subst (λ (rows : List Row). get (states_in rows) key ≡ Some state) was got) in done.none x.0 x.1 x.2);
        states = record {
          old_same = ap states_in ((rows_there new.now has).0 ∙ (done.old_rows ∙ sym (rows_there old.now holds.tables.schema).0));
          new_same = ap states_in ((rows_there new.now has).1 ∙ (done.new_rows ∙ sym was));
        };
      };
      some = λ some. absurd (some (counted ∙ ap (λ (o : Option ℕ). unwrap_or o 0) done.counted));
    }

pub changed : (version site : ℕ) (old new : State) (key state : List ℕ) (count : ℕ) → IsDatabase old.now → HoldsRecords version site old.now → Executes change_text (Text key ∷ Blob state ∷ []) old new (Ok count)
    → Changed version site old new key state count
changed version site old new key state count sound holds h =
    let has = holds.tables.schema in
    let w = runs_as change_text (Text key ∷ Blob state ∷ []) old new all_tables has change_command change_is change_plain count h in
    let are = states_of version site old.now sound holds in
    let it = changes old.step_limit (statement_of change_text (understood all_tables change_text)) old.now new.now w.tally key state has are w.changed in
    changed_by version site old new key state count w.tally.rows are holds w.sound it.0 w.counted it.1

-- it tells whether the key was there
pub told : (version site : ℕ) (old new : State) (key state : List ℕ) (count : ℕ) (there : Bool) → there ≡ not (nat_eq count 0) → Changed version site old new key state count
    → IsDatabase new.now × (HoldsRecords version site new.now × MatchBool there (ChangesState old.now new.now key state) (FindsNone old.now new.now key))
told version site old new key state count true is it = (it.sound, (it.holds, it.some some))
  where
    some : count ≢ 0
    some zero = absurd (grind (arith, nat_tests))
told version site old new key state count false is it = (it.sound, (it.holds, it.none zero))
  where
    zero : count ≡ 0
    zero = grind (arith, nat_tests)

-- a key that was not there was put in
pub none_then : (a b c : Database) (key state : List ℕ) → FindsNone a b key → SavesState b c key state → SavesState a c key state
none_then a b c key state none two = record { old_same = two.old_same ∙ none.states.old_same; saved = two.saved ∙ ap (λ m. insert m key state) none.states.new_same }
