-- What a call leaves that moves a key.
use Rattle.std.proofs.Common.{◌≡◌, ◌≢◌, inl, inr, ℕ, List, ◌∷◌, [], map, Option, Some, Ok, unwrap_or, refl, sym, ap, subst, ◌∙◌, arith}
use Rattle.std.specs.FinMap.{get, insert, remove}
use Rattle.sqlite.specs.declared.types.Value.TheVariants.{Text}
use Rattle.sqlite.specs.Command.TheVariants.{Delete}
use Rattle.sqlite.specs.Order.{Row}
use Rattle.sqlite.specs.Effect.{Database, IsDatabase}
use Rattle.sqlite.specs.View.{IsShaped}
use Rattle.sqlite_trees.specs.declared.store.Shape.TheVariants as shape
use Rattle.sqlite.specs.State.{State, Executes}
use Rattle.sqlite.specs.Listing.{understood}
use Rattle.sqlite.proofs.Callers.{runs_as, statement_of}
use Rattle.mvd_records.specs.Tables.{all_tables, old_states_table, meta, new_states_table}
use Rattle.mvd_records.specs.States.{states_in, shown_row, AreMarks}
use Rattle.mvd_records.specs.Records.{HoldsRecords, TakesStoredState, SavesState, MovesState, LacksKey}
use Rattle.mvd_records.specs.Records as maps
use Rattle.mvd_records.proofs.Rows.{key_of, state_of, states_dropped}
use Rattle.mvd_records.proofs.Rules.{AreStates, apart_in, old_states_of}
use Rattle.mvd_records.proofs.Asked.{get_has, has_get}
use Rattle.mvd_records.proofs.Saved.{rows_there, with_rows}
use Rattle.mvd_records.proofs.Taking.{takes}
use Rattle.mvd_records.proofs.Texts.{take_text, take_query, take_is, take_plain}

pub record Taken (version site : ℕ) (old new : State) (key : List ℕ) (count : ℕ) : Type 0 where
  pub sound : IsDatabase new.now
  pub missing : count ≡ 0 → LacksKey (maps.old_states old.now) key
  pub there : count ≢ 0 → HoldsRecords version site new.now × TakesStoredState old.now new.now key

pub taken : (version site : ℕ) (old new : State) (key : List ℕ) (count : ℕ) → IsDatabase old.now → HoldsRecords version site old.now → Executes take_text (Text key ∷ []) old new (Ok count) → Taken version site old new key count
taken version site old new key count sound holds h =
    let has = holds.tables.schema in
    let w = runs_as take_text (Text key ∷ []) old new all_tables has (Delete 0 (record { lets = []; body = take_query })) take_is take_plain count h in
    let are : AreStates (old.now.trees 0) = old_states_of old.now has sound (holds.tables.rows old_states_table (inl refl)) in
    let it = takes old.step_limit (statement_of take_text (understood all_tables take_text)) old.now new.now w.tally key has are w.changed in
    let done = it.1 in
    let mine = (rows_there old.now has).0 in
    let next = (rows_there new.now it.0).0 in
    record {
      sound = w.sound;
      missing = λ zero. elim done.found [
        | inl there ↦ absurd (let one : count ≡ 1 = w.counted ∙ ap (λ (o : Option ℕ). unwrap_or o 0) there.3 in omega arith)
        | inr none ↦ (λ state got. let x = get_has (old.now.trees 0) key state (subst (λ (rows : List Row). get (states_in rows) key ≡ Some state) mine got) in none.0 x.0 x.1 x.2)
      ];
      there = λ some. elim done.found [
        | inl there ↦ (
          record {
            tables = with_rows new.now it.0 done.shaped (subst (IsShaped shape.Table) (sym done.marks) (holds.tables.rows meta (inr (inl refl)))) (subst (IsShaped shape.Table) (sym done.new_rows) (holds.tables.rows new_states_table (inr (inr (inl refl)))));
            marks = subst (λ (rows : List Row). AreMarks version site (map shown_row rows)) (sym done.marks) holds.marks;
          },
          record {
            was = (state_of there.0, subst (λ k. get (maps.old_states old.now) k ≡ Some (state_of there.0)) there.2 (subst (λ (rows : List Row). get (states_in rows) (key_of there.0) ≡ Some (state_of there.0)) (sym mine) (has_get (old.now.trees 0) there.0 there.1 (apart_in _ are))));
            removed = ap states_in next ∙ (states_dropped (old.now.trees 0) (new.now.trees 0) key (apart_in _ are) done.drops ∙ ap (λ (rows : List Row). remove (states_in rows) key) (sym mine));
            new_same = ap states_in ((rows_there new.now it.0).1 ∙ (done.new_rows ∙ sym (rows_there old.now has).1));
          },
        )
        | inr none ↦ absurd (some (w.counted ∙ ap (λ (o : Option ℕ). unwrap_or o 0) none.1))
      ];
    }

-- out of one table, and into the other
pub both_moved : (a b c : Database) (key state : List ℕ) → TakesStoredState a b key → SavesState b c key state → MovesState a c key state
both_moved a b c key state one two = record {
  was = one.was;
  removed = two.old_same ∙ one.removed;
  saved = two.saved ∙ ap (λ m. insert m key state) one.new_same;
}
