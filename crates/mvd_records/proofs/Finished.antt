-- What a call leaves that ends the move of keys.
use Rattle.std.proofs.Common.{◌≡◌, inl, inr, ℕ, List, [], Option, None, Ok, refl, sym, ap, subst, ◌∙◌}
use Rattle.sqlite.specs.Command.TheVariants.{Update}
use Rattle.sqlite.specs.Effect.{Database, IsDatabase}
use Rattle.sqlite.specs.Does.{Tally, Does}
use Rattle.sqlite.specs.View.{IsShaped}
use Rattle.sqlite_trees.specs.declared.store.Shape.TheVariants as shape
use Rattle.sqlite.specs.State.{State, Executes}
use Rattle.sqlite.specs.Listing.{understood}
use Rattle.sqlite.proofs.Callers.{runs_as, statement_of}
use Rattle.mvd_records.specs.Tables.{all_tables, old_states_table, meta, new_states_table}
use Rattle.mvd_records.specs.States.{states_in}
use Rattle.mvd_records.specs.Records.{IsQuiescent, IsSound, HoldsRecords, KeepsStates, EndsMove, HasNone, LeavesTrees, OnlyReads}
use Rattle.mvd_records.specs.Records as maps
use Rattle.mvd_records.proofs.Texts.{finish_text, finish_query, finish_is, finish_plain}
use Rattle.mvd_records.proofs.Saving.{plain_mode}
use Rattle.mvd_records.proofs.Saved.{rows_there, with_rows}
use Rattle.mvd_records.proofs.Finishing.{finishes}

finished : (limit : Option ℕ) (text : List ℕ) (version site : ℕ) (db after : Database) (tally : Tally) → HoldsRecords version site db
    → Does limit plain_mode [] db text None (Update 1 (record { lets = []; body = finish_query })) (Ok (tally, after)) → HoldsRecords 2 site after × KeepsStates db after
finished limit text version site db after tally holds h =
    let has = holds.tables.schema in
    let it = finishes limit text db after tally version site has (holds.tables.rows meta (inr (inl refl))) holds.marks h in (
      record {
        tables = with_rows after it.0 (subst (IsShaped shape.Table) (sym it.1.old_rows) (holds.tables.rows old_states_table (inl refl))) it.1.shaped (subst (IsShaped shape.Table) (sym it.1.new_rows) (holds.tables.rows new_states_table (inr (inr (inl refl)))));
        marks = it.1.marks;
      },
      record {
        old_same = ap states_in ((rows_there after it.0).0 ∙ (it.1.old_rows ∙ sym (rows_there db has).0));
        new_same = ap states_in ((rows_there after it.0).1 ∙ (it.1.new_rows ∙ sym (rows_there db has).1));
      },
    )

pub finished_inside : (version site : ℕ) (old new : State) (count : ℕ) → HoldsRecords version site old.now → Executes finish_text [] old new (Ok count) → IsDatabase new.now × HoldsRecords 2 site new.now × KeepsStates old.now new.now
finished_inside version site old new count holds h =
    let w = runs_as finish_text [] old new all_tables holds.tables.schema (Update 1 (record { lets = []; body = finish_query })) finish_is finish_plain count h in
    let it = finished old.step_limit (statement_of finish_text (understood all_tables finish_text)) version site old.now new.now w.tally holds w.changed in
    (w.sound, it.0, it.1)

-- no old key was left, and none is
pub ended : (site : ℕ) (old mid new : Database) → mid ≡ old → HasNone (maps.old_states old) → HoldsRecords 2 site new × KeepsStates mid new → EndsMove site old new
ended site old mid new same none it =
    let states = subst (λ (d : Database). KeepsStates d new) same it.1 in record { holds = it.0; states = states; moved = subst HasNone (sym states.old_same) none }
