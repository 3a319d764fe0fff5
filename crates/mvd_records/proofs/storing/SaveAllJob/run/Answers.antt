use Rattle.std.proofs.Common.{◌∙◌, ◌+◌, [], Ok, get_or, refl, subst, sym, take}
use Rattle.std.proofs.lemmas.List.{take_all}
use Rattle.sqlite.specs.Held.{state}
use Rattle.mvd_records.specs.Jobs.{DoesInside, saving, saving_all}
use Rattle.mvd_records.specs.Pairs.{saved_entries}
use Rattle.mvd_records.specs.Records.{SavesStates}
use Rattle.mvd_records.proofs.AllSaved.{entries_more, no_save, none_saved, one_more, stays_self}
use Rattle.mvd_records.proofs.Transacted.{does_then, went}
use Rattle.mvd_records.proofs.storing.SaveAllJob.run.Goals as goal

pub loop-save-init : goal.loop-save-init
loop-save-init g c = record {
  same = refl;
  done = went (saving_all []) _ _ (stays_self _) tt (λ _ inside. inside) (λ _ _ version site sound holds. (sound, (holds, none_saved _)));
}

pub loop-save-preserved : goal.loop-save-preserved
loop-save-preserved g c =
    let i = c.loop-save.save-index in
    let saves = c.args.self.now.saves.now in
    let save = get_or saves i no_save in
    let so_far = saved_entries (take i saves) in
    let more = entries_more saves i c.loop-save-test.true in
    record {
      same = c.set_state.ensures.same_reference ∙ c.loop-save.invariant.same;
      done = does_then (saving_all so_far) tt (saving save.key.now save.bytes.now) (saving_all (saved_entries (take (i + 1) saves))) _ _ _ (Ok tt) (record {
        makes = λ _ d e f one two version site sound holds. (
            let was = one version site sound holds in
            let now = two version site was.0 was.1.0 in
            (now.0, (now.1.0, subst (SavesStates d f) (sym more) (one_more d e f so_far _ _ was.1.1 now.1.1))));
        may_refuse = λ _ none. none;
        refuses = λ _ _ _ _ none. absurd none;
      }) c.loop-save.invariant.done c.in-Ok.ensures.done;
    }

pub returns-clause-done : goal.returns-clause-done
returns-clause-done g c =
    subst (λ l. DoesInside (saving_all (saved_entries l)) (state g.S.Store c.args.tx.now.conn.now) (Ok tt) (state g.S.Store c.loop-save.tx.conn.now)) (take_all c.loop-save.save-index c.args.self.now.saves.now c.loop-save-test.false) c.loop-save.invariant.done
