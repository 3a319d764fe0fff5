use Rattle.std.proofs.Common.{◌≡◌, ◌∙◌, ◌∷◌, [], ap, subst, sym}
use Rattle.sqlite.specs.Held.{state}
use Rattle.sqlite.specs.State.{Survives}
use Rattle.mvd_records.specs.Pairs.{saved_entries}
use Rattle.mvd_records.specs.Seen.{seen}
use Rattle.mvd_records.proofs.Follows.{all_survive, saves_kept, saves_saved, saves_survives}
use Rattle.mvd_kept.specs.declared.prepared.Prepared.TheVariants.{Change}
use Rattle.mvd_replica.specs.Groups.{pairs_in}
use Rattle.mvd_replica.specs.Shared.{LeavesPairs}
use Rattle.mvd_replica.proofs.Grouped.{one_only, store_many, store_one, survives_one}
use Rattle.mvd_replica.proofs.groups.store_all.Goals as goal

pub returns-clause-stored : goal.returns-clause-stored
returns-clause-stored g c site sound holds =
    store_many c.save_all.result (seen g.S.Store c.args.records.now) (seen g.S.Store c.save_all.new.self) (saved_entries c.deref.result.now) c.args.group.now site c.save_all.ensures
    (ap saved_entries c.deref.ensures.value ∙ c.in_ok-saves.ensures.saves) sound holds

pub returns-in-Change-clause-stored : goal.returns-in-Change-clause-stored
returns-in-Change-clause-stored g c site sound holds =
    store_one c.save.result _ _ c.in-Change.change c.args.group.now c.save_of.result.key.now c.save_of.result.bytes.now site c.save_of.ensures.key c.save_of.ensures.bytes
    (one_only c.args.group.now c.index-group-0.result c.if-group-eq1.true c.index-group-0.is ∙ ap (λ p. p ∷ []) c.in-Change.is) (saves_kept _ _ _ c.save.result c.save.ensures 2 site sound holds) (saves_saved _ _ _ _ c.save.result c.save.ensures 2 site sound holds)

pub returns-clause-survives : goal.returns-clause-survives
returns-clause-survives g c =
    subst (λ l. Survives (state g.S.Store c.args.records.now.conn) (state g.S.Store c.save_all.new.self.conn) (LeavesPairs (state g.S.Store c.args.records.now.conn) l))
    (ap saved_entries c.deref.ensures.value ∙ c.in_ok-saves.ensures.saves)
    (all_survive (seen g.S.Store c.args.records.now) (seen g.S.Store c.save_all.new.self) (saved_entries c.deref.result.now) c.save_all.result c.save_all.ensures)

pub returns-in-Change-clause-survives : goal.returns-in-Change-clause-survives
returns-in-Change-clause-survives g c =
    survives_one _ _ c.in-Change.change c.args.group.now c.save_of.result.key.now c.save_of.result.bytes.now c.save_of.ensures.key c.save_of.ensures.bytes
    (one_only c.args.group.now c.index-group-0.result c.if-group-eq1.true c.index-group-0.is ∙ ap (λ p. p ∷ []) c.in-Change.is) (saves_survives _ _ _ _ c.save.result c.save.ensures)

pub returns-in-Change-clause-still : goal.returns-in-Change-clause-still
returns-in-Change-clause-still g c none =
    let only = one_only c.args.group.now c.index-group-0.result c.if-group-eq1.true c.index-group-0.is ∙ ap (λ p. p ∷ []) c.in-Change.is in
    let bad : pairs_in (Change c.in-Change.change ∷ []) ≡ [] = sym (ap pairs_in only) ∙ none in cc
