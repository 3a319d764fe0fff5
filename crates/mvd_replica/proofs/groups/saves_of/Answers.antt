use Rattle.std.proofs.Common.{◌∙◌, ap}
use Rattle.std.proofs.lemmas.List.{take_all}
use Rattle.mvd_records.specs.Pairs.{saved_entries}
use Rattle.mvd_replica.specs.Groups.{held_in, pairs_in}
use Rattle.mvd_replica.proofs.Grouped.{held_next, held_skip, held_told, saves_next, saves_skip}
use Rattle.mvd_replica.proofs.groups.saves_of.Goals.{in-Change+in_ok-push, in_default}
use Rattle.mvd_replica.proofs.groups.saves_of.Goals as goal

pub loop-prepared-init : goal.loop-prepared-init
loop-prepared-init c = record { saves = ap saved_entries c.in_ok-saves.ensures.items; held = ap held_told c.in_ok-saves.ensures.items }

pub loop-prepared-preserved : goal.loop-prepared-preserved
loop-prepared-preserved c = elim c.match-prepared.branch [
  | in-Change+in_ok-push w ↦ record {
    saves =
        ap (λ v. saved_entries v.items) w.saves-is ∙ ap saved_entries w.in_ok-push.ensures.items
        ∙ saves_next c.loop-prepared.saves.items c.args.group.now c.loop-prepared.prepared-index c.prepared-item.result w.in-Change.change _ c.loop-prepared-test.true c.prepared-item.is w.in-Change.is
        w.save_of.ensures.key w.save_of.ensures.bytes c.loop-prepared.invariant.saves;
    held =
        ap (λ v. held_told v.items) w.saves-is ∙ ap held_told w.in_ok-push.ensures.items
        ∙ held_next c.loop-prepared.saves.items c.args.group.now c.loop-prepared.prepared-index c.prepared-item.result w.in-Change.change _ c.loop-prepared-test.true c.prepared-item.is w.in-Change.is
        w.save_of.ensures.held c.loop-prepared.invariant.held;
  }
  | in_default w ↦ record {
    saves =
        ap (λ v. saved_entries v.items) w.saves-is
        ∙ saves_skip c.loop-prepared.saves.items c.args.group.now c.loop-prepared.prepared-index c.prepared-item.result w.in_default.field-0 c.loop-prepared-test.true c.prepared-item.is w.in_default.is c.loop-prepared.invariant.saves;
    held =
        ap (λ v. held_told v.items) w.saves-is
        ∙ held_skip c.loop-prepared.saves.items c.args.group.now c.loop-prepared.prepared-index c.prepared-item.result w.in_default.field-0 c.loop-prepared-test.true c.prepared-item.is w.in_default.is c.loop-prepared.invariant.held;
  }
]

pub returns-clause-saves : goal.returns-clause-saves
returns-clause-saves c = c.loop-prepared.invariant.saves ∙ ap pairs_in (take_all c.loop-prepared.prepared-index c.args.group.now c.loop-prepared-test.false)

pub returns-clause-held : goal.returns-clause-held
returns-clause-held c = c.loop-prepared.invariant.held ∙ ap held_in (take_all c.loop-prepared.prepared-index c.args.group.now c.loop-prepared-test.false)
