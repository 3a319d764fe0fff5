use Rattle.std.proofs.Common.{[], ◌∷◌, ◌++◌, take, sym, ap, ◌∙◌, subst, subst₂}
use Rattle.std.proofs.lemmas.List.{take_all, take_more}
use Rattle.mvd_world.specs.Machine.{Setting, setting_of}
use Rattle.mvd_world.proofs.Opened.{ActedSoFar, acted_at_first, one_more_act}
use Rattle.mvd_world.proofs.open_world.run_acts.Goals as goal

pub loop-act-init : goal.loop-act-init
loop-act-init c =
    let setting : Setting = setting_of c.args.count c.args.max_keys c.args.defs in
    subst (λ cames. ActedSoFar setting [] cames c.in_ok-world.world) (sym c.new-cames.ensures.items) (acted_at_first setting c.in_ok-world.world c.in_ok-world.ensures.world)

pub loop-act-preserved : goal.loop-act-preserved
loop-act-preserved c =
    let setting : Setting = setting_of c.args.count c.args.max_keys c.args.defs in
    let acts = c.args.acts.now in
    let i = c.loop-act.act-index in
    subst₂ (λ done cames. ActedSoFar setting done cames c.act-came.new.self)
    (sym (take_more acts i c.act-item.result c.loop-act-test.true ∙ ap (λ s. take i acts ++ s ∷ []) (sym c.act-item.is)))
    (sym c.in_ok-push.ensures.items)
    (one_more_act setting (take i acts) c.act-item.result c.loop-act.cames.items c.act-came.result c.loop-act.world c.act-came.new.self c.loop-act.invariant c.act-came.ensures)

pub returns-clause-happened : goal.returns-clause-happened
returns-clause-happened c =
    let so_far = subst (λ l. ActedSoFar (setting_of c.args.count c.args.max_keys c.args.defs) l c.loop-act.cames.items c.loop-act.world) (take_all c.loop-act.act-index c.args.acts.now c.loop-act-test.false) c.loop-act.invariant in
    (so_far.end, (so_far.runs, so_far.stands))
