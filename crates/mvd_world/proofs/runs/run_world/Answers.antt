use Rattle.std.proofs.Common.{[], ◌∷◌, ◌++◌, take, sym, ap, ◌∙◌, subst, subst₂}
use Rattle.std.specs.Prelude.{⊤}
use Rattle.std.proofs.lemmas.List.{take_all, take_more}
use Rattle.mvd_world.specs.Machine.{HaveOwnDots, OnePutPerDot, Setting, world_events, setting_of}
use Rattle.mvd_world.specs.Worlds.{AlikeWhereSame, IsWorld, StandForKnown}
use Rattle.mvd_world.proofs.Chained.{SoFar, alike, at_first, leads_to, one_more, stand}
use Rattle.mvd_world.proofs.Happening.{own_dots_of_steps}
use Rattle.mvd_world.proofs.runs.run_world.Goals as goal

pub loop-step-init : goal.loop-step-init
loop-step-init c =
    let setting : Setting = setting_of c.args.count c.args.max_keys c.args.defs in
    subst (λ outcomes. SoFar setting [] outcomes c.in_ok-world.world) (sym c.new-outcomes.ensures.items) (at_first setting c.in_ok-world.world c.in_ok-world.ensures.world c.in_ok-world.ensures.short)

pub loop-step-preserved : goal.loop-step-preserved
loop-step-preserved c =
    let setting : Setting = setting_of c.args.count c.args.max_keys c.args.defs in
    let steps = c.args.steps.now in
    let i = c.loop-step.step-index in
    subst₂ (λ done outcomes. SoFar setting done outcomes c.step-outcome.new.self)
    (sym (take_more steps i c.step-item.result c.loop-step-test.true ∙ ap (λ s. take i steps ++ s ∷ []) (sym c.step-item.is)))
    (sym c.in_ok-push.ensures.items)
    (one_more setting (take i steps) c.step-item.result c.loop-step.outcomes.items c.step-outcome.result c.loop-step.world c.step-outcome.new.self c.loop-step.invariant c.step-outcome.ensures.machine c.step-outcome.ensures.short)

pub returns-clause-happened : goal.returns-clause-happened
returns-clause-happened c = leads_to (setting_of c.args.count c.args.max_keys c.args.defs) c.args.steps.now c.loop-step.outcomes.items c.loop-step.world (λ _. ⊤)
    (subst (λ l. SoFar (setting_of c.args.count c.args.max_keys c.args.defs) l c.loop-step.outcomes.items c.loop-step.world) (take_all c.loop-step.step-index c.args.steps.now c.loop-step-test.false) c.loop-step.invariant) (λ _ _. tt)

pub returns-clause-one_put : goal.returns-clause-one_put
returns-clause-one_put c = leads_to (setting_of c.args.count c.args.max_keys c.args.defs) c.args.steps.now c.loop-step.outcomes.items c.loop-step.world (λ end. OnePutPerDot end.made)
    (subst (λ l. SoFar (setting_of c.args.count c.args.max_keys c.args.defs) l c.loop-step.outcomes.items c.loop-step.world) (take_all c.loop-step.step-index c.args.steps.now c.loop-step-test.false) c.loop-step.invariant) (λ end (is : IsWorld (setting_of c.args.count c.args.max_keys c.args.defs) c.loop-step.world end). is.sound.one_put)

pub returns-clause-dots : goal.returns-clause-dots
returns-clause-dots c = subst (λ l. HaveOwnDots (world_events l c.loop-step.outcomes.items)) (take_all c.loop-step.step-index c.args.steps.now c.loop-step-test.false)
    (own_dots_of_steps (setting_of c.args.count c.args.max_keys c.args.defs) (take c.loop-step.step-index c.args.steps.now) c.loop-step.outcomes.items c.loop-step.invariant.end c.loop-step.invariant.runs)

pub returns-clause-stand : goal.returns-clause-stand
returns-clause-stand c = leads_to (setting_of c.args.count c.args.max_keys c.args.defs) c.args.steps.now c.loop-step.outcomes.items c.loop-step.world (StandForKnown c.loop-step.world)
    (subst (λ l. SoFar (setting_of c.args.count c.args.max_keys c.args.defs) l c.loop-step.outcomes.items c.loop-step.world) (take_all c.loop-step.step-index c.args.steps.now c.loop-step-test.false) c.loop-step.invariant) (stand (setting_of c.args.count c.args.max_keys c.args.defs) c.loop-step.world)

pub returns-clause-alike : goal.returns-clause-alike
returns-clause-alike c = leads_to (setting_of c.args.count c.args.max_keys c.args.defs) c.args.steps.now c.loop-step.outcomes.items c.loop-step.world (AlikeWhereSame c.loop-step.world)
    (subst (λ l. SoFar (setting_of c.args.count c.args.max_keys c.args.defs) l c.loop-step.outcomes.items c.loop-step.world) (take_all c.loop-step.step-index c.args.steps.now c.loop-step-test.false) c.loop-step.invariant) (alike (setting_of c.args.count c.args.max_keys c.args.defs) c.loop-step.world)

pub returns-clause-apart : goal.returns-clause-apart
returns-clause-apart c = c.loop-step.invariant.apart

pub returns-clause-short : goal.returns-clause-short
returns-clause-short c = c.loop-step.invariant.short
