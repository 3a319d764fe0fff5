use Rattle.std.proofs.Common.{sym, subst}
use Rattle.mvd_world.specs.OpenWorlds.{ActsOpen}
use Rattle.mvd_world.specs.declared.acts.Came.TheVariants.{Took}
use Rattle.mvd_world.proofs.open_world.OpenWorld.act.Goals as goal

pub returns-in-Take : goal.returns-in-Take
returns-in-Take c = subst (λ a. ActsOpen c.args.self.now c.step.new.self a (Took c.step.result)) (sym c.in-Take.is) c.step.ensures

pub returns-in-Begin : goal.returns-in-Begin
returns-in-Begin c = subst (λ a. ActsOpen c.args.self.now c.begin.new.self a c.begin.result) (sym c.in-Begin.is) c.begin.ensures.acts

pub returns-in-Go : goal.returns-in-Go
returns-in-Go c = subst (λ a. ActsOpen c.args.self.now c.go.new.self a c.go.result) (sym c.in-Go.is) c.go.ensures
