use Rattle.std.proofs.Common.{refl, subst, sym}
use Rattle.mvd_sync.specs.Machines.{StageAsks, HearsAt, StageStands}
use Rattle.mvd_sync.specs.declared.stage.Stage.{Stage}
use Rattle.mvd_sync.proofs.Machined.{asks_short}
use Rattle.mvd_sync.proofs.hearing.hear_at.Goals as goal

pub hear_nodes-requires-clause-short : goal.hear_nodes-requires-clause-short
hear_nodes-requires-clause-short c = asks_short c.in-Descends.descent (subst StageAsks c.in-Descends.is c.requires.asks) (subst StageStands c.in-Descends.is c.requires.stands)

pub returns-in-Descends : goal.returns-in-Descends
returns-in-Descends c = subst (λ (s : Stage). HearsAt c.args.exchange.now s c.args.shares c.args.answers c.args.exchange.now c.hear_nodes.result) (sym c.in-Descends.is) (refl, c.hear_nodes.ensures)

pub returns-in-Walks : goal.returns-in-Walks
returns-in-Walks c = subst (λ (s : Stage). HearsAt c.args.exchange.now s c.args.shares c.args.answers c.hear_pages.new.exchange c.hear_pages.result) (sym c.in-Walks.is) c.hear_pages.ensures

pub returns-in-Meets : goal.returns-in-Meets
returns-in-Meets c = subst (λ (s : Stage). HearsAt c.args.exchange.now s c.args.shares c.args.answers c.hear_states.new.exchange c.hear_states.result) (sym c.in-Meets.is) c.hear_states.ensures

pub returns-in-Carries : goal.returns-in-Carries
returns-in-Carries c = subst (λ (s : Stage). HearsAt c.args.exchange.now s c.args.shares c.args.answers c.args.exchange.now c.hear_pushes.result) (sym c.in-Carries.is) (refl, c.hear_pushes.ensures)

pub hear_states-requires : goal.hear_states-requires
hear_states-requires c = let s = subst StageStands c.in-Meets.is c.requires.stands in record { few = s.1; held = s.2 }
