use Rattle.std.proofs.Common.{refl}
use Rattle.std.specs.Prelude.{Ok, Err}
use Rattle.mvd_sync.proofs.Machined.{took_fit, took_told}
use Rattle.mvd_sync.proofs.machine.Machine.take.Goals as goal

pub invariant_of-self : goal.invariant_of-self
invariant_of-self c = took_fit c.self.inside.left c.self.inside.exchange c.self.inside.stage c.replace-stage.result c.in-Ok.stage _ c.hear.new.left c.hear.new.exchange c.hear.result c.replace-stage.ensures.value c.in-Ok.is c.self.invariant c.hear.ensures

pub returns-in-Ok : goal.returns-in-Ok
returns-in-Ok c = record {
  after = Ok c.in-Ok.stage;
  hears = took_told _ c.args.self.now c.replace-stage.result _ c.hear.new.left c.hear.new.exchange c.hear.result (Ok c.in-Ok.stage) c.self.view_is c.replace-stage.ensures.value c.in-Ok.is c.hear.ensures;
  stage = refl;
  is = refl;
}

pub returns-in-Err : goal.returns-in-Err
returns-in-Err c = record {
  after = Err c.in-Err.fault;
  hears = took_told _ c.args.self.now c.replace-stage.result _ c.hear.new.left c.hear.new.exchange c.hear.result (Err c.in-Err.fault) c.self.view_is c.replace-stage.ensures.value c.in-Err.is c.hear.ensures;
  stage = refl;
  is = refl;
}
