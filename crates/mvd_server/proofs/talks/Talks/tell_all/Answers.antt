use Rattle.std.proofs.Common.{refl}
use Rattle.mvd_server.specs.Talking.{talking_of}
use Rattle.mvd_server.proofs.Deeds.{deeds_none, deeds_on}
use Rattle.mvd_server.proofs.Replying.{keeps_none, keeps_on}
use Rattle.mvd_server.proofs.talks.Talks.tell_all.Goals as goal

pub telling-init : goal.telling-init
telling-init c = record { deeds = deeds_none (talking_of c.args.self.now); heard = keeps_none c.args.self.now c.args.self.now refl refl }

pub telling-preserved : goal.telling-preserved
telling-preserved c = record {
  deeds = deeds_on (talking_of c.args.self.now) (talking_of c.telling.self) (talking_of c.tell_next.new.self) c.telling.invariant.deeds c.tell_next.ensures.deeds;
  heard = keeps_on c.args.self.now c.telling.self c.tell_next.new.self c.telling.invariant.heard c.tell_next.ensures.heard;
}

pub returns-clause-deeds : goal.returns-clause-deeds
returns-clause-deeds c = deeds_on (talking_of c.args.self.now) (talking_of c.telling.self) (talking_of c.tell_next.new.self) c.telling.invariant.deeds c.tell_next.ensures.deeds

pub returns-clause-heard : goal.returns-clause-heard
returns-clause-heard c = keeps_on c.args.self.now c.telling.self c.tell_next.new.self c.telling.invariant.heard c.tell_next.ensures.heard
