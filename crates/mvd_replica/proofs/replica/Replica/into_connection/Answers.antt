use Rattle.std.proofs.Common.{subst, sym}
use Rattle.sqlite.specs.Held.{state}
use Rattle.mvd_replica.specs.Holds.{HoldsStates}
use Rattle.mvd_replica.proofs.Storing.{holds_states}
use Rattle.mvd_replica.proofs.replica.Replica.into_connection.Goals as goal

pub returns : goal.returns
returns g c = record {
  same = c.into_connection.ensures;
  holds = λ whole holds. (
      let site = c.args.self.site in
      subst (λ k. HoldsStates site.config.site site.states (state g.S.Store k).committed) (sym c.into_connection.ensures) (holds_states site _ whole c.stands.ensures.held.spelled holds));
}
