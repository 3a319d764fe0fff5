use Rattle.sqlite.specs.Held.{state}
use Rattle.mvd_replica.specs.Replicas.{site_of, store_of}
use Rattle.mvd_runs.proofs.Pushing.{side_append, side_follows, side_none, side_window}
use Rattle.mvd_runs.proofs.PushTurns.{side_push}
use Rattle.mvd_runs.proofs.laws.a_session_is_turns.Goals as goal

pub returns : goal.returns
returns g c = record {
  none = λ site conn. side_none site (state g.S.Store conn);
  on = λ old mid new before between after p q. side_append old mid new (state g.S.Store before) (state g.S.Store between) (state g.S.Store after) p q;
  push = λ old new key pushed result valid it. side_push old new key pushed result valid it;
  window = λ old new pairs replies valid it. side_window pairs replies (site_of old) (site_of new) (store_of old) (store_of new) valid it;
  follows = λ old new takes comes. side_follows (site_of old) (site_of new) (store_of old) (store_of new) takes comes;
}
