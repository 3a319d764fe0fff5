use Rattle.std.proofs.Common.{string_bytes}
use Rattle.std.proofs.lemmas.List.{drop_all}
use Rattle.mvd_http.proofs.Following.{states_done, states_on}
use Rattle.mvd_http.proofs.followed.states_of.Goals as goal

pub loop-key-preserved : goal.loop-key-preserved
loop-key-preserved g c =
    states_on (g.H.Holds.states c.args.held.now) c.args.spelling c.args.keys.now c.loop-key.key-index c.key-item.result c.loop-key.is_first (string_bytes c.loop-key.told) _ _ _ c.loop-key-test.true c.key-item.is c.in_ok-push_comma.ensures c.in_ok-push_state_or_later.ensures.text
    c.loop-key.invariant

pub returns-clause-text : goal.returns-clause-text
returns-clause-text g c =
    states_done (g.H.Holds.states c.args.held.now) c.args.spelling c.args.keys.now c.loop-key.key-index c.loop-key.is_first (string_bytes c.loop-key.told) _ (drop_all c.loop-key.key-index c.args.keys.now c.loop-key-test.false) c.loop-key.invariant
