use Rattle.std.proofs.Common.{◌<◌, arith}
use Rattle.std.specs.Prelude.{slice_index_or}
use Rattle.std.proofs.lemmas.Option.{slice_get-get_or}
use Rattle.mvd_world.proofs.Changed.{met_back, met_front}
use Rattle.mvd_world.proofs.sessions.sync_at.Goals as goal

pub returns-then-local-peer : goal.returns-then-local-peer
returns-then-local-peer c =
    let cut = c.split_at_mut-front in
    let front = cut.result.0.now in
    let back = cut.result.1.now in
    met_front c.args.sites.now front back (slice_index_or front c.args.local c.index-front-local.result) (slice_index_or back 0 c.index-back-0.result) c.session.new.local c.session.new.peer c.args.local c.args.peer c.session.result cut.ensures.value cut.ensures.front_len
    (slice_get-get_or front c.args.local c.index-front-local.result (omega (arith, cut.ensures.front_len, c.if-local-peer.true)))
    (slice_get-get_or back 0 c.index-back-0.result (omega (arith, cut.ensures.back_len, c.requires.peer)))
    c.session.ensures.local_config c.session.ensures.peer_config c.session.ensures.exchange

pub returns-else-local-peer : goal.returns-else-local-peer
returns-else-local-peer c =
    let cut = c.split_at_mut-front-else-local-peer in
    let front = cut.result.0.now in
    let back = cut.result.1.now in
    let met = c.session-else-local-peer in
    let below : c.args.peer < c.args.local = omega (arith, c.if-local-peer.false, c.requires.two) in
    met_back c.args.sites.now front back (slice_index_or back 0 c.index-back-0-else-local-peer.result) (slice_index_or front c.args.peer c.index-front-peer.result) met.new.local met.new.peer c.args.local c.args.peer met.result cut.ensures.value cut.ensures.front_len
    (slice_get-get_or back 0 c.index-back-0-else-local-peer.result (omega (arith, cut.ensures.back_len, c.requires.local)))
    (slice_get-get_or front c.args.peer c.index-front-peer.result (omega (arith, cut.ensures.front_len, below)))
    met.ensures.local_config met.ensures.peer_config met.ensures.exchange
