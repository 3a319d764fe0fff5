use Rattle.std.proofs.Common.{subst}
use Rattle.mvd_client.specs.Refusals.{noted_in}
use Rattle.mvd_client.specs.SyncSides.{in_session}
use Rattle.mvd_client.specs.SyncsAt.{SyncsOver}
use Rattle.mvd_client.proofs.peer_commands.sync_line.Goals as goal

pub returns-clause-syncs : goal.returns-clause-syncs
returns-clause-syncs g c = (
  c.sync_over-ran.new.watched.side,
  noted_in c.sync_over-ran.new.refused,
  record {
    before = c.over.result;
    at_line = c.over.ensures.line;
    goes_on = c.over.ensures.goes_on;
    untold = c.over.ensures.untold;
    over_line = subst (λ noted. SyncsOver g.L.Line (in_session c.args.replica.now noted) (in_session c.sync_over-ran.new.replica (noted_in c.sync_over-ran.new.refused)) c.over.result c.sync_over-ran.new.watched.side c.sync_over-ran.result) c.none-refused.ensures c.sync_over-ran.ensures.syncs;
  },
  c.lets_go_with.ensures,
)
