use Rattle.std.proofs.Common.{refl}
use Rattle.mvd_client.specs.SyncsAt.SyncsAt.{nobody, ran}
use Rattle.mvd_client.proofs.Leading.{meets_at}
use Rattle.mvd_client.proofs.Opened.{are_true_in}
use Rattle.mvd_client.proofs.peer_commands.sync_run.Goals as goal

pub returns-in-Err-clause-syncs : goal.returns-in-Err-clause-syncs
returns-in-Err-clause-syncs g c = nobody refl c.in-Err.fault c.in-Err.ensures.nowhere c.undialed.result refl c.undialed.ensures

pub returns-in-Ok-sync_line-clause-syncs : goal.returns-in-Ok-sync_line-clause-syncs
returns-in-Ok-sync_line-clause-syncs g c =
    let from = c.sync_line.ensures.syncs in
    ran c.let_in.new.gone c.in-Ok.line c.in-Ok.ensures.line from.0 from.1 c.sync_line.result from.2 from.3 (rw c.in-Ok-sync_line.is refl)

pub returns-in-Err-sync_line-clause-syncs : goal.returns-in-Err-sync_line-clause-syncs
returns-in-Err-sync_line-clause-syncs g c =
    let from = c.sync_line.ensures.syncs in
    ran c.let_in.new.gone c.in-Ok.line c.in-Ok.ensures.line from.0 from.1 c.sync_line.result from.2 from.3 (rw c.in-Err-sync_line.is (c.faulted.result, refl, c.faulted.ensures))

pub returns-in-Err-clause-meets : goal.returns-in-Err-clause-meets
returns-in-Err-clause-meets g c = λ t s. meets_at _ _ _ _ _ _ _ _ _ (returns-in-Err-clause-syncs g c) (are_true_in g.D.Dialed.Line _ _ t) (s, c.stands.ensures.held)

pub returns-in-Ok-sync_line-clause-meets : goal.returns-in-Ok-sync_line-clause-meets
returns-in-Ok-sync_line-clause-meets g c = λ t s. meets_at _ _ _ _ _ _ _ _ _ (returns-in-Ok-sync_line-clause-syncs g c) (are_true_in g.D.Dialed.Line _ _ t) (s, c.stands.ensures.held)

pub returns-in-Err-sync_line-clause-meets : goal.returns-in-Err-sync_line-clause-meets
returns-in-Err-sync_line-clause-meets g c = λ t s. meets_at _ _ _ _ _ _ _ _ _ (returns-in-Err-sync_line-clause-syncs g c) (are_true_in g.D.Dialed.Line _ _ t) (s, c.stands.ensures.held)
