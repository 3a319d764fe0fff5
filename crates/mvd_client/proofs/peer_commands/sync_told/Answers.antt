use Rattle.std.proofs.Common.{refl}
use Rattle.mvd_client.proofs.Leading.{meets_at}
use Rattle.mvd_client.proofs.peer_commands.sync_told.Goals as goal

pub returns-in-Ok : goal.returns-in-Ok
returns-in-Ok g c = record {
  tells = record {
    ran = c.sync_run.result;
    syncs = c.sync_run.ensures.syncs;
    meets = λ t s. meets_at _ _ _ _ _ _ _ _ _ c.sync_run.ensures.syncs t (s, c.stands.ensures.held);
    takes = c.sync_run.ensures.takes;
    pushed = c.sync_run.ensures.pushed;
    told = rw c.in-Ok.is c.tell_report.ensures.told;
  };
}

pub returns-in-Err : goal.returns-in-Err
returns-in-Err g c = record {
  tells = record {
    ran = c.sync_run.result;
    syncs = c.sync_run.ensures.syncs;
    meets = λ t s. meets_at _ _ _ _ _ _ _ _ _ c.sync_run.ensures.syncs t (s, c.stands.ensures.held);
    takes = c.sync_run.ensures.takes;
    pushed = c.sync_run.ensures.pushed;
    told = rw c.in-Err.is (refl, refl);
  };
}
