use Rattle.std.proofs.Common.{subst}
use Rattle.sqlite.specs.Files.{file_state}
use Rattle.sqlite_store.specs.Laws.{settled_at}
use Rattle.mvd_records.specs.Records.{IsSound}
use Rattle.mvd_replica.specs.File.{ClosesFile}
use Rattle.mvd_replica.specs.Holds.{HoldsStates}
use Rattle.mvd_replica.proofs.Files.{FailsToGive, closes, fails_closing}
use Rattle.mvd_replica.proofs.file.Replica+FileStore+D.close.Goals as goal

pub returns-in-Ok : goal.returns-in-Ok
returns-in-Ok g c = record {
  closed = λ clean. (
      let copied = c.in-Ok.ensures.copied clean in
      let same = c.into_connection-conn.ensures.same in
      record {
        sound = subst (λ k. IsSound (file_state {g = g.D.Disk} k)) same (record { clean = copied.was_clean; is_open = copied.was_open });
        file = subst (λ k. ClosesFile g.D.Disk (file_state {g = g.D.Disk} k).committed c.in-Ok.files) same
            (closes c.into_connection-conn.result c.in-Ok.files copied (c.schema-schema.ensures.live copied.was_open).1);
        holds = λ whole holds. (
            let site = c.args.self.site in
            subst (λ k. HoldsStates site.config.site site.states (file_state {g = g.D.Disk} k).committed) same
            (c.into_connection-conn.ensures.holds whole holds));
      });
  failed = tt;
}

pub returns-in-Err : goal.returns-in-Err
returns-in-Err g c =
    let conn = c.into_connection-conn.result in
    let it : FailsToGive {g = g.D.Disk} conn c.in-Err.failed = fails_closing {g = g.D.Disk} conn c.in-Err.failed
    (λ trees was may. settled_at conn.store g.met.D.Disk.seen_may_stay trees was may) c.schema-schema.ensures.live
    c.in-Err.ensures.kind c.in-Err.ensures.err.0 c.in-Err.ensures.err.1 in
    let same = subst (λ k. FailsToGive {g = g.D.Disk} k c.in-Err.failed) c.into_connection-conn.ensures.same it in
    record {
      closed = tt;
      failed = record { named = same.named; cause = same.cause; crash = same.crash; left = same.left };
    }
