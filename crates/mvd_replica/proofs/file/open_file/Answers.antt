use Rattle.std.proofs.Common.{List, ℕ, ap, ap₂, cond, Bool}
use Rattle.std.proofs.lemmas.Option.{IfSome_then}
use Rattle.mvd_records.specs.Records.{IsSound}
use Rattle.sqlite_disk.specs.Events.{Event, replay}
use Rattle.sqlite.specs.Recovery.{Image}
use Rattle.mvd_replica.specs.declared.file.FileFault.TheVariants.{File}
use Rattle.mvd_replica.proofs.Files.{fails_opening, found_in, just_held}
use Rattle.mvd_replica.proofs.file.open_file.Goals as goal

abbrev image : List ℕ → List ℕ → Image
image log db = record { log = log; db = db }

abbrev seen : List ℕ → List ℕ → Bool → List Event → List ℕ
seen log db is_log history = (replay (cond is_log log db) history).seen

pub returns-in-Ok-open : goal.returns-in-Ok-open
returns-in-Ok-open g c =
    let it = c.in-Ok-open.ensures.opens in
    record {
      opens = record {
        site = it.is;
        stands = it.stands;
        held = c.stands.ensures.held;
        is_open = it.is_open;
        opens = λ clean. (
            let sound : IsSound _ = record { clean = clean; is_open = it.is_open clean } in
            let was = it.before sound in
            let found = found_in _ _ (c.in-Ok.ensures.found was.clean) ((c.in-Ok.ensures.opened was.clean).1 was.is_open).1 in
            record {
              was = _;
              found = found;
              opened = it.opened sound;
              own = λ foreign. it.own (record { foreign = foreign; autocommit = c.in-Ok.ensures.fresh.autocommit; is_open = was.is_open });
              just = just_held _ _ _ _ _ found (it.opened sound);
            });
        rests = λ clean. (
            let sound : IsSound _ = record { clean = clean; is_open = it.is_open clean } in
            let was = it.before sound in
            (_, found_in _ _ (c.in-Ok.ensures.found was.clean) ((c.in-Ok.ensures.opened was.clean).1 was.is_open).1, it.rests sound));
        refused = tt;
      };
      memory = c.in-Ok.ensures.memory;
    }

pub returns-in-Err : goal.returns-in-Err
returns-in-Err g c = record {
  opens = record {
    site = tt;
    stands = tt;
    held = tt;
    opens = tt;
    is_open = tt;
    rests = tt;
    refused = fails_opening _ c.args.config c.in-Err.error c.in-Err.ensures.named c.in-Err.left c.in-Err.ensures.unopened
        (IfSome_then c.in-Err.left c.in-Err.ensures.cause (λ left it. (
        let log = it.1 in
        let db = it.2 in
        let same = ap₂ image (ap₂ (seen g.S.Start.log g.S.Start.db) log.0 log.1) (ap₂ (seen g.S.Start.log g.S.Start.db) db.0 db.1) in
        (it.0, λ clean. (same, (it.3 clean).0, (it.3 clean).1)))));
  };
  memory = λ is. (c.in-Err.left, ap (λ error. File error c.in-Err.left) (c.in-Err.ensures.memory is));
}

pub returns-in-Err-open : goal.returns-in-Err-open
returns-in-Err-open g c =
    let it = c.in-Err-open.ensures.opens in
    record {
      opens = record {
        site = tt;
        stands = tt;
        held = tt;
        opens = tt;
        is_open = tt;
        rests = tt;
        refused = (
          it.refusal,
          λ sound. (
              let was = it.before sound in
              record {
                was = _;
                found = found_in _ _ (c.in-Ok.ensures.found was.clean) ((c.in-Ok.ensures.opened was.clean).1 was.is_open).1;
                refused = it.refused sound;
                foreign = λ foreign. it.foreign (record { foreign = foreign; autocommit = c.in-Ok.ensures.fresh.autocommit; is_open = was.is_open });
                untouched = it.untouched sound;
              }),
        );
      };
      memory = λ is. absurd (c.in-Ok.ensures.memory is);
    }
