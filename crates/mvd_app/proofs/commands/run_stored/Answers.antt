use Rattle.std.proofs.Common.{inl, inr, option_copied, refl}
use Rattle.sqlite.specs.WalFiles.{image_at}
use Rattle.mvd_app.specs.Stored.{filed}
use Rattle.mvd_app.specs.Tasks.{task_of}
use Rattle.mvd_app.proofs.Ending.{file_back}
use Rattle.mvd_app.proofs.Running.{runs_of}
use Rattle.mvd_app.proofs.Working.{does_by, does_work}
use Rattle.mvd_app.proofs.commands.run_stored.Goals as goal

pub returns-in-Err : goal.returns-in-Err
returns-in-Err g c = record {
  file = inl (refl, (c.in-Err.stop, refl));
  told = inl (record {
    left = refl;
    still = refl;
    stop = c.in-Err.stop;
    ended = refl;
    cause = inl c.in-Err.ensures.stopped;
  });
}

pub returns-in-Ok-opened : goal.returns-in-Ok-opened
returns-in-Ok-opened g c =
    let image = image_at g.S.Start in
    let old = c.in-Ok-opened.replica in
    let new = c.work_on-worked.new.replica in
    let opened = c.in-Ok-opened.ensures.opened in
    let set_up = c.in-Ok.ensures.read.0 in
    let tokens = option_copied c.as_ref.result in
    let does = c.work_on-worked.ensures in
    let left = c.finish-left.result.0 in
    let runs = runs_of image c.args.setup.site c.in-Ok.read.0 set_up.site old new opened opened.rests does.0
    (does_by _ _ _ _ _ _ old new does.0 c.work_on-worked.result (task_of c.args.work) does.1 opened.stands) c.look-harm.result left c.finish-left.ensures.left in
    record {
      file = inr (left, refl, record { config = c.in-Ok.read.0; keys = set_up.keys; new = new; calls = does.0; runs = runs });
      told = inr (record {
        config = c.in-Ok.read.0;
        set_up = set_up;
        old = old;
        opened = opened;
        tokens = tokens;
        of_file = rw c.as_ref.ensures.value c.in-Ok.ensures.read.1;
        new = new;
        calls = does.0;
        worked = c.work_on-worked.result;
        does = does.1;
        left = left;
        comes = refl;
        runs = runs;
        harm = c.look-harm.result;
        leaves = c.finish-left.ensures.left;
        kept = file_back image (filed c.args.db c.args.setup c.args.token_file (task_of c.args.work)) c.in-Ok.read.0 set_up old new opened c.look-harm.result left
            (does_work _ _ _ _ _ _ old new does.0 c.work_on-worked.result (task_of c.args.work) does.1) c.finish-left.ensures.left;
        ends = c.finish-left.ensures.ended;
      });
    }

pub returns-in-Err-opened : goal.returns-in-Err-opened
returns-in-Err-opened g c = record {
  file = inl (refl, (c.in-Err-opened.stop, refl));
  told = inl (record {
    left = refl;
    still = refl;
    stop = c.in-Err-opened.stop;
    ended = refl;
    cause = inr (c.in-Ok.read.0, c.in-Ok.ensures.read.0, c.in-Err-opened.ensures.refused);
  });
}
