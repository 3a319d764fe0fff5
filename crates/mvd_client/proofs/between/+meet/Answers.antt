use Rattle.std.proofs.Common.{◌-◌, arith, refl}
use Rattle.mvd_client.specs.Between.GoesOn.{anew, failed, well}
use Rattle.mvd_client.proofs.between.+meet.Goals as goal

pub returns-in-Ok : goal.returns-in-Ok
returns-in-Ok g t c = well c.args.most c.args.gone.now c.in-Ok.met c.in-Ok.ensures refl

pub returns-in-Err : goal.returns-in-Err
returns-in-Err g t c = anew c.args.most (c.args.most - 1) c.args.gone.now c.session.new.gone c.in-Err.failure.stop c.in-Err.ensures (omega (arith, c.if-most-gt0.true)) c.meet.ensures

pub returns-in-Err-2 : goal.returns-in-Err-2
returns-in-Err-2 g t c = failed c.args.most c.args.gone.now c.in-Err.failure.stop c.in-Err.ensures refl
