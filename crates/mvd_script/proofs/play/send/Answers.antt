use Rattle.std.specs.Prelude.{string_bytes}
use Rattle.mvd_script.proofs.Playing.{sends}
use Rattle.mvd_script.proofs.play.send.Goals as goal

pub returns-in-Ok : goal.returns-in-Ok
returns-in-Ok c = sends c.args.member.now.site c.args.key.now c.in-Ok.key c.args.member.now.world c.take.new.member.world (string_bytes c.args.out.now) (string_bytes c.take.new.out) c.take.result c.in-Ok.ensures c.take.ensures
