use Rattle.std.specs.Prelude.{string_bytes}
use Rattle.std.proofs.Common.{refl}
use Rattle.mvd_shell.proofs.Talking.{reads_none, reads_on}
use Rattle.mvd_shell.proofs.talk.say.Goals as goal

pub returns-in-Ok : goal.returns-in-Ok
returns-in-Ok g c = reads_on g.A.Endpoint.answers c.args.asked.now c.request_of.new.asked c.say_pages.new.asked c.args.ask c.in-Ok.request (string_bytes c.args.out.now) (string_bytes c.args.out.now) (string_bytes c.say_pages.new.out) c.say_pages.result refl c.in-Ok.ensures c.say_pages.ensures

pub returns-in-Err : goal.returns-in-Err
returns-in-Err g c = reads_none g.A.Endpoint.answers c.args.asked.now c.request_of.new.asked c.args.ask c.in-Err.refusal (string_bytes c.args.out.now) (string_bytes c.args.out.now) refl c.in-Err.ensures
