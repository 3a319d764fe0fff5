use Rattle.mvd_shell.proofs.Talking.{sees_none, sees_shown}
use Rattle.mvd_shell.proofs.text_requests.shown_now.Goals as goal

pub returns-in_default : goal.returns-in_default
returns-in_default g c = sees_none g.A.Endpoint.answers c.args.asked.now c.args.key.now

pub returns : goal.returns
returns g c = sees_shown g.A.Endpoint.answers c.args.asked.now c.ask-reply.new.self c.args.key.now c.in-Ok.key c.ask-reply.result c.shown.result c.in-Ok.ensures c.ask-reply.ensures c.shown.ensures
