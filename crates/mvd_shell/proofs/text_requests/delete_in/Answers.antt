use Rattle.std.proofs.Common.{Ok, refl}
use Rattle.mvd_wire.specs.declared.request.Request.TheVariants.{Delete}
use Rattle.mvd_shell.proofs.Talking.{seen_so, unread, unseen}
use Rattle.mvd_shell.specs.Asked.{delete_request}
use Rattle.mvd_shell.proofs.text_requests.delete_in.Goals as goal

pub returns-in-Err : goal.returns-in-Err
returns-in-Err g c = unread g.A.Endpoint.answers c.args.asked.now c.args.key.now c.args.context.now delete_request c.in-Err.refusal c.in-Err.ensures

pub returns-in-Err-context_of : goal.returns-in-Err-context_of
returns-in-Err-context_of g c = unseen g.A.Endpoint.answers c.args.asked.now c.context_of.new.asked c.args.key.now c.args.context.now delete_request c.in-Ok.key c.in-Err-context_of.refusal c.in-Ok.ensures c.in-Err-context_of.ensures

pub returns-in-Ok-context_of : goal.returns-in-Ok-context_of
returns-in-Ok-context_of g c = seen_so g.A.Endpoint.answers c.args.asked.now c.context_of.new.asked c.args.key.now c.args.context.now delete_request c.in-Ok.key c.in-Ok-context_of.seen (Ok (Delete c.in-Ok.key c.in-Ok-context_of.seen)) c.in-Ok.ensures refl c.in-Ok-context_of.ensures
