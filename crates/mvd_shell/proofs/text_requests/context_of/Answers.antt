use Rattle.std.proofs.Common.{◌∙◌, sym, true≢false}
use Rattle.mvd_shell.proofs.Talking.{sees_text}
use Rattle.mvd_shell.proofs.text_requests.context_of.Goals as goal

pub returns-else-is_at : goal.returns-else-is_at
returns-else-is_at g c = sees_text g.A.Endpoint.answers c.args.asked.now c.args.key.now c.args.text.now c.read.result (λ same. true≢false (sym (c.is_at.ensures.1 same) ∙ c.if-is_at.false)) c.read.ensures
