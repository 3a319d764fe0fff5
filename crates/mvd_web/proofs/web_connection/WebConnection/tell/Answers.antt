use Rattle.std.proofs.Common.{List, ℕ, [], true, false, subst}
use Rattle.mvd_http.specs.Faults.{answer_of}
use Rattle.mvd_http.specs.declared.fields.Answer.{Answer}
use Rattle.mvd_web.specs.Inside.{web_of}
use Rattle.mvd_web.specs.Response.{response_bytes}
use Rattle.mvd_web.specs.Web.{Queues}
use Rattle.mvd_web.specs.declared.response.Manner.{Manner}
use Rattle.mvd_web.proofs.Calls.{told_fault}
use Rattle.mvd_web.proofs.web_connection.WebConnection.tell.Goals as goal

pub returns : goal.returns
returns c =
    let mid = web_of c.drop_pending.new.self in
    let new = web_of c.queue.new.self in
    let manner : Manner = record { is_last = true; is_head = false } in
    let WithOrigin : List ℕ → Type 0 = λ origin. Queues mid (response_bytes c.answer.result c.body.result.now manner origin) new in
    let WithAnswer : Answer → Type 0 = λ answer. Queues mid (response_bytes answer c.body.result.now manner []) new in
    let WithBody : List ℕ → Type 0 = λ body. Queues mid (response_bytes (answer_of c.args.fault) body manner []) new in
    told_fault (web_of c.args.self.now) mid new c.args.fault c.drop_pending.ensures.kept c.drop_pending.ensures.all c.requires.waits c.requires.refused
    (subst WithBody c.body.ensures (subst WithAnswer c.answer.ensures (subst WithOrigin c.no_origin.ensures c.queue.ensures)))
