use Rattle.std.proofs.Common.{sym, ◌∙◌}
use Rattle.mvd_http.specs.Answers.{is_stored, reply_told}
use Rattle.mvd_http.proofs.Telling.{told_so}
use Rattle.mvd_http.proofs.responses.response_of.Goals as goal

pub returns-in-Err-2-clause-told : goal.returns-in-Err-2-clause-told
returns-in-Err-2-clause-told c =
    told_so (is_stored c.args.reply.now) (reply_told c.args.request.now c.args.reply.now) _ _ c.in-Err.field-0 c.refused_response.result _ c.in-Err.ensures.told
    (sym c.is_stored.ensures ∙ c.if-is_stored.false) c.refused_response.ensures

pub returns-in-Err-2-clause-done : goal.returns-in-Err-2-clause-done
returns-in-Err-2-clause-done c = λ done. absurd (cc (c.in-Err.ensures.done done))
