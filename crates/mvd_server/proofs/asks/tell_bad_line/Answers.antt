use Rattle.mvd_web.specs.Inside.{web_of}
use Rattle.mvd_server.proofs.Questions.{bad_line_told}
use Rattle.mvd_server.proofs.asks.tell_bad_line.Goals as goal

pub returns-in-Ok : goal.returns-in-Ok
returns-in-Ok c =
    bad_line_told c.args.line (web_of c.args.web.now) (web_of c.respond.new.web) _ _ _ _ c.new-body.ensures.bytes c.in-Ok.ensures c.as_str.ensures.value c.answer_of-answer.ensures c.respond.ensures
