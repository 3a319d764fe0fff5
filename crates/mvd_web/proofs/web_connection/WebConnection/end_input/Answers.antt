use Rattle.std.proofs.Common.{false, sym, ◌∙◌}
use Rattle.mvd_web.specs.Inside.{web_of}
use Rattle.mvd_web.proofs.Feeding.{got, input_ended}
use Rattle.mvd_web.proofs.web_connection.WebConnection.end_input.Goals as goal

pub returns-else-is_err : goal.returns-else-is_err
returns-else-is_err c =
    let g = got c.read_from.result _ (sym c.is_err.ensures.value ∙ c.if-is_err.false) c.read_from.ensures.ok in
    input_ended (web_of c.args.self.now) _ _ _ g.2.2 (λ i. record (web_of c.args.self.now) { config = c.read_from.ensures.config i; heard = g.2.3 i; rests = false })
