use Rattle.std.proofs.Common.{◌∙◌, string_bytes, sym}
use Rattle.mvd_server.proofs.Questions.{line_allowed, line_denied}
use Rattle.mvd_server.proofs.asks.push_ask.Goals as goal

pub returns-then-allows : goal.returns-then-allows
returns-then-allows c =
    line_allowed c.args.right.now c.args.site.now c.args.spelling (string_bytes c.args.out.now) _ c.args.ask.now _ _ c.in-Ok.is (sym c.allows.ensures ∙ c.if-allows.true) c.push_answer.ensures

pub returns : goal.returns
returns c =
    line_denied c.args.right.now c.args.site.now c.args.spelling (string_bytes c.args.out.now) _ c.args.ask.now _ _ c.in-Ok.is (sym c.allows.ensures ∙ c.if-allows.false) c.push_denied.ensures.text
