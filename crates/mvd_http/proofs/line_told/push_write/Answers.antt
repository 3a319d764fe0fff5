use Rattle.std.proofs.Common.{arith}
use Rattle.mvd_http.proofs.LineLengths.{others_short}
use Rattle.mvd_http.proofs.line_told.push_write.Goals as goal

pub returns-in-State-clause-short : goal.returns-in-State-clause-short
returns-in-State-clause-short c = others_short c.args.reply.now (λ dot is. grind (arith, c.in-State.is))
