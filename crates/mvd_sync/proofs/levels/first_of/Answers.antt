use Rattle.std.proofs.Common.{sym, arith}
use Rattle.std.proofs.lemmas.List.{length-take-le, take_all}
use Rattle.mvd_sync.proofs.levels.first_of.Goals as goal

pub returns-then-rest-le-WINDOW : goal.returns-then-rest-le-WINDOW
returns-then-rest-le-WINDOW c = sym (take_all 64 c.args.rest.now (omega (arith, c.if-rest-le-WINDOW.true)))

pub slice_bounds-result-end : goal.slice_bounds-result-end
slice_bounds-result-end c = sym (length-take-le 64 c.args.rest.now (omega (arith, c.if-rest-le-WINDOW.false)))
