use Rattle.std.proofs.Common.{◌≡◌, length, drop}
use Rattle.mvd_http.specs.Paths.{given as value_of, parameters_of, value_among}
use Rattle.mvd_http.proofs.target.given.Given as goal

abbrev pub invariant-loop-option : goal.invariant-loop-option
invariant-loop-option l = value_among l.name (drop (length l.yielded) (parameters_of l.query)) ≡ value_of l.name l.query
