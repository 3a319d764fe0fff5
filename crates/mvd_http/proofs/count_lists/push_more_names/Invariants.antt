use Rattle.std.proofs.Common.{◌≡◌, ◌++◌, take, string_bytes}
use Rattle.std.specs.List.{flat_map}
use Rattle.mvd_http.specs.Json.{led, quoted}
use Rattle.mvd_http.proofs.count_lists.push_more_names.Given as goal

abbrev pub invariant-loop-key : goal.invariant-loop-key
invariant-loop-key l = string_bytes l.out ≡ string_bytes l.initial.out ++ flat_map (led quoted) (take l.key-index l.keys)
