use Rattle.std.proofs.Common.{◌≡◌, ◌++◌, string_bytes}
use Rattle.std.specs.List.{flat_map}
use Rattle.mvd_print.specs.Place.{escaped_char}
use Rattle.mvd_print.proofs.fault_place.push_escaped.Given as goal

abbrev pub invariant-loop-letter : goal.invariant-loop-letter
invariant-loop-letter l = string_bytes l.out ≡ string_bytes l.initial.out ++ flat_map escaped_char l.yielded
