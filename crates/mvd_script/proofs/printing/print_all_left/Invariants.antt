use Rattle.std.proofs.Common.{◌≡◌, ◌++◌, take, string_bytes}
use Rattle.std.specs.List.{flat_map}
use Rattle.mvd_script.specs.Outcomes.{key_left_text}
use Rattle.mvd_script.proofs.printing.print_all_left.Given as goal

abbrev pub invariant-loop-left : goal.invariant-loop-left
invariant-loop-left l = string_bytes l.out ≡ string_bytes l.initial.out ++ flat_map key_left_text (take l.left-index l.named)
