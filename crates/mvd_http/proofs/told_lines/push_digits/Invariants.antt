use Rattle.std.proofs.Common.{◌≡◌, ◌++◌, map, string_bytes, take}
use Rattle.mvd_http.specs.Json.{digit_letter}
use Rattle.mvd_http.proofs.told_lines.push_digits.Given as goal

abbrev pub invariant-loop-digit : goal.invariant-loop-digit
invariant-loop-digit l = string_bytes l.out ≡ string_bytes l.initial.out ++ map digit_letter (take l.digit-index l.digits)
