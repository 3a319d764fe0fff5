use Rattle.std.proofs.Common.{◌≡◌, length, drop}
use Rattle.mvd_http.specs.Guard.{has_part, parts_of}
use Rattle.mvd_http.proofs.guard.is_part.Given as goal

abbrev pub invariant-loop-part : goal.invariant-loop-part
invariant-loop-part l = has_part l.item (drop (length l.yielded) (parts_of l.list)) ≡ has_part l.item (parts_of l.list)
