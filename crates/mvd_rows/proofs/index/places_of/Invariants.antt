use Rattle.std.proofs.Common.{◌≡◌, filter_map}
use Rattle.mvd_rows.specs.Pages.{place_of_mark}
use Rattle.mvd_rows.proofs.index.places_of.Given as goal

abbrev pub invariant-loop-mark : goal.invariant-loop-mark
invariant-loop-mark l = l.places.items ≡ filter_map place_of_mark l.yielded
