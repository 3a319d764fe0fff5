use Rattle.std.proofs.Common.{◌≡◌, ◌==◌, length}
use Rattle.std.specs.List.{slice_split}
use Rattle.mvd_http.specs.Asked.{paths_asked}
use Rattle.mvd_http.proofs.Reading.{behind, paths_left}
use Rattle.mvd_http.proofs.lists_asked.each_node_of.Given as goal

abbrev pub invariant-loop-path : goal.invariant-loop-path
invariant-loop-path l = behind l.asks.items (paths_left (slice_split (λ c. c == 44) l.paths) (length l.yielded)) ≡ paths_asked (slice_split (λ c. c == 44) l.paths)
