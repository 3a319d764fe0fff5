use Rattle.std.proofs.Common.{◌≡◌, map, take}
use Rattle.mvd_sync.specs.Walking.{first_page}
use Rattle.mvd_sync.proofs.walking.first_pages.Given as goal

abbrev pub invariant-loop-path : goal.invariant-loop-path
invariant-loop-path l = l.asked.items ≡ map first_page (take l.path-index l.paths)
