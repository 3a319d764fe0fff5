use Rattle.std.proofs.Common.{◌≡◌, drop, option_copied}
use Rattle.mvd_shell.specs.Fits.{places_rise}
use Rattle.mvd_shell.proofs.page_fits.places_rise.Given as goal

-- what is left decides
abbrev pub invariant-loop-place : goal.invariant-loop-place
invariant-loop-place l = places_rise l.from l.to (option_copied l.last) (drop l.place-index l.places) ≡ places_rise l.from l.to (option_copied l.after) l.places
