use Rattle.std.proofs.Common.{◌≡◌, drop, option_copied}
use Rattle.mvd_shell.specs.Fits.{counts_rise}
use Rattle.mvd_shell.proofs.page_fits.counts_rise.Given as goal

-- what is left decides
abbrev pub invariant-loop-entry : goal.invariant-loop-entry
invariant-loop-entry l = counts_rise l.prefix (option_copied l.last) (drop l.entry-index l.counts) ≡ counts_rise l.prefix (option_copied l.after) l.counts
