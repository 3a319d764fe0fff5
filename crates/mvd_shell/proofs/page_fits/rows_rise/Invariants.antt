use Rattle.std.proofs.Common.{◌≡◌, drop, option_copied}
use Rattle.mvd_shell.specs.Fits.{rows_rise}
use Rattle.mvd_shell.proofs.page_fits.rows_rise.Given as goal

-- what is left decides
abbrev pub invariant-loop-row : goal.invariant-loop-row
invariant-loop-row l = rows_rise (option_copied l.last) (drop l.row-index l.rows) ≡ rows_rise (option_copied l.after) l.rows
