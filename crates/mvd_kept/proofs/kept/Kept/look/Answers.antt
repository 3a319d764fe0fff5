use Rattle.std.proofs.Common.{sym, subst}
use Rattle.mvd_kept.specs.Held.{IsKept}
use Rattle.mvd_kept.proofs.Lengths.{kept_empty}
use Rattle.mvd_kept.proofs.kept.Kept.look.Goals as goal

pub returns-in-None-clause-kept : goal.returns-in-None-clause-kept
returns-in-None-clause-kept c = subst IsKept (sym c.requires) kept_empty
