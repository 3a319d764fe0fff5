use Rattle.mvd_dots.proofs.Canonical.{base_is, loose_is, loose_rises}
use Rattle.mvd_dots.proofs.contexts.bases_and_loose.Goals as goal

pub returns : goal.returns
returns c = record { base = base_is; loose = loose_is; rising = loose_rises }
