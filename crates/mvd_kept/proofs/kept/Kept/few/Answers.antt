use Rattle.std.proofs.Common.{ap, subst}
use Rattle.mvd_rows.specs.Changes.{IsRoomy}
use Rattle.mvd_kept.specs.Sites.{SiteValue}
use Rattle.mvd_kept.proofs.Room.{is_roomy}
use Rattle.mvd_kept.proofs.kept.Kept.few.Goals as goal

pub returns : goal.returns
returns c =
    subst IsRoomy (ap (λ (s : SiteValue). s.states) c.self.view_is)
    (is_roomy c.self.inside.states c.self.inside.config.max_keys c.stands.ensures c.self.invariant.room c.max_keys-most.ensures.valid.keys_high)
