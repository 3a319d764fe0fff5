use Rattle.std.proofs.Common.{ap, subst}
use Rattle.mvd_kept.specs.Held.{AreHeld}
use Rattle.mvd_kept.specs.Sites.{SiteValue}
use Rattle.mvd_kept.proofs.kept.Kept.key_count.Goals as goal

pub returns-clause-held : goal.returns-clause-held
returns-clause-held c = subst AreHeld (ap (λ (s : SiteValue). s.states) c.self.view_is) c.stands.ensures
