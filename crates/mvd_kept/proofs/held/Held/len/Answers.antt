use Rattle.std.proofs.Common.{ap, sym, ◌∙◌}
use Rattle.std.specs.FinMap.{len}
use Rattle.mvd_kept.proofs.HeldMaps.{len_sorted}
use Rattle.mvd_kept.proofs.held.Held.len.Goals as goal

pub returns : goal.returns
returns c = c.len.ensures.len ∙ sym (len_sorted c.self.inside.states.entries c.len.ensures.ordered) ∙ ap len c.self.view_is
