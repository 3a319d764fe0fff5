use Rattle.std.proofs.Common.{ap, take, ◌∙◌}
use Rattle.mvd_sync.specs.Level.{next_nodes}
use Rattle.mvd_sync.proofs.Descending.{rest_told}
use Rattle.mvd_sync.proofs.levels.Descent.window.Goals as goal

pub returns : goal.returns
returns c =
    let d = c.self.inside in
    c.first_of.ensures ∙ ap (take 64) (rest_told c.deref.result.now d.paths.items d.told c.deref.ensures.value) ∙ ap next_nodes c.self.view_is
