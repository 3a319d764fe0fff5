use Rattle.std.proofs.Common.{◌∙◌}
use Rattle.mvd_client.proofs.gone.Gone.lets_go.Goals as goal

pub returns : goal.returns
returns g c =
    let gone = c.lets_go_with.ensures in
    (gone.0, gone.1 ∙ c.none.ensures, gone.2, gone.3)
