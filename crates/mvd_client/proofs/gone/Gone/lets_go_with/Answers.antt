use Rattle.std.proofs.Common.{refl}
use Rattle.mvd_client.proofs.gone.Gone.lets_go_with.Goals as goal

pub returns : goal.returns
returns g c = (c.args.refused, refl, c.let_go.ensures, refl)
