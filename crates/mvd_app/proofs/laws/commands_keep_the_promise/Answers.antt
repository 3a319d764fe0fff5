use Rattle.mvd_app.proofs.Commanded.{keep}
use Rattle.mvd_app.proofs.laws.commands_keep_the_promise.Goals as goal

pub returns : goal.returns
returns g c = λ site image a first commands file are. keep _ site image a first commands file are
