use Rattle.std.proofs.Common.{refl}
use Rattle.std.proofs.lemmas.Result.{err_from_is_err_and}
use Rattle.mvd_server.proofs.PeerTelling.{breaks_same, goes_err}
use Rattle.mvd_server.proofs.peering.Peering.meets.Goals as goal

pub returns-in_err-move_bytes-clause-says : goal.returns-in_err-move_bytes-clause-says
returns-in_err-move_bytes-clause-says c =
    let p = err_from_is_err_and c.from_residual.result c.from_residual.ensures.1 in
    goes_err c.from_residual.result _ _ p.0 p.1 (breaks_same _ _ refl)
