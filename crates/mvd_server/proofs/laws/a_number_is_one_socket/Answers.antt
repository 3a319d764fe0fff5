use Rattle.mvd_server.proofs.Fresh.{one_socket}
use Rattle.mvd_server.proofs.laws.a_number_is_one_socket.Goals as goal
use Rattle.sqlite.specs.Held.{state}

pub returns : goal.returns
returns g c = one_socket (state g.S.Store) g.K.Sockets
