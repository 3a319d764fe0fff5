-- A server that did not run.
use Rattle.std.proofs.Common.{List, Option, Err, refl}
use Rattle.mvd_app.specs.Tasks.{ServesTo}
use Rattle.mvd_conn.specs.declared.passes.Pass.{Pass}
use Rattle.mvd_hint.specs.declared.hint.Stop.{Stop}
use Rattle.mvd_replica.specs.Replicas.{site_of}
use Rattle.mvd_replica.specs.declared.replica.Replica.{Replica}
use Rattle.mvd_server.proofs.Rounds.{served_none}
use Rattle.mvd_server.specs.Closing.{EndsAtFault}
use Rattle.mvd_server.specs.TokenFiles.{Named}
use Rattle.mvd_server.specs.declared.sockets.Sockets.{Ghosts as SocketGhosts}
use Rattle.sqlite_trees.specs.declared.store.Store.{Ghosts}

module _ {S : Type 0} {g : Ghosts S} {K I A T : Type 0} (k : SocketGhosts K I A T) where
  pub serves_nothing : (passes : Option (List Pass)) (names : Named) (sockets : K) (old : Replica S g) (stop : Stop) → EndsAtFault (site_of old) stop.fault → ServesTo k passes names sockets old sockets old (Err stop)
  serves_nothing passes names sockets old stop cause = record { served = served_none k passes names sockets old; left = tt; cause = cause; unheard = λ some. (refl, refl) }
