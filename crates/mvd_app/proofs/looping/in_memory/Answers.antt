use Rattle.mvd_app.proofs.Memory.{clean_memory, without_keys}
use Rattle.mvd_replica.specs.Replicas.{conn_of, site_of}
use Rattle.mvd_app.proofs.looping.in_memory.Goals as goal

pub returns-in-Ok : goal.returns-in-Ok
returns-in-Ok c = without_keys c.args.config _ _ (site_of c.in-Ok.replica) c.in_ok-conn.ensures.empty
    (clean_memory (conn_of c.in-Ok.replica)) c.in-Ok.ensures.opens
