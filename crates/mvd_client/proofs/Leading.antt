-- A session with what an address leads to, where that is true.
use Rattle.std.proofs.Common.{◌≡◌, [], List, Option, ℕ, sym, subst}
use Rattle.std.specs.Prelude.{Result}
use Rattle.std.specs.declared.net.socket_addr.SocketAddr.{SocketAddr}
use Rattle.mvd_client.specs.LetIn.{GivesIn}
use Rattle.mvd_client.specs.SyncsAt.{AreTrue, MeetsAt, SyncsAt}
use Rattle.mvd_client.specs.SyncsAt.MeetsAt.{met, unanswered}
use Rattle.mvd_client.specs.SyncsAt.SyncsAt.{nobody, ran}
use Rattle.mvd_client.specs.declared.gone.Gone.{Gone}
use Rattle.mvd_hint.specs.declared.hint.Stop.{Stop}
use Rattle.mvd_remote.specs.declared.line.Line.{Ghosts as LineGhosts}
use Rattle.mvd_replica.specs.Replicas.{site_of}
use Rattle.mvd_replica.specs.Sides.{IsTrueSite}
use Rattle.mvd_replica.specs.declared.replica.Replica.{Replica}
use Rattle.mvd_sync.specs.declared.report.Report.{Report}
use Rattle.sqlite_trees.specs.declared.store.Store.{Ghosts}

pub meets_at : {S : Type 0} {g : Ghosts S} {L : Type 0} (line : LineGhosts L) (gives : L → Type 0) (token : Option (List ℕ)) (address : SocketAddr) (was now : Gone L) (old new : Replica S g) (result : Result Report Stop) → SyncsAt line gives token address was now old new result → AreTrue line (GivesIn line gives token) → IsTrueSite (site_of old) → MeetsAt line gives token address old new result
meets_at line gives token address was now old new result (nobody same fault nowhere stop e un) t s = unanswered same stop e (fault, un)
meets_at line gives token address was now old new result (ran mid opened came left refused told from goes tells) t s =
    let given : GivesIn line gives token opened = (came.0, came.1, came.3) in
    let free = t opened given in
    met from.before left (subst (GivesIn line gives token) (sym from.at_line) given) told
    (from.over_line.meets s (subst line.is_true (sym from.at_line) free.0) (subst (λ l. (line.far l).due ≡ []) (sym from.at_line) free.1) from.goes_on) tells
