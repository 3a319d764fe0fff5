use Rattle.std.proofs.Common.{List, Option, ℕ, refl, subst}
use Rattle.mvd_app.specs.Tasks.{MayWork, calls_asked, rounds_in}
use Rattle.mvd_client.specs.SyncsAt.{TellsSession}
use Rattle.mvd_app.proofs.commands.work_on.Goals as goal

pub returns-in-Serve : goal.returns-in-Serve
returns-in-Serve g c = rw c.in-Serve.is (rounds_in c.serve_stored.ensures.served.all, (c.in-Serve.terms.hosts.now, c.in-Serve.terms.origins.now, c.serve_stored.ensures, refl, refl))

pub returns-in-Shell : goal.returns-in-Shell
returns-in-Shell g c = rw c.in-Shell.is (calls_asked c.typed.ensures.exchanges, (c.typed.ensures, refl, refl))

-- the token that is shown is the first
pub returns-in-Sync : goal.returns-in-Sync
returns-in-Sync g c =
    let told = subst (λ (token : Option (List ℕ)). TellsSession g.D.Dialed.Line (g.D.Dial.gives c.args.dial.now c.in-Sync.address) token c.in-Sync.address c.args.gone.now c.synced.new.gone c.args.replica.now c.synced.new.replica (g.W.Write.contents c.args.writer.now) (g.W.Write.contents c.synced.new.writer) c.synced.result) c.first_of.ensures c.synced.ensures in
    rw c.in-Sync.is (told.takes.calls, (told, refl))

pub serve_stored-requires : goal.serve_stored-requires
serve_stored-requires g c = subst MayWork c.in-Serve.is c.requires
