use Rattle.std.proofs.Common.{ap, inr, sym}
use Rattle.mvd_server.specs.Talking.{talking_of}
use Rattle.mvd_server.proofs.talks.Talks.lack_memory.Goals as goal

pub returns-in-Some : goal.returns-in-Some
returns-in-Some c =
    let web = c.refuse.new.web in
    inr (c.in-Some.web.now, web, sym c.in-Some.ensures.value, c.refuse.ensures, ap (λ e. record (talking_of c.args.self.now) { webs = e }) (c.get_mut.follows.holds web).0)
