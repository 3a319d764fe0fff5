use Rattle.std.proofs.Common.{ap, subst}
use Rattle.mvd_server.specs.Talking.{talking_of}
use Rattle.mvd_server.specs.Wires.{FeedsBy}
use Rattle.mvd_server.proofs.talks.Talks.feed.Goals as goal

pub returns-in-Some : goal.returns-in-Some
returns-in-Some c =
    let old = talking_of c.args.self.now in
    let web = c.feed.new.self in
    subst (λ o. FeedsBy o c.args.number c.args.bytes.now old (record old { webs = (c.get_mut.follows.lender web).entries })) c.in-Some.ensures.value
    (web, c.feed.ensures, ap (λ e. record old { webs = e }) (c.get_mut.follows.holds web).0)
