use Rattle.std.proofs.Common.{ap, subst, ◌∙◌, length, min}
use Rattle.mvd_server.specs.Talking.{talking_of}
use Rattle.mvd_server.specs.Wires.{SendsBy}
use Rattle.mvd_web.specs.Inside.{web_of}
use Rattle.mvd_web.specs.Web.{web_sent}
use Rattle.mvd_server.proofs.talks.Talks.sent.Goals as goal

pub returns-in-Some : goal.returns-in-Some
returns-in-Some c =
    let old = talking_of c.args.self.now in
    let web = c.sent.new.self in
    subst (λ o. SendsBy o c.args.number c.args.count old (record old { webs = (c.get_mut.follows.lender web).entries })) c.in-Some.ensures.value
    (web, c.sent.ensures ∙ ap (λ n. web_sent (web_of c.in-Some.web.now) n) c.min-count.ensures ∙ ap (λ b. web_sent (web_of c.in-Some.web.now) (min c.args.count (length b))) c.waiting.ensures, ap (λ e. record old { webs = e }) (c.get_mut.follows.holds web).0)
