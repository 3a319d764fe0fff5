use Rattle.std.proofs.Common.{OnOk, ap, refl, subst, sym, ◌∙◌}
use Rattle.mvd_server.specs.Errands.{TellsChange}
use Rattle.mvd_server.specs.News.{asked_by, followed_by}
use Rattle.mvd_server.specs.Since.{IsLetStill, IsNews}
use Rattle.mvd_server.specs.Talking.{IsWaiting, talking_of}
use Rattle.mvd_server.proofs.Answering.{awaits_so, tells_news}
use Rattle.mvd_server.proofs.Beginning.{keeps_asked, pushed_many}
use Rattle.mvd_server.proofs.Deeds.{attends_at}
use Rattle.mvd_server.proofs.talks.Talks.tell_waiting.Goals as goal
use Rattle.mvd_web.specs.Inside.{web_of}

pub returns-in-Some-clause-deeds : goal.returns-in-Some-clause-deeds
returns-in-Some-clause-deeds c = λ site news.
    let old = talking_of c.args.self.now in
    let web = c.tell_pushed.new.web in
    let now = c.in-Some.web.now in
    let has = sym c.in-Some.ensures.value in
    let so = awaits_so (web_of now).asked (subst (λ o. IsWaiting o) has (c.awaits_change.ensures c.if-not-awaits_change.false)) in
    let is = subst (λ o. OnOk c.args.told (IsNews (IsLetStill old.passes (asked_by o)) old.feed site.states so.0 c.args.body.now)) has (news so.0 (ap followed_by has ∙ so.1)) in
    attends_at site c.args.number TellsChange now web old old.hand old.batches (c.get_mut.follows.lender web).entries has
    (tells_news old.passes old.feed site.states so.0 c.args.told c.args.body.now (web_of now) (web_of web) so.1 is c.tell_pushed.ensures, refl) (c.get_mut.follows.holds web).0

pub returns-in-Some-clause-writes : goal.returns-in-Some-clause-writes
returns-in-Some-clause-writes c =
    let old = talking_of c.args.self.now in
    let web = c.tell_pushed.new.web in
    let now = c.in-Some.web.now in
    keeps_asked c.args.number now web old old.hand (c.get_mut.follows.lender web).entries (sym c.in-Some.ensures.value) (c.get_mut.follows.holds web).0 (pushed_many c.args.told c.args.body.now (web_of now) (web_of web) c.tell_pushed.ensures)
