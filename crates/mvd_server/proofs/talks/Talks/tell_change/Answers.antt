use Rattle.std.proofs.Common.{ap, subst, sym, ◌∙◌}
use Rattle.mvd_server.specs.News.{IsNewsFor}
use Rattle.mvd_server.specs.Talking.{DeedsAt, Talking, talking_of}
use Rattle.mvd_server.proofs.talks.Talks.tell_change.Goals as goal

pub returns-clause-deeds : goal.returns-clause-deeds
returns-clause-deeds c = λ site news.
    let same = c.note_woken.ensures ∙ c.unpark.ensures in
    subst (λ (t : Talking). DeedsAt site t (talking_of c.tell_waiting.new.self)) same
    (c.tell_waiting.ensures.deeds site (subst (λ (t : Talking). IsNewsFor site t c.args.number c.args.told c.args.body.now) (sym same) news))

pub returns-clause-feed : goal.returns-clause-feed
returns-clause-feed c = c.tell_waiting.ensures.feed ∙ ap (λ (t : Talking). t.feed) (c.note_woken.ensures ∙ c.unpark.ensures)
