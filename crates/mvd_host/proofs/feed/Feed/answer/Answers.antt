use Rattle.std.proofs.Common.{◌<◌, ◌-◌, ◌^◌, ◌∙◌, ap, subst, sym}
use Rattle.mvd_replica.specs.Commits.{AnswersInCommits}
use Rattle.mvd_host.proofs.Changing.{each_changes, uncounted}
use Rattle.mvd_host.proofs.Remembering.{still_lists, still_notes}
use Rattle.mvd_host.proofs.feed.Feed.answer.Goals as goal

pub returns-in-Err-clause-lists : goal.returns-in-Err-clause-lists
returns-in-Err-clause-lists g c =
    still_lists c.args.self.now c.args.replica.now.site.states c.answer_all.new.self.site.states (ap (λ r. r.site.states) c.in-Err.ensures.memory.1)

-- where nothing was counted
pub returns-then-not-is_counted-clause-notes : goal.returns-then-not-is_counted-clause-notes
returns-then-not-is_counted-clause-notes g c =
    let requests = c.deref.result.now in
    let old = c.args.replica.now in
    let new = c.answer_all.new.self in
    let still = c.is_counted.ensures c.if-not-is_counted.true in
    let same = sym c.commits.ensures ∙ still.0 ∙ c.commits-commits.ensures in
    let site = uncounted requests c.in-Ok.replies.items old new c.in-Ok.ensures.answers same (subst (λ n. n < 2 ^ 64 - 1) c.commits-commits.ensures still.1) in
    still_notes c.args.requests.items c.args.self.now old.site.states new.site.states (ap (λ s. s.states) site)

pub returns-then-not-is_counted-clause-lists : goal.returns-then-not-is_counted-clause-lists
returns-then-not-is_counted-clause-lists g c =
    let requests = c.deref.result.now in
    let old = c.args.replica.now in
    let new = c.answer_all.new.self in
    let still = c.is_counted.ensures c.if-not-is_counted.true in
    let same = sym c.commits.ensures ∙ still.0 ∙ c.commits-commits.ensures in
    let site = uncounted requests c.in-Ok.replies.items old new c.in-Ok.ensures.answers same (subst (λ n. n < 2 ^ 64 - 1) c.commits-commits.ensures still.1) in
    still_lists c.args.self.now old.site.states new.site.states (ap (λ s. s.states) site)

-- where something may have been
pub returns-clause-lists : goal.returns-clause-lists
returns-clause-lists g c =
    let old = c.args.replica.now in
    let new = c.answer_all.new.self in
    c.follow.ensures.lists old.site.states (each_changes c.args.requests.items c.in-Ok.replies.items old new (subst (λ l. AnswersInCommits l c.in-Ok.replies.items old new) c.deref.ensures.value c.in-Ok.ensures.answers))
