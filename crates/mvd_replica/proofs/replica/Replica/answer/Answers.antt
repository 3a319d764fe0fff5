use Rattle.std.proofs.Common.{refl, sym, subst}
use Rattle.mvd_wire.specs.declared.reply.Reply.TheVariants.{Refused}
use Rattle.mvd_replica.specs.Commits.{AnswersOneRequest}
use Rattle.mvd_replica.proofs.Commits.{commits_nothing}
use Rattle.mvd_replica.proofs.Putting.{one_forgone, one_prepared, whole_change}
use Rattle.mvd_replica.proofs.replica.Replica.answer.Goals as goal

-- nothing is to be stored
pub returns-in-Answer : goal.returns-in-Answer
returns-in-Answer g c =
    commits_nothing _ c.args.self.now
    (c.args.self.now.site, one_prepared c.args.self.now.site c.args.request.now c.in-Answer.reply c.in-Answer.ensures.broken c.in-Answer.ensures.comes, refl)

pub put_in-requires-clause-whole : goal.put_in-requires-clause-whole
put_in-requires-clause-whole g c = whole_change c.args.self.now.site.broken c.in-Change.change c.in-Change.ensures.broken

pub put_in-requires-clause-alone : goal.put_in-requires-clause-alone
put_in-requires-clause-alone g c = (c.args.request.now, c.in-Change.ensures.comes (whole_change c.args.self.now.site.broken c.in-Change.change c.in-Change.ensures.broken))

-- a change was put in
pub returns-in-Ok : goal.returns-in-Ok
returns-in-Ok g c = c.in-Ok.ensures.ok c.args.request.now (c.in-Change.ensures.comes (whole_change c.args.self.now.site.broken c.in-Change.change c.in-Change.ensures.broken))

-- memory was refused for it
pub returns-in-Err : goal.returns-in-Err
returns-in-Err g c =
    let old = c.args.self.now in
    let whole = whole_change old.site.broken c.in-Change.change c.in-Change.ensures.broken in
    subst (λ r. AnswersOneRequest old c.args.request.now (Refused c.in-Err.refusal) r) (sym c.in-Err.ensures.err.1)
    (commits_nothing _ old (old.site, one_forgone old.site c.args.request.now c.in-Change.change c.in-Err.refusal whole c.in-Err.ensures.err.0 (c.in-Change.ensures.comes whole), refl))
